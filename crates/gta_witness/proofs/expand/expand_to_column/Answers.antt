-- A state comes to its column.
use Rattle.std.proofs.Common.{◌≡◌, sym, arith}
use Rattle.gta_witness.specs.Rules.{key}
use Rattle.gta_witness.specs.Searching.{found_by, weighs_in}
use Rattle.gta_witness.proofs.ExpandLemmas.{column-justified, column-follows}
use Rattle.gta_witness.proofs.expand.expand_to_column.Goals as goal

pub returns-clause-goes_on : goal.returns-clause-goes_on
returns-clause-goes_on c =
    let form = c.args.form.now in
    let weighs = weighs_in c.args.weighed.now in
    let part = c.in-Some.part.now in
    let child : part.children.1 ≡ c.args.space = (let f = c.if-part-space.false in omega arith) in
    (c.in_ok-relax.ensures form weighs (key c.args.weight) c.requires.search (omega arith)
    (column-justified form weighs (found_by c.args.search.now) c.args.t c.args.space c.args.state c.in-Some-get.class.now c.args.weight part
    (sym c.in-Some.ensures.value) child (sym c.in-Some-get.ensures.value) c.requires.settled)).0

pub returns-clause-column : goal.returns-clause-column
returns-clause-column c =
    let form = c.args.form.now in
    let weighs = weighs_in c.args.weighed.now in
    let part = c.in-Some.part.now in
    let child : part.children.1 ≡ c.args.space = (let f = c.if-part-space.false in omega arith) in
    column-follows form weighs (found_by c.relax.new.search) c.args.t c.args.space c.args.state c.in-Some-get.class.now c.args.weight part
    (sym c.in-Some.ensures.value) (sym c.in-Some-get.ensures.value)
    (c.in_ok-relax.ensures form weighs (key c.args.weight) c.requires.search (omega arith)
    (column-justified form weighs (found_by c.args.search.now) c.args.t c.args.space c.args.state c.in-Some-get.class.now c.args.weight part
    (sym c.in-Some.ensures.value) child (sym c.in-Some-get.ensures.value) c.requires.settled)).1
