-- A node comes to its sides.
use Rattle.std.proofs.Common.{◌≡◌, ◌≤◌, ℕ, sym, ap, ◌∙◌, arith}
use Rattle.gta_witness.specs.declared.goal.Goal.TheVariants.{Node}
use Rattle.gta_witness.specs.Rules.{bit_cost, key, with_bits}
use Rattle.gta_witness.specs.Searching.{found_by, weighs_in}
use Rattle.gta_witness.proofs.SearchLemmas.{GoesOn-trans}
use Rattle.gta_witness.proofs.ExpandLemmas.{low-justified, high-justified, node-follows}
use Rattle.gta_witness.proofs.expand.expand_node.Goals as goal

pub returns-clause-goes_on : goal.returns-clause-goes_on
returns-clause-goes_on c =
    let form = c.args.form.now in
    let weighs = weighs_in c.args.weighed.now in
    let w = c.args.weight in
    let part = c.in-Some.part.now in
    let node = c.in-Some-get.node.now in
    let sum : with_bits (bit_cost weighs node.track) w ≡ c.with_bits-more.result =
    ap (λ (k : ℕ). with_bits k w) (sym c.cost.ensures) ∙ sym c.with_bits-more.ensures in
    let ahead : key w ≤ key c.with_bits-more.result = (let e = ap key sum in omega arith) in
    let one = c.in_ok-relax.ensures form weighs (key w) c.requires.search (omega arith)
    (low-justified form weighs (found_by c.args.search.now) c.args.space c.args.index w part node c.goal_of-low.result
    (sym c.in-Some.ensures.value) (sym c.in-Some-get.ensures.value) c.goal_of-low.ensures c.requires.settled) in
    let settled = one.0.improves.settled (Node c.args.space c.args.index) w c.requires.settled in
    let two = c.in_ok-relax-2.ensures form weighs (key w) one.0.is_search ahead
    (high-justified form weighs (found_by c.relax.new.search) c.args.space c.args.index w c.with_bits-more.result part node c.goal_of-high.result
    (sym c.in-Some.ensures.value) (sym c.in-Some-get.ensures.value) c.goal_of-high.ensures sum settled) in
    GoesOn-trans form weighs (key w) c.args.search.now c.relax.new.search c.relax-2.new.search one.0 two.0

pub returns-clause-node : goal.returns-clause-node
returns-clause-node c =
    let form = c.args.form.now in
    let weighs = weighs_in c.args.weighed.now in
    let w = c.args.weight in
    let part = c.in-Some.part.now in
    let node = c.in-Some-get.node.now in
    let sum : with_bits (bit_cost weighs node.track) w ≡ c.with_bits-more.result =
    ap (λ (k : ℕ). with_bits k w) (sym c.cost.ensures) ∙ sym c.with_bits-more.ensures in
    let ahead : key w ≤ key c.with_bits-more.result = (let e = ap key sum in omega arith) in
    let one = c.in_ok-relax.ensures form weighs (key w) c.requires.search (omega arith)
    (low-justified form weighs (found_by c.args.search.now) c.args.space c.args.index w part node c.goal_of-low.result
    (sym c.in-Some.ensures.value) (sym c.in-Some-get.ensures.value) c.goal_of-low.ensures c.requires.settled) in
    let settled = one.0.improves.settled (Node c.args.space c.args.index) w c.requires.settled in
    let two = c.in_ok-relax-2.ensures form weighs (key w) one.0.is_search ahead
    (high-justified form weighs (found_by c.relax.new.search) c.args.space c.args.index w c.with_bits-more.result part node c.goal_of-high.result
    (sym c.in-Some.ensures.value) (sym c.in-Some-get.ensures.value) c.goal_of-high.ensures sum settled) in
    node-follows form weighs (found_by c.relax.new.search) (found_by c.relax-2.new.search) c.args.space c.args.index w c.with_bits-more.result part node
    c.goal_of-low.result c.goal_of-high.result (sym c.in-Some.ensures.value) (sym c.in-Some-get.ensures.value) c.goal_of-low.ensures c.goal_of-high.ensures
    sum two.0.improves one.1 two.1
