-- Two classes come to where their function begins.
use Rattle.std.proofs.Common.{◌≤◌, ℕ, sym, ap, arith, inl, inr, ◌⊎◌}
use Rattle.gta_witness.specs.declared.goal.Goal.TheVariants.{Row, Column}
use Rattle.gta_witness.specs.declared.goal.Weight.{Weight}
use Rattle.gta_witness.specs.Rules.{key}
use Rattle.gta_witness.specs.Searching.{found_by, weighs_in, Findings, IsSettled}
use Rattle.gta_witness.proofs.SearchLemmas.{settled-once}
use Rattle.gta_witness.proofs.ExpandLemmas.{cell-justified, cell-follows, IsSettled-weight}
use Rattle.gta_witness.proofs.expand.expand_cell.Goals as goal

ahead : (found : Findings) (t r c : ℕ) (u v w sum : Weight) → IsSettled found (Row t r) w ⊎ IsSettled found (Column t c) w →
    IsSettled found (Row t r) u → IsSettled found (Column t c) v → key u ≤ key sum → key v ≤ key sum → key w ≤ key sum
ahead found t r c u v w sum (inl one) of_row of_column no_less no_less_other =
    let e = ap key (settled-once found (Row t r) w u one of_row) in omega arith
ahead found t r c u v w sum (inr other) of_row of_column no_less no_less_other =
    let e = ap key (settled-once found (Column t c) w v other of_column) in omega arith

pub returns-clause-goes_on : goal.returns-clause-goes_on
returns-clause-goes_on c =
    let form = c.args.form.now in
    let weighs = weighs_in c.args.weighed.now in
    let found = found_by c.args.search.now in
    let t = c.args.space in
    let of_row = IsSettled-weight found (Row t c.args.row) c.in-Some.left c.in-Some.ensures in
    let of_column = IsSettled-weight found (Column t c.args.column) c.in-Some-settled.right c.in-Some-settled.ensures in
    (c.in_ok-relax.ensures form weighs (key c.args.weight) c.requires.search
    (ahead found t c.args.row c.args.column c.in-Some.left c.in-Some-settled.right c.args.weight c.under_node-sum.result c.requires.settled of_row of_column
    c.under_node-sum.ensures.no_less c.under_node-sum.ensures.no_less_other)
    (cell-justified form weighs found t c.args.row c.args.column c.in-Some-get-2.cell.now c.in-Some.left c.in-Some-settled.right
    c.under_node-sum.result c.in-Some-get.part.now c.in-Some-get-3.listed.now c.goal_of-goal.result
    (sym c.in-Some-get.ensures.value) (sym c.in-Some-get-2.ensures.value) (sym c.in-Some-get-3.ensures.value) c.goal_of-goal.ensures
    of_row of_column (sym c.under_node-sum.ensures.value))).0

pub returns-clause-cell : goal.returns-clause-cell
returns-clause-cell c =
    let form = c.args.form.now in
    let weighs = weighs_in c.args.weighed.now in
    let found = found_by c.args.search.now in
    let t = c.args.space in
    let of_row = IsSettled-weight found (Row t c.args.row) c.in-Some.left c.in-Some.ensures in
    let of_column = IsSettled-weight found (Column t c.args.column) c.in-Some-settled.right c.in-Some-settled.ensures in
    let both = c.in_ok-relax.ensures form weighs (key c.args.weight) c.requires.search
    (ahead found t c.args.row c.args.column c.in-Some.left c.in-Some-settled.right c.args.weight c.under_node-sum.result c.requires.settled of_row of_column
    c.under_node-sum.ensures.no_less c.under_node-sum.ensures.no_less_other)
    (cell-justified form weighs found t c.args.row c.args.column c.in-Some-get-2.cell.now c.in-Some.left c.in-Some-settled.right
    c.under_node-sum.result c.in-Some-get.part.now c.in-Some-get-3.listed.now c.goal_of-goal.result
    (sym c.in-Some-get.ensures.value) (sym c.in-Some-get-2.ensures.value) (sym c.in-Some-get-3.ensures.value) c.goal_of-goal.ensures
    of_row of_column (sym c.under_node-sum.ensures.value)) in
    cell-follows form weighs found (found_by c.relax.new.search) t c.args.row c.args.column c.in-Some-get-2.cell.now c.in-Some.left c.in-Some-settled.right
    c.under_node-sum.result c.in-Some-get.part.now c.in-Some-get-3.listed.now c.goal_of-goal.result
    (sym c.in-Some-get.ensures.value) (sym c.in-Some-get-2.ensures.value) (sym c.in-Some-get-3.ensures.value) c.goal_of-goal.ensures
    of_row of_column (sym c.under_node-sum.ensures.value) both.0.improves both.1
