-- The functions of a row.
use Rattle.std.proofs.Common.{◌≡◌, ℕ, subst, arith, inl, inr}
use Rattle.std.specs.Prelude.{slice_index_or}
use Rattle.std.proofs.lemmas.Bool.{cases_lt}
use Rattle.std.proofs.lemmas.List.{get_or_default}
use Rattle.gta_witness.specs.declared.goal.Goal.TheVariants.{Row}
use Rattle.gta_witness.specs.Rules.{key}
use Rattle.gta_witness.specs.Searching.{found_by, weighs_in}
use Rattle.gta_witness.specs.Following.{FollowsCell}
use Rattle.gta_witness.proofs.SearchLemmas.{GoesOn-trans}
use Rattle.gta_witness.proofs.ExpandLemmas.{FollowsCell-kept}
use Rattle.gta_witness.proofs.expand.expand_row.Goals as goal

pub expand_cell-requires-clause-search : goal.expand_cell-requires-clause-search
expand_cell-requires-clause-search c = c.loop-column.invariant.goes_on.is_search

pub expand_cell-requires-clause-settled : goal.expand_cell-requires-clause-settled
expand_cell-requires-clause-settled c =
    inl (c.loop-column.invariant.goes_on.improves.settled (Row c.args.space c.args.row) c.args.weight c.requires.settled)

pub loop-column-preserved : goal.loop-column-preserved
loop-column-preserved c = record {
  goes_on = GoesOn-trans c.args.form.now (weighs_in c.args.weighed.now) (key c.args.weight) c.args.search.now c.loop-column.search c.expand_cell.new.search
      c.loop-column.invariant.goes_on c.in_ok-expand_cell.ensures.goes_on;
  cells = λ k d below. elim (cases_lt k c.loop-column.column-index) [
    | inl before ↦ FollowsCell-kept c.args.form.now (weighs_in c.args.weighed.now) (found_by c.loop-column.search) (found_by c.expand_cell.new.search)
        c.args.space c.args.row
        (slice_index_or c.args.columns.now k d) c.in_ok-expand_cell.ensures.goes_on.improves (c.loop-column.invariant.cells k d before)
    | inr here ↦
        let e : c.loop-column.column-index ≡ k = omega arith in
        subst (λ (j : ℕ). FollowsCell c.args.form.now (found_by c.expand_cell.new.search) c.args.space c.args.row (slice_index_or c.args.columns.now j d)) e
        (subst (λ (x : ℕ). FollowsCell c.args.form.now (found_by c.expand_cell.new.search) c.args.space c.args.row x)
        (get_or_default c.args.columns.now c.loop-column.column-index 0 d
        (let t = c.loop-column-test.true in let b = c.loop-column.auto.column-index-end in omega arith))
        c.in_ok-expand_cell.ensures.cell)
  ];
}
