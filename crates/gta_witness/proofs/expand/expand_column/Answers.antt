-- The functions of a column.
use Rattle.std.proofs.Common.{◌≡◌, ℕ, subst, arith, inl, inr}
use Rattle.std.specs.Prelude.{slice_index_or}
use Rattle.std.proofs.lemmas.Bool.{cases_lt}
use Rattle.std.proofs.lemmas.List.{get_or_default}
use Rattle.gta_witness.specs.declared.goal.Goal.TheVariants.{Column}
use Rattle.gta_witness.specs.Rules.{key}
use Rattle.gta_witness.specs.Searching.{found_by, weighs_in}
use Rattle.gta_witness.specs.Following.{FollowsCell}
use Rattle.gta_witness.proofs.SearchLemmas.{GoesOn-trans}
use Rattle.gta_witness.proofs.ExpandLemmas.{FollowsCell-kept}
use Rattle.gta_witness.proofs.expand.expand_column.Goals as goal

pub expand_cell-requires-clause-search : goal.expand_cell-requires-clause-search
expand_cell-requires-clause-search c = c.loop-row.invariant.goes_on.is_search

pub expand_cell-requires-clause-settled : goal.expand_cell-requires-clause-settled
expand_cell-requires-clause-settled c =
    inr (c.loop-row.invariant.goes_on.improves.settled (Column c.args.space c.args.column) c.args.weight c.requires.settled)

pub loop-row-preserved : goal.loop-row-preserved
loop-row-preserved c = record {
  goes_on = GoesOn-trans c.args.form.now (weighs_in c.args.weighed.now) (key c.args.weight) c.args.search.now c.loop-row.search c.expand_cell.new.search
      c.loop-row.invariant.goes_on c.in_ok-expand_cell.ensures.goes_on;
  cells = λ k d below. elim (cases_lt k c.loop-row.row-index) [
    | inl before ↦ FollowsCell-kept c.args.form.now (weighs_in c.args.weighed.now) (found_by c.loop-row.search) (found_by c.expand_cell.new.search) c.args.space
        (slice_index_or c.args.rows.now k d) c.args.column c.in_ok-expand_cell.ensures.goes_on.improves (c.loop-row.invariant.cells k d before)
    | inr here ↦
        let e : c.loop-row.row-index ≡ k = omega arith in
        subst (λ (j : ℕ). FollowsCell c.args.form.now (found_by c.expand_cell.new.search) c.args.space (slice_index_or c.args.rows.now j d) c.args.column) e
        (subst (λ (x : ℕ). FollowsCell c.args.form.now (found_by c.expand_cell.new.search) c.args.space x c.args.column)
        (get_or_default c.args.rows.now c.loop-row.row-index 0 d (let t = c.loop-row-test.true in let b = c.loop-row.auto.row-index-end in omega arith))
        c.in_ok-expand_cell.ensures.cell)
  ];
}
