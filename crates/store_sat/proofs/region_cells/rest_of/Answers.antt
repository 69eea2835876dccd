use Rattle.std.proofs.Common.{◌≡◌, ℕ, ◌+◌, ◌∙◌, sym, ap, subst, arith, Some, None, Option, slice_get, List, Contains}
use Rattle.std.specs.Prelude.{option_map}
use Rattle.std.specs.FinMap.{keys}
use Rattle.std.proofs.lemmas.Bool.{both_ways}
use Rattle.store_core.specs.declared.ids.CellId.{CellId}
use Rattle.routing_walks.specs.Sets.{Lists}
use Rattle.routing_expr.proofs.ReachLemmas.{IsTakenOfFirst, taken_none, taken_below, taken_step, left_step, taken_all}
use Rattle.store_sat.proofs.region_cells.rest_of.Goals as goal
use Rattle.store_sat.proofs.region_cells.rest_of.Goals.{then-not-has+in_ok-push, else-not-has}

abbrev cell_id : ℕ → CellId
cell_id n = record { 0 = n }

key_is : (o : Option ℕ) (c : CellId) → option_map cell_id o ≡ Some c → o ≡ Some c.0
key_is None c e = cc
key_is (Some n) c e = let same : cell_id n ≡ c = cc in ap (λ (d : CellId). Some d.0) same

pub loop-place-init : goal.loop-place-init
loop-place-init c = taken_none c.args.store.now (Contains c.args.cells.now) _ c.new-rest.ensures

pub push-requires : goal.push-requires
push-requires c = taken_below c.args.store.now (Contains c.args.cells.now) c.loop-place.place c.in-Some.cell c.loop-place.rest
    (key_is _ _ (sym c.in-Some.ensures)) c.loop-place.invariant

pub loop-place-preserved : goal.loop-place-preserved
loop-place-preserved c =
    let s = c.args.store.now in
    let IsIn = Contains c.args.cells.now in
    let key = key_is (slice_get (keys s.cells) c.loop-place.place) c.in-Some.cell (sym c.in-Some.ensures) in
    elim c.if-not-has.branch [
      | then-not-has+in_ok-push w ↦ subst (Lists (IsTakenOfFirst s IsIn (c.loop-place.place + 1))) (sym (w.rest-is ∙ w.in_ok-push.ensures.ok))
          (taken_step s IsIn c.loop-place.place c.in-Some.cell c.loop-place.rest key
          (λ h. both_ways c.has.result w.if-not-has.true
          (c.has.ensures.1 (subst (λ (xs : List CellId). Contains xs c.in-Some.cell) (sym c.as_slice.ensures.value) h))) c.loop-place.invariant)
      | else-not-has w ↦ subst (Lists (IsTakenOfFirst s IsIn (c.loop-place.place + 1))) (sym w.rest-is)
          (left_step s IsIn c.loop-place.place c.in-Some.cell c.loop-place.rest key
          (subst (λ (xs : List CellId). Contains xs c.in-Some.cell) c.as_slice.ensures.value (c.has.ensures.0 w.if-not-has.false)) c.loop-place.invariant)
    ]

pub returns : goal.returns
returns c = taken_all c.args.store.now (Contains c.args.cells.now) c.loop-place.place c.loop-place.rest
    (omega (arith, c.loop-place-test.false, c.cells-place-end.ensures)) c.loop-place.invariant
