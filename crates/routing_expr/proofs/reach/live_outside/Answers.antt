use Rattle.std.proofs.Common.{◌≡◌, ℕ, ◌+◌, ◌∙◌, sym, ap, subst, arith, Some, None, Option, slice_get}
use Rattle.std.specs.Prelude.{option_map}
use Rattle.std.specs.FinMap.{keys}
use Rattle.std.proofs.lemmas.Bool.{both_ways}
use Rattle.store_core.specs.declared.ids.CellId.{CellId}
use Rattle.routing_walks.specs.Sets.{Has, Lists}
use Rattle.routing_expr.proofs.ReachLemmas.{IsTakenOfFirst, taken_below, taken_step, left_step, taken_all}
use Rattle.routing_expr.proofs.reach.live_outside.Goals as goal
use Rattle.routing_expr.proofs.reach.live_outside.Goals.{then-not-contains+in_ok-push, else-not-contains}

abbrev cell_id : ℕ → CellId
cell_id n = record { 0 = n }

key_is : (o : Option ℕ) (c : CellId) → option_map cell_id o ≡ Some c → o ≡ Some c.0
key_is None c e = cc
key_is (Some n) c e = let same : cell_id n ≡ c = cc in ap (λ (d : CellId). Some d.0) same

pub push-requires : goal.push-requires
push-requires c = taken_below c.args.store.now (Has c.args.left.now) c.loop-place.place c.in-Some.cell c.loop-place.cells
    (key_is _ _ (sym c.in-Some.ensures)) c.loop-place.invariant

pub loop-place-preserved : goal.loop-place-preserved
loop-place-preserved c =
    let s = c.args.store.now in
    let IsLeft = Has c.args.left.now in
    let key = key_is (slice_get (keys s.cells) c.loop-place.place) c.in-Some.cell (sym c.in-Some.ensures) in
    elim c.if-not-contains.branch [
      | then-not-contains+in_ok-push w ↦ subst (Lists (IsTakenOfFirst s IsLeft (c.loop-place.place + 1))) (sym (w.cells-is ∙ w.in_ok-push.ensures.ok))
          (taken_step s IsLeft c.loop-place.place c.in-Some.cell c.loop-place.cells key
          (λ h. both_ways c.contains.result w.if-not-contains.true (c.contains.ensures ∙ h)) c.loop-place.invariant)
      | else-not-contains w ↦ subst (Lists (IsTakenOfFirst s IsLeft (c.loop-place.place + 1))) (sym w.cells-is)
          (left_step s IsLeft c.loop-place.place c.in-Some.cell c.loop-place.cells key (sym c.contains.ensures ∙ w.if-not-contains.false)
          c.loop-place.invariant)
    ]

pub returns : goal.returns
returns c = taken_all c.args.store.now (Has c.args.left.now) c.loop-place.place c.loop-place.cells
    (omega (arith, c.loop-place-test.false, c.cells-place-end.ensures)) c.loop-place.invariant
