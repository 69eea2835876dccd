use Rattle.std.proofs.Common.{arith, sym, subst, []}
use Rattle.routing_walks.specs.Gathering.{Gathers, Before}
use Rattle.routing_walks.proofs.GatheringLemmas.{Gathers-start, Gathers-next, Gathers-alike, HasAll-gathered, HasAll-alike}
use Rattle.witness_store.specs.PointerFinding.{IsPointing}
use Rattle.witness_store.proofs.FindingLemmas.{PointingOf, PointingOf-cell, PointingOf-all}
use Rattle.witness_store.proofs.finding.find_pointings.Goals as goal

pub loop-place-init : goal.loop-place-init
loop-place-init c =
    let At = PointingOf c.args.types.now c.args.store.now in
    subst (λ l. Gathers [] l (Before At 0)) (sym c.new-found.ensures.items) (Gathers-start At [])

pub loop-place-preserved : goal.loop-place-preserved
loop-place-preserved c =
    let At = PointingOf c.args.types.now c.args.store.now in
    Gathers-next At c.loop-place.place [] c.loop-place.found.items c.push_pointings.new.found.items c.loop-place.invariant
    (Gathers-alike c.loop-place.found.items c.push_pointings.new.found.items _ (At c.loop-place.place) c.in_ok-push_pointings.ensures
    (PointingOf-cell c.args.types.now c.args.store.now c.loop-place.place c.in-Some.cell c.in-Some.ensures))

pub returns : goal.returns
returns c =
    let types = c.args.types.now in
    let s = c.args.store.now in
    HasAll-alike c.loop-place.found.items (Before (PointingOf types s) c.loop-place.place) (IsPointing types s)
    (HasAll-gathered c.loop-place.found.items (Before (PointingOf types s) c.loop-place.place) c.loop-place.invariant)
    (PointingOf-all types s c.loop-place.place (omega (arith, c.loop-place-test.false, c.cells-place-end.ensures)))
