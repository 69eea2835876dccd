use Rattle.std.proofs.Common.{◌≡◌, List, Some, ap, subst, arith}
use Rattle.store_core.specs.Tables.{TypeEntry, variant_count}
use Rattle.routing_walks.specs.Gathering.{Gathers}
use Rattle.routing_walks.proofs.GatheringLemmas.{Gathers-start, Gathers-next, Gathers-alike}
use Rattle.field_judge.proofs.WeighedLemmas.{TrackAt, tracks-of_type}
use Rattle.field_judge.proofs.weighing.push_tracks.Goals as goal

pub loop-index-init : goal.loop-index-init
loop-index-init c = Gathers-start (TrackAt c.args.l.now.types c.args.ty) c.args.tracks.now

pub loop-index-preserved : goal.loop-index-preserved
loop-index-preserved c =
    let At = TrackAt c.args.l.now.types c.args.ty in
    let i = c.loop-index.index in
    Gathers-next At i c.args.tracks.now c.loop-index.tracks c.push_track.new.tracks c.loop-index.invariant
    (subst (λ o. Gathers c.loop-index.tracks c.push_track.new.tracks (λ t. o ≡ Some t)) c.variant_track.ensures c.in_ok-push_track.ensures)

pub returns : goal.returns
returns c =
    let types = c.args.l.now.types in
    Gathers-alike c.args.tracks.now c.loop-index.tracks _ _ c.loop-index.invariant
    (tracks-of_type types c.args.ty c.loop-index.index
    (omega (arith, c.loop-index-test.false, c.variants-index-end.ensures, ap (λ (ts : List TypeEntry). variant_count ts c.args.ty) c.types.ensures.value)))
