use Rattle.std.proofs.Common.{List, [], length, sym, ap, subst, arith}
use Rattle.store_core.specs.Tables.{TypeEntry, IsTypeTable}
use Rattle.routing_walks.specs.Gathering.{Gathers, Before}
use Rattle.routing_walks.proofs.GatheringLemmas.{Gathers-start, Gathers-next, HasAll-gathered, HasAll-alike}
use Rattle.field_judge.specs.Weighed.{IsVariantTrack}
use Rattle.field_judge.proofs.WeighedLemmas.{TrackIn, tracks-of_all}
use Rattle.field_judge.proofs.weighing.weighed.Goals as goal

pub loop-index-init : goal.loop-index-init
loop-index-init c =
    let In = TrackIn c.args.l.now.types in
    subst (λ l. Gathers [] l (Before In 0)) (sym c.new-tracks.ensures) (Gathers-start In [])

pub loop-index-preserved : goal.loop-index-preserved
loop-index-preserved c =
    Gathers-next (TrackIn c.args.l.now.types) c.loop-index.index [] c.loop-index.tracks c.push_tracks.new.tracks c.loop-index.invariant
    c.in_ok-push_tracks.ensures

pub returns-clause-value : goal.returns-clause-value
returns-clause-value c =
    let types = c.args.l.now.types in
    let In = TrackIn types in
    let n = c.loop-index.index in
    HasAll-alike c.loop-index.tracks (Before In n) (IsVariantTrack types) (HasAll-gathered c.loop-index.tracks (Before In n) c.loop-index.invariant)
    (tracks-of_all types n (omega (
      arith,
      c.loop-index-test.false,
      c.types-index-end.ensures.value,
      ap (λ (ts : List TypeEntry). length ts)
          c.types.ensures.value,
    )))

pub returns-clause-inside : goal.returns-clause-inside
returns-clause-inside c = subst IsTypeTable c.types.ensures.value c.types-index-end.ensures.inside

pub returns-in_err-push_tracks-clause-inside : goal.returns-in_err-push_tracks-clause-inside
returns-in_err-push_tracks-clause-inside c = subst IsTypeTable c.types.ensures.value c.types-index-end.ensures.inside
