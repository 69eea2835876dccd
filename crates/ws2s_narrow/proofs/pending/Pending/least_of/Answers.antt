use Rattle.std.proofs.Common.{subst, sym}
use Rattle.std.proofs.Common.{take, ◌+◌}
use Rattle.ws2s_narrow.specs.Pending.{IsLeastAmong}
use Rattle.ws2s_narrow.proofs.HandingLemmas.{IsLeastAmong-more}
use Rattle.ws2s_narrow.proofs.pending.Pending.least_of.Goals as goal

pub loop-track-preserved : goal.loop-track-preserved
loop-track-preserved c =
    subst (IsLeastAmong (take (c.loop-track.track-index + 1) c.args.tracks.now) c.args.self.now.waiting.entries) (sym c.lesser-least.ensures)
    (IsLeastAmong-more c.args.tracks.now c.loop-track.track-index c.args.self.now.waiting.entries c.loop-track-test.true c.loop-track.least
    c.place_of-place.result c.loop-track.invariant c.place_of-place.ensures.there
    (c.place_of-place.ensures.only c.args.self.now.idle.items c.requires.placed))
