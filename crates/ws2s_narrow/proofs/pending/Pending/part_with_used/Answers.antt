use Rattle.std.proofs.Common.{◌≡◌, take, subst, rules, arith}
use Rattle.std.proofs.lemmas.Grind.{common_steps}
use Rattle.std.specs.List.{AllByRecursion}
use Rattle.ws2s_narrow.specs.Pending.{IsAmong}
use Rattle.ws2s_narrow.proofs.HandingLemmas.{Halfway-start, Halfway-more, Halfway-placed, Halfway-ascends}
use Rattle.ws2s_narrow.proofs.pending.Pending.part_with_used.Goals as goal

pub loop-track-init : goal.loop-track-init
loop-track-init c = Halfway-start c.args.self.now c.args.gone.now c.requires.none

pub hand_over-requires : goal.hand_over-requires
hand_over-requires c = Halfway-ascends c.args.self.now _ c.loop-track.self c.loop-track.gone c.requires.sound.ascends c.loop-track.invariant

pub loop-track-preserved : goal.loop-track-preserved
loop-track-preserved c = Halfway-more c.args.self.now c.requires.sound.placed c.requires.sound.ascends c.args.tracks.now c.loop-track.track-index
    c.loop-track-test.true c.loop-track.self c.loop-track.gone c.loop-track.invariant c.hand_over.new.self c.hand_over.new.gone
    c.in_ok-hand_over.ensures.hands

pub returns-clause-stays : goal.returns-clause-stays
returns-clause-stays c =
    let whole : take c.loop-track.track-index c.args.tracks.now ≡ c.args.tracks.now = first_of (search rules, grind (arith, common_steps)) in
    subst (λ tracks. AllByRecursion (λ next. IsAmong tracks next → ⊥) c.loop-track.self.waiting.entries) whole c.loop-track.invariant.left

pub returns-clause-placed : goal.returns-clause-placed
returns-clause-placed c = Halfway-placed c.args.self.now _ c.loop-track.self c.loop-track.gone c.requires.sound.placed c.loop-track.invariant
