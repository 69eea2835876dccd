use Rattle.std.proofs.Common.{subst, nat_eq}
use Rattle.std.specs.HashMap.{get}
use Rattle.ws2s_narrow.proofs.MovingLemmas.{Ascends-first, Ascends-ordered}
use Rattle.ws2s_narrow.specs.Waiting.{Ascends}
use Rattle.ws2s_narrow.proofs.HandingLemmas.{within-none, begins-there, placed-first, placed-kept}
use Rattle.ws2s_narrow.proofs.pending.Pending.take_staying.Goals as goal

pub returns-in_ok-staying-in-Some-clause-within : goal.returns-in_ok-staying-in-Some-clause-within
returns-in_ok-staying-in-Some-clause-within c = within-none c.args.tracks.now c.in-Some.number c.args.self.now.waiting.entries
    c.take_from.new.self.waiting.entries c.in_ok-staying-in-Some.staying.entries c.in_ok-staying-in-Some.ensures.parts c.in-Some.ensures
    c.in_ok-staying-in-Some.ensures.below c.in_ok-staying-in-Some.ensures.from

pub returns-in_ok-staying-in-Some-clause-begins : goal.returns-in_ok-staying-in-Some-clause-begins
returns-in_ok-staying-in-Some-clause-begins c = begins-there c.args.tracks.now c.in-Some.number c.args.self.now.waiting.entries
    c.take_from.new.self.waiting.entries c.in_ok-staying-in-Some.staying.entries c.in_ok-staying-in-Some.ensures.parts c.in-Some.ensures
    c.in_ok-staying-in-Some.ensures.below c.in_ok-staying-in-Some.ensures.from
    (Ascends-ordered c.in_ok-staying-in-Some.staying.entries c.in_ok-staying-in-Some.ensures.ordered)

pub returns-in_ok-staying-in-Some-clause-sound : goal.returns-in_ok-staying-in-Some-clause-sound
returns-in_ok-staying-in-Some-clause-sound c = record {
  ascends = Ascends-first c.take_from.new.self.waiting.entries c.in_ok-staying-in-Some.staying.entries
      (subst Ascends c.in_ok-staying-in-Some.ensures.parts c.requires.ascends);
  placed = placed-kept c.take_from.new.self c.args.self.now c.in_ok-staying-in-Some.ensures.places c.in_ok-staying-in-Some.ensures.idle
      (placed-first (get nat_eq c.args.self.now.places) c.args.self.now.idle.items c.args.self.now.waiting.entries
      c.take_from.new.self.waiting.entries c.in_ok-staying-in-Some.staying.entries c.in_ok-staying-in-Some.ensures.parts c.requires.placed);
}
