use Rattle.std.proofs.Common.{◌≡◌, ◌+◌, drop, get_or, subst, rules, arith, refl, nat_eq}
use Rattle.std.proofs.lemmas.Grind.{common_steps}
use Rattle.std.specs.HashMap.{get}
use Rattle.ws2s_narrow.proofs.HandingLemmas.{HalfwayIdle, HalfwayIdle-start, HalfwayIdle-more, none-idle, idle-next, idle-end, placed-at}
use Rattle.ws2s_narrow.proofs.pending.Pending.part_with_idle.Goals as goal

pub loop-number-init : goal.loop-number-init
loop-number-init c =
    let same : c.args.self.now.idle.items ≡ c.as_slice-number-items.result.now = first_of (search rules, grind (arith, common_steps)) in
    record {
      half = subst (λ idle. HalfwayIdle (get nat_eq c.args.self.now.places) idle idle c.args.self.now.waiting.entries
          c.args.gone.now.waiting.entries c.args.self.now.waiting.entries c.args.gone.now.waiting.entries (get nat_eq c.args.gone.now.places))
          same
          (HalfwayIdle-start (get nat_eq c.args.self.now.places) (get nat_eq c.args.gone.now.places) c.args.self.now.idle.items
          c.args.self.now.waiting.entries c.args.gone.now.waiting.entries c.args.gone.now.idle.items c.requires.ascends c.requires.placed
          c.requires.gone_placed c.requires.used);
      places = refl;
      idle = first_of (search rules, grind (arith, common_steps));
      known = refl;
    }

pub loop-number-preserved : goal.loop-number-preserved
loop-number-preserved c = record {
  half = HalfwayIdle-more (get nat_eq c.args.self.now.places) (get nat_eq c.args.gone.now.places) c.as_slice-number-items.result.now
      (drop (c.loop-number.number-index + 1) c.as_slice-number-items.result.now)
      (get_or c.as_slice-number-items.result.now c.loop-number.number-index 0)
      c.args.self.now.waiting.entries c.args.gone.now.waiting.entries c.loop-number.self.waiting.entries c.loop-number.gone.waiting.entries
      (idle-next (get nat_eq c.args.self.now.places) (get nat_eq c.args.gone.now.places) c.as_slice-number-items.result.now c.loop-number.number-index
      c.args.self.now.waiting.entries c.args.gone.now.waiting.entries c.loop-number.self.waiting.entries c.loop-number.gone.waiting.entries
      c.loop-number-test.true c.loop-number.invariant.half)
      c.hand_idle.new.waiting.entries c.hand_idle.new.gone.entries c.in_ok-hand_idle.ensures.hands;
  places = c.loop-number.invariant.places;
  idle = c.loop-number.invariant.idle;
  known = c.loop-number.invariant.known;
}

pub returns-clause-stays : goal.returns-clause-stays
returns-clause-stays c = none-idle c.loop-number.self.waiting.entries
    (idle-end c.as_slice-number-items.result.now c.loop-number.number-index c.loop-number.self.waiting.entries c.loop-number-test.false
    c.loop-number.invariant.half.left)

pub returns-clause-placed : goal.returns-clause-placed
returns-clause-placed c = placed-at c.loop-number.self c.args.self.now c.as_slice-number-items.result.now c.loop-number.invariant.places
    (none-idle c.loop-number.self.waiting.entries
    (idle-end c.as_slice-number-items.result.now c.loop-number.number-index c.loop-number.self.waiting.entries c.loop-number-test.false
    c.loop-number.invariant.half.left)) c.loop-number.invariant.half.placed
