use Rattle.std.proofs.Common.{◌≡◌, [], drop, nat_eq}
use Rattle.std.specs.HashMap.{get}
use Rattle.ws2s_narrow.proofs.HandingLemmas.{HalfwayIdle}
use Rattle.ws2s_narrow.proofs.pending.Pending.part_with_idle.Given as goal

abbrev pub invariant-loop-number : goal.invariant-loop-number
invariant-loop-number l = record {
  half : HalfwayIdle (get nat_eq l.initial.self.places) l.number-items (drop l.number-index l.number-items) l.initial.self.waiting.entries
      l.initial.gone.waiting.entries l.self.waiting.entries l.gone.waiting.entries (get nat_eq l.initial.gone.places);
  places : l.self.places ≡ l.initial.self.places;
  idle : l.self.idle.items ≡ [];
  known : l.gone.places ≡ l.initial.gone.places;
}
