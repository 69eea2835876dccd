use Rattle.std.proofs.Common.{◌≡◌, ℕ, List, length, Some, slice_get}
use Rattle.gta_core.specs.Auto.{automaton_of}
use Rattle.gta_subsets.specs.Closing.{IsNext}
use Rattle.gta_subsets.proofs.closing.next_sets.Given as goal

abbrev pub invariant-loop-space : goal.invariant-loop-space
invariant-loop-space l = record {
  many : length l.next ≡ l.space;
  each : (s : ℕ) (states : List ℕ) → slice_get l.next s ≡ Some states → IsNext l.g (automaton_of l.shelf l.a) l.track l.sets s states;
}
