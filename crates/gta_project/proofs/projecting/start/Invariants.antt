use Rattle.std.proofs.Common.{◌≡◌, ℕ, List, length, Some, slice_get}
use Rattle.gta_theory.specs.Automata.{Automaton}
use Rattle.gta_subsets.specs.Subsets.{subsets}
use Rattle.gta_project.specs.Building.{IsSpaceOf}
use Rattle.gta_project.proofs.projecting.start.Given as goal

abbrev pub invariant-loop-space : goal.invariant-loop-space
invariant-loop-space l = record {
  many : length l.spaces.items ≡ l.space;
  each : (A : Automaton ℕ) (track s : ℕ) (numbers : List (List ℕ)) → slice_get l.spaces.items s ≡ Some numbers →
      IsSpaceOf l.g (subsets A track l.initials) s numbers;
}
