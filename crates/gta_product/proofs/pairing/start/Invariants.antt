use Rattle.std.proofs.Common.{◌≡◌, ℕ, List, length, Some, slice_get}
use Rattle.bdd_nodes.specs.Shelf.{Contents}
use Rattle.gta_theory.specs.Constructions.{pairs}
use Rattle.gta_core.specs.Auto.{automaton_of}
use Rattle.gta_product.specs.Building.{IsSpaceOf}
use Rattle.gta_product.proofs.pairing.start.Given as goal

abbrev pub invariant-loop-space : goal.invariant-loop-space
invariant-loop-space l = record {
  many : length l.spaces.items ≡ l.space;
  each : (shelf : Contents) (s : ℕ) (numbers : List (ℕ × ℕ)) → slice_get l.spaces.items s ≡ Some numbers →
      IsSpaceOf l.g (pairs (automaton_of shelf l.a) (automaton_of shelf l.b)) s numbers;
}
