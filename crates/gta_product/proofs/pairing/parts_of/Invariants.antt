use Rattle.std.proofs.Common.{◌≡◌, ◌≤◌, ℕ, length, slice_get}
use Rattle.bdd_nodes.specs.Shelf.{Contents}
use Rattle.gta_theory.specs.Automata.{Automaton}
use Rattle.gta_core.specs.Auto.{AutoView}
use Rattle.gta_product.specs.Building.{AreParts}
use Rattle.gta_product.specs.Growing.{AreDone}
use Rattle.gta_product.proofs.pairing.parts_of.Given as goal

abbrev pub invariant-loop-space : goal.invariant-loop-space
invariant-loop-space l = record {
  many : length l.parts ≡ l.space;
  same : length l.growths.items ≡ length l.fn.growths.items;
  rest : (s : ℕ) → l.space ≤ s → slice_get l.growths.items s ≡ slice_get l.fn.growths.items s;
  parts : (AB : Automaton (ℕ × ℕ)) (a b : AutoView) (shelf : Contents) → AreDone l.g AB a b l.numbers.items shelf l.fn.growths.items →
      AreParts l.g AB a b l.numbers.items shelf l.roots l.parts;
}
