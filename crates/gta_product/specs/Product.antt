-- The product of two automata of a shelf.
use Rattle.std.specs.Prelude.{ℕ}
use Rattle.gta_theory.specs.Guides.{Spaces}
use Rattle.gta_theory.specs.Automata.{Automaton}
use Rattle.gta_theory.specs.Constructions.{IsProduct}
use Rattle.gta_theory.specs.Numbered.{Below}

-- C is the product of A and B, and its states are the numbers below a count in each space
pub record IsProductOf (g : Spaces) (A B C : Automaton ℕ) (count : ℕ → ℕ) : Type 0 where
  pub pair : ℕ → ℕ → ℕ × ℕ
  pub product : IsProduct g A B C (Below count) pair
