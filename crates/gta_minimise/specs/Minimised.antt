-- The Size of minimal automata that accept the same.
use Rattle.std.specs.Prelude.{ℕ, Bool, ◌↔◌}
use Rattle.gta_theory.specs.Assignments.{Assignment}
use Rattle.gta_theory.specs.Guides.{Spaces}
use Rattle.gta_theory.specs.Automata.{Automaton, Accepts, Has}
use Rattle.gta_theory.specs.Minimal.{IsMinimal}
use Rattle.gta_theory.specs.Sizes.{SizeOf}

-- a minimal automaton that accepts what A accepts has that Size
pub record HasMinimisedSize (g : Spaces) (A : Automaton ℕ) (n : ℕ) : Type 0 where
  pub automaton : Automaton ℕ
  pub states : ℕ → ℕ → Bool
  pub is_minimal : IsMinimal g automaton (Has states)
  pub same : (a : Assignment) → Accepts g automaton a ↔ Accepts g A a
  pub is_size : SizeOf g automaton (Has states) n
