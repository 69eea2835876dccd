-- Automata that agree in the spaces of a guide: they differ where no value comes from.
use Rattle.std.specs.Prelude.{◌≡◌, ℕ}
use Rattle.labels.specs.Labels.{Label}
use Rattle.gta_theory.specs.Guides.{Spaces, IsSpace}
use Rattle.gta_theory.specs.Automata.{Automaton}

-- the same initial states and steps in each space, and the same accepting states
pub record AgreeIn (g : Spaces) (A B : Automaton ℕ) : Type 0 where
  pub initial : (s : ℕ) → IsSpace g s → A.initial s ≡ B.initial s
  pub step : (s p q : ℕ) (label : Label) → IsSpace g s → A.step s p q label ≡ B.step s p q label
  pub accepting : (q : ℕ) → A.accepting q ≡ B.accepting q
