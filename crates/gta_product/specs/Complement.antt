-- The complement over the states that an automaton has.
use Rattle.std.specs.Prelude.{◌≡◌, ℕ, ◌<◌, not}
use Rattle.labels.specs.Labels.{Label}
use Rattle.gta_theory.specs.Automata.{Automaton}

-- the same initial states and steps, and of the states of space 0, which are the numbers below, the others are accepting
pub record IsComplement (A C : Automaton ℕ) (states : ℕ) : Type 0 where
  pub initial : (s : ℕ) → C.initial s ≡ A.initial s
  pub step : (s p q : ℕ) (label : Label) → C.step s p q label ≡ A.step s p q label
  pub accepting : (q : ℕ) → q < states → C.accepting q ≡ not (A.accepting q)
