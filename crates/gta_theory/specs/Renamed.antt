-- Automata with their tracks renamed, each later track to a later number. (The order of variables decides how large a
-- decision diagram is: Bryant 1986.)
use Rattle.std.specs.Prelude.{ℕ, ◌<◌}
use Rattle.gta_theory.specs.Automata.{Automaton}

-- a later track gets a later number
abbrev pub IsIncreasing : (ℕ → ℕ) → Type 0
IsIncreasing r = (t u : ℕ) → t < u → r t < r u

-- the automaton that looks at the track r t where A looks at t
abbrev pub renamed_tracks : {Q : Type 0} → (ℕ → ℕ) → Automaton Q → Automaton Q
renamed_tracks r A = record {
  initial = A.initial;
  step = λ s p q label. A.step s p q (λ t. label (r t));
  accepting = A.accepting;
}
