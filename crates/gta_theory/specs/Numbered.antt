-- Automata whose states are the numbers from 0 on in each space.
use Rattle.std.specs.Prelude.{ℕ, nat_lt}
use Rattle.gta_theory.specs.Guides.{Spaces}
use Rattle.gta_theory.specs.Automata.{Automaton, Has}
use Rattle.gta_theory.specs.Constructions.{IsReached, IsNaming, IsOnce}

-- the states of each space are the numbers below its count
abbrev pub Below : (ℕ → ℕ) → ℕ → ℕ → Type 0
Below count = Has (λ s q. nat_lt q (count s))

-- B is A with its values numbered in each space
pub record IsNumbered {Q : Type 0} (g : Spaces) (A : Automaton Q) (B : Automaton ℕ) (count : ℕ → ℕ) (name : ℕ → ℕ → Q) :
    Type 0 where
  pub reached : IsReached g B (Below count)
  pub naming : IsNaming g B (Below count) A name
  pub once : IsOnce g (Below count) name
