-- The projection of an automaton of a shelf.
use Rattle.std.specs.Prelude.{ℕ, Bool, IsTrue}
use Rattle.gta_theory.specs.Guides.{Spaces}
use Rattle.gta_theory.specs.Automata.{Automaton}
use Rattle.gta_theory.specs.Constructions.{IsSubset}
use Rattle.gta_theory.specs.Numbered.{Below}

-- B is the subset automaton of A that drops the track t, and its states are the numbers below a count in each space
pub record IsSubsetOf (g : Spaces) (A : Automaton ℕ) (t : ℕ) (B : Automaton ℕ) (count : ℕ → ℕ) : Type 0 where
  pub member : ℕ → ℕ → ℕ → Bool
  pub subset : IsSubset g A t B (Below count) (λ s x q. IsTrue (member s x q))
