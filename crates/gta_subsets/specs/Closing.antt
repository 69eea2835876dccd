-- Initial sets of the subset automaton, as they grow round after round.
use Rattle.std.specs.Prelude.{◌≡◌, ℕ, zero, suc, ◌+◌, ◌≤◌, ◌↔◌, ◌⊎◌, if◌then◌else◌, List, [], length, Some, unwrap_or, Contains, slice_get}
use Rattle.labels.specs.Labels.{empty_label}
use Rattle.gta_theory.specs.Guides.{Spaces, left, right}
use Rattle.gta_theory.specs.Automata.{Automaton}
use Rattle.gta_theory.specs.Constructions.{Settled, IsStepOf}
use Rattle.bdd_walk.specs.Sets.{IsSet, has_state}

-- the set of a space; the empty one where there is none yet
abbrev pub set_at : List (List ℕ) → ℕ → List ℕ
set_at sets s = unwrap_or (slice_get sets s) []

-- the set has the initial state and what comes by a step, on a label with at most the track, from the sets of before
pub record IsNext (g : Spaces) (A : Automaton ℕ) (t : ℕ) (before : List (List ℕ)) (s : ℕ) (states : List ℕ) : Type 0 where
  pub set : IsSet states
  pub members : (q : ℕ) → Contains states q ↔
      ((A.initial s ≡ q) ⊎ IsStepOf A t s (Contains (set_at before (left g s))) (Contains (set_at before (right g s))) empty_label q)

-- each space has its next set
pub record AreNext (g : Spaces) (A : Automaton ℕ) (t : ℕ) (before after : List (List ℕ)) : Type 0 where
  pub many : length after ≡ length g
  pub each : (s : ℕ) (states : List ℕ) → slice_get after s ≡ Some states → IsNext g A t before s states

-- all states of the sets are settled
pub record AreSettled (g : Spaces) (A : Automaton ℕ) (t : ℕ) (sets : List (List ℕ)) : Type 0 where
  pub each : (s : ℕ) (states : List ℕ) → slice_get sets s ≡ Some states → (q : ℕ) → Contains states q → Settled g A t s q

-- each set has what the set of its space had before
abbrev pub Includes : List (List ℕ) → List (List ℕ) → Type 0
Includes before after = (s q : ℕ) → Contains (set_at before s) q → Contains (set_at after s) q

-- what is settled, in sets that the next ones include
pub record AreRising (g : Spaces) (A : Automaton ℕ) (t : ℕ) (sets : List (List ℕ)) : Type 0 where
  pub settled : AreSettled g A t sets
  pub many : length sets ≤ length g
  pub set : (s : ℕ) (states : List ℕ) → slice_get sets s ≡ Some states → IsSet states
  pub rises : (after : List (List ℕ)) → AreNext g A t sets after → Includes sets after

-- how many of the states below a bound the set doesn't have
unfoldable pub absent : List ℕ → ℕ → ℕ
absent set zero = 0
absent set (suc n) = (if has_state set n then 0 else 1) + absent set n

-- how many states the sets of so many spaces don't have, of as many as each space has
unfoldable pub absent_in : (ℕ → ℕ) → List (List ℕ) → ℕ → ℕ
absent_in many sets zero = 0
absent_in many sets (suc s) = absent (set_at sets s) (many s) + absent_in many sets s
