-- The automaton of sets of states, as it is computed. (The subset construction; textbook: Comon and others, Tree Automata
-- Techniques and Applications, chapter 1.)
use Rattle.std.specs.Prelude.{◌≡◌, ℕ, true, false, ◌↔◌, List, [], ◌++◌, map, length, Some, unwrap_or, Contains, slice_get}
use Rattle.std.specs.List.{flat_map, list_any}
use Rattle.labels.specs.Labels.{Label, with_track}
use Rattle.gta_theory.specs.Guides.{Spaces}
use Rattle.gta_theory.specs.Automata.{Automaton}
use Rattle.gta_theory.specs.Constructions.{Settled}
use Rattle.bdd_walk.specs.Sets.{set_of, IsSet}

-- what steps on the label make of a state of each list
abbrev pub steps_on : Automaton ℕ → ℕ → List ℕ → List ℕ → Label → List ℕ
steps_on A s lefts rights label = flat_map (λ l. map (λ r. A.step s l r label) rights) lefts

-- the set of what steps on the label make of a state of each list, with the track unset and set
abbrev pub set_step : Automaton ℕ → ℕ → ℕ → List ℕ → List ℕ → Label → List ℕ
set_step A t s lefts rights label =
    set_of (steps_on A s lefts rights (with_track label t false) ++ steps_on A s lefts rights (with_track label t true))

-- the automaton of sets of states of A that drops the track t, with these initial sets
abbrev pub subsets : Automaton ℕ → ℕ → List (List ℕ) → Automaton (List ℕ)
subsets A t initials = record {
  initial = λ s. unwrap_or (slice_get initials s) [];
  step = set_step A t;
  accepting = λ states. list_any A.accepting states;
}

-- the set has the states that no more than the track t needs
pub record IsInitial (g : Spaces) (A : Automaton ℕ) (t s : ℕ) (states : List ℕ) : Type 0 where
  pub set : IsSet states
  pub settled : (q : ℕ) → Contains states q ↔ Settled g A t s q

-- each space has its initial set
pub record AreInitial (g : Spaces) (A : Automaton ℕ) (t : ℕ) (initials : List (List ℕ)) : Type 0 where
  pub many : length initials ≡ length g
  pub each : (s : ℕ) (states : List ℕ) → slice_get initials s ≡ Some states → IsInitial g A t s states
