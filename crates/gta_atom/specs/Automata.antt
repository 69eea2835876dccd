-- The minimal automaton of an atom, with its states numbered in each space. (Biehl, Klarlund and Rauhe 1996.)
use Rattle.std.specs.Prelude.{ℕ, Bool, List, map}
use Rattle.std.specs.List.{range_with_len}
use Rattle.gta_theory.specs.Guides.{Spaces, left, right}
use Rattle.gta_theory.specs.Automata.{Automaton}
use Rattle.gta_atom.specs.declared.plan.Plan.{Plan}
use Rattle.gta_atom.specs.States.{known_step, is_held, count_of, number_of, known_of}
use Rattle.gta_atom.specs.Plans.{kept_in}

-- how many states a space has
abbrev pub counts_of : Plan → (Bool → ℕ → Bool) → ℕ → ℕ
counts_of plan is_child s = count_of (kept_in plan is_child s)

-- the number of the state that two numbered states of child spaces and the two bits give in a space
abbrev pub numbered_step : Spaces → Plan → (Bool → ℕ → Bool) → ℕ → ℕ → ℕ → Bool → Bool → ℕ
numbered_step g plan is_child s i j first second =
    number_of (kept_in plan is_child s)
    (known_step plan.form (known_of (kept_in plan is_child (left g s)) i) (known_of (kept_in plan is_child (right g s)) j) first second)

abbrev pub numbered_automaton : Spaces → Plan → (Bool → ℕ → Bool) → Automaton ℕ
numbered_automaton g plan is_child = record {
  initial = λ s. 0;
  step = λ s i j label. numbered_step g plan is_child s i j (label plan.first) (label plan.second);
  accepting = λ i. is_held plan.form (known_of (kept_in plan is_child 0) i);
}

-- for each state of space 0 whether the atom holds in it
abbrev pub are_held : Plan → (Bool → ℕ → Bool) → List Bool
are_held plan is_child = map (λ i. is_held plan.form (known_of (kept_in plan is_child 0) i)) (range_with_len 0 (counts_of plan is_child 0))
