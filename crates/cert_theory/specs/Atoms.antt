-- The atoms' automata over numbers: in every space alike, with the initial state 0.
use Rattle.std.specs.Prelude.{ℕ, zero, suc}
use Rattle.gta_theory.specs.Automata.{Automaton}
use Rattle.ws2s_theory.specs.Atoms.{SubState, inside, outside, sub_automaton, SingleState, nothing, one, more, single_automaton}
use Rattle.ws2s_theory.specs.Atoms.{RootState, absent, alone, lower, root_automaton, SuccState, neither, child, found, wrong}
use Rattle.ws2s_theory.specs.Atoms.{succ0_automaton, succ1_automaton}

-- the automaton with numbers for its states: each state has a number, and each number is that of a state
abbrev pub numbered : {Q : Type 0} → (Q → ℕ) → (ℕ → Q) → Automaton Q → Automaton ℕ
numbered number state A = record {
  initial = λ s. number (A.initial s);
  step = λ s p q label. number (A.step s (state p) (state q) label);
  accepting = λ q. A.accepting (state q);
}

-- 0 as long as the first set lies within the second, and 1 from the first position that doesn't
abbrev pub sub_number : SubState → ℕ
sub_number inside = 0
sub_number outside = 1

abbrev pub sub_state : ℕ → SubState
sub_state zero = inside
sub_state (suc n) = outside

abbrev pub sub_numbers : ℕ → ℕ → Automaton ℕ
sub_numbers x y = numbered sub_number sub_state (sub_automaton x y)

-- how many positions the set has, up to 2
abbrev pub single_number : SingleState → ℕ
single_number nothing = 0
single_number one = 1
single_number more = 2

abbrev pub single_state : ℕ → SingleState
single_state zero = nothing
single_state (suc zero) = one
single_state (suc (suc n)) = more

abbrev pub single_numbers : ℕ → Automaton ℕ
single_numbers x = numbered single_number single_state (single_automaton x)

-- 0 without positions, 1 for the root alone, 2 for anything else
abbrev pub root_number : RootState → ℕ
root_number absent = 0
root_number alone = 1
root_number lower = 2

abbrev pub root_state : ℕ → RootState
root_state zero = absent
root_state (suc zero) = alone
root_state (suc (suc n)) = lower

abbrev pub root_numbers : ℕ → Automaton ℕ
root_numbers x = numbered root_number root_state (root_automaton x)

-- 0 without positions, 1 for a child whose parent is to come, 2 for both, 3 for anything else
abbrev pub succ_number : SuccState → ℕ
succ_number neither = 0
succ_number child = 1
succ_number found = 2
succ_number wrong = 3

abbrev pub succ_state : ℕ → SuccState
succ_state zero = neither
succ_state (suc zero) = child
succ_state (suc (suc zero)) = found
succ_state (suc (suc (suc n))) = wrong

abbrev pub succ0_numbers : ℕ → ℕ → Automaton ℕ
succ0_numbers x y = numbered succ_number succ_state (succ0_automaton x y)

abbrev pub succ1_numbers : ℕ → ℕ → Automaton ℕ
succ1_numbers x y = numbered succ_number succ_state (succ1_automaton x y)
