-- The atoms as automata. Their tables are the same in each space, and hold where the two tracks are one.
use Rattle.std.specs.Prelude.{ℕ, Bool, true, false}
use Rattle.gta_theory.specs.Automata.{Automaton}

-- what `Sub` knows of a tree: each position of the first set is one of the second, or some isn't
pub data SubState : Type 0 where
  inside : SubState
  outside : SubState

abbrev pub sub_step : SubState → SubState → Bool → Bool → SubState
sub_step inside inside true false = outside
sub_step inside inside in_first in_second = inside
sub_step p q in_first in_second = outside

abbrev pub is_inside : SubState → Bool
is_inside inside = true
is_inside outside = false

-- the automaton of `Sub x y`
abbrev pub sub_automaton : ℕ → ℕ → Automaton SubState
sub_automaton x y = record {
  initial = λ s. inside;
  step = λ s p q label. sub_step p q (label x) (label y);
  accepting = is_inside;
}

-- what `Single` knows of a tree: how many positions the set has
pub data SingleState : Type 0 where
  nothing : SingleState
  one : SingleState
  more : SingleState

abbrev pub single_step : SingleState → SingleState → Bool → SingleState
single_step nothing nothing false = nothing
single_step nothing nothing true = one
single_step one nothing false = one
single_step nothing one false = one
single_step p q in_set = more

abbrev pub is_one : SingleState → Bool
is_one nothing = false
is_one one = true
is_one more = false

-- the automaton of `Single x`
abbrev pub single_automaton : ℕ → Automaton SingleState
single_automaton x = record {
  initial = λ s. nothing;
  step = λ s p q label. single_step p q (label x);
  accepting = is_one;
}

-- what `Root` knows of a tree: the set has nothing, or the root alone, or something below the root
pub data RootState : Type 0 where
  absent : RootState
  alone : RootState
  lower : RootState

abbrev pub root_step : RootState → RootState → Bool → RootState
root_step absent absent false = absent
root_step absent absent true = alone
root_step p q in_set = lower

abbrev pub is_alone : RootState → Bool
is_alone absent = false
is_alone alone = true
is_alone lower = false

-- the automaton of `Root x`
abbrev pub root_automaton : ℕ → Automaton RootState
root_automaton x = record {
  initial = λ s. absent;
  step = λ s p q label. root_step p q (label x);
  accepting = is_alone;
}

-- what `Succ0` and `Succ1` know of a tree: both sets have nothing; the second is the root alone and the first has
-- nothing, so that the parent is still to come; the first is one position and the second its child; or none of these
pub data SuccState : Type 0 where
  neither : SuccState
  child : SuccState
  found : SuccState
  wrong : SuccState

-- of the state on the side where the child has to be, that on the other side, and whether the root is in each set
abbrev pub succ_step : SuccState → SuccState → Bool → Bool → SuccState
succ_step neither neither false false = neither
succ_step neither neither false true = child
succ_step child neither true false = found
succ_step found neither false false = found
succ_step neither found false false = found
succ_step p q in_first in_second = wrong

abbrev pub is_found : SuccState → Bool
is_found neither = false
is_found child = false
is_found found = true
is_found wrong = false

-- the automaton of `Succ0 x y`
abbrev pub succ0_automaton : ℕ → ℕ → Automaton SuccState
succ0_automaton x y = record {
  initial = λ s. neither;
  step = λ s p q label. succ_step p q (label x) (label y);
  accepting = is_found;
}

-- the automaton of `Succ1 x y`
abbrev pub succ1_automaton : ℕ → ℕ → Automaton SuccState
succ1_automaton x y = record {
  initial = λ s. neither;
  step = λ s p q label. succ_step q p (label x) (label y);
  accepting = is_found;
}
