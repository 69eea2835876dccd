-- Which states of an atom's automaton are one state of its minimal automaton, space by space. It goes by whether the
-- space is the root's, whether a position below the root has it, and whether it is a child of a position's space by a
-- letter.
use Rattle.std.specs.Prelude.{◌≡◌, ℕ, Bool, true, false, ◌||◌, IsTrue, ◌↔◌, ◌==◌}
use Rattle.gta_theory.specs.Assignments.{Position}
use Rattle.gta_theory.specs.Guides.{Spaces, IsSpace, left, right, space_at}
use Rattle.gta_theory.specs.Automata.{Automaton}
use Rattle.ws2s_theory.specs.Atoms.{SubState, inside, SingleState, nothing, one, RootState, absent, alone, lower}
use Rattle.ws2s_theory.specs.Atoms.{SuccState, neither, child, found, wrong}

-- the child space that a letter leads to
abbrev pub child_space : Spaces → Bool → ℕ → ℕ
child_space g false s = left g s
child_space g true s = right g s

-- the test tells of each space whether some position's space has it as the child by the letter
pub record IsChildTest (g : Spaces) (is_child : Bool → ℕ → Bool) : Type 0 where
  pub exactly : (letter : Bool) (s : ℕ) → IsSpace g s →
      IsTrue (is_child letter s) ↔ ((u : Position) × (child_space g letter (space_at g 0 u) ≡ s))

-- some position below the root has the space
abbrev pub is_below : (Bool → ℕ → Bool) → ℕ → Bool
is_below is_child s = is_child false s || is_child true s

-- The state that stands for a state in a space, by whether a position below the root has the space, and whether it is
-- the root's. Where neither is so, one state stands for all.
abbrev pub sub_class : Bool → Bool → SubState → SubState
sub_class true top q = q
sub_class false true q = q
sub_class false false q = inside

abbrev pub single_class : Bool → Bool → SingleState → SingleState
single_class true top q = q
single_class false true one = one
single_class false top q = nothing

abbrev pub root_class : Bool → Bool → RootState → RootState
root_class true true q = q
root_class true false alone = lower
root_class true false q = q
root_class false true alone = alone
root_class false top q = absent

-- here also by whether the space is a child by the letter of the atom
abbrev pub succ_class : Bool → Bool → Bool → SuccState → SuccState
succ_class true by_letter top neither = neither
succ_class true true top child = child
succ_class true false top child = wrong
succ_class true by_letter top found = found
succ_class true by_letter top wrong = wrong
succ_class false by_letter true found = found
succ_class false by_letter top q = neither

-- the same, of each space, with a test of children
abbrev pub sub_classes : (Bool → ℕ → Bool) → ℕ → SubState → SubState
sub_classes is_child s q = sub_class (is_below is_child s) (s == 0) q

abbrev pub single_classes : (Bool → ℕ → Bool) → ℕ → SingleState → SingleState
single_classes is_child s q = single_class (is_below is_child s) (s == 0) q

abbrev pub root_classes : (Bool → ℕ → Bool) → ℕ → RootState → RootState
root_classes is_child s q = root_class (is_below is_child s) (s == 0) q

abbrev pub succ_classes : Bool → (Bool → ℕ → Bool) → ℕ → SuccState → SuccState
succ_classes letter is_child s q = succ_class (is_below is_child s) (is_child letter s) (s == 0) q

-- the automaton of the states that stand for others
abbrev pub merged : {Q : Type 0} → (ℕ → Q → Q) → Automaton Q → Automaton Q
merged class A = record {
  initial = λ s. class s (A.initial s);
  step = λ s p q label. class s (A.step s p q label);
  accepting = A.accepting;
}

-- the state stands for itself
abbrev pub Stands : {Q : Type 0} → (ℕ → Q → Q) → ℕ → Q → Type 0
Stands class s q = class s q ≡ q
