-- The classes of the reached states of each space, and the automaton of classes. (The theorem of Myhill and Nerode for
-- trees; refinement: Hopcroft 1971.)
use Rattle.std.specs.Prelude.{◌≡◌, ◌≢◌, ℕ, ◌+◌, ◌-◌, ◌^◌, ◌<◌, ◌≤◌, ◌∷◌, Bool, true, false, List, length, slice_index, slice_index_or, ◌↔◌, []}
use Rattle.labels.specs.Labels.{Label}
use Rattle.gta_theory.specs.Assignments.{Assignment}
use Rattle.gta_theory.specs.Guides.{IsSpace, left, right}
use Rattle.gta_theory.specs.Automata.{Automaton, Accepts, Has}
use Rattle.gta_theory.specs.Constructions.{IsReached, IsNaming}
use Rattle.gta_theory.specs.Minimal.{AreSeparated, IsMinimal}
use Rattle.gta_theory.specs.Numbered.{Below}
use Rattle.gta_reach.specs.declared.form.Form.{Form}
use Rattle.gta_classes.specs.declared.part.SpaceClasses.{SpaceClasses}
use Rattle.gta_reach.specs.declared.sides.Side.{Side}
use Rattle.gta_reach.specs.Form.{guide_of, states_of, automaton_of}
use Rattle.gta_reach.specs.Sides.{child_at, opposite, step_by}
use Rattle.gta_classes.specs.Chosen.{is_marked}
use Rattle.gta_classes.specs.Classes.{AreClasses}

-- the part of a space
abbrev pub part_at : List SpaceClasses → ℕ → SpaceClasses
part_at spaces s = slice_index_or spaces s (record { reached = []; classes = []; representatives = [] })

-- whether a state of a space is reached
abbrev pub is_reached_in : List SpaceClasses → ℕ → ℕ → Bool
is_reached_in spaces s q = is_marked (part_at spaces s).reached q

-- the class of a state of a space
abbrev pub class_at : List SpaceClasses → ℕ → ℕ → ℕ
class_at spaces s q = slice_index (part_at spaces s).classes q

-- a reached state of a class
abbrev pub representative_at : List SpaceClasses → ℕ → ℕ → ℕ
representative_at spaces s x = slice_index (part_at spaces s).representatives x

-- how many classes a space has
abbrev pub classes_in : List SpaceClasses → ℕ → ℕ
classes_in spaces s = length (part_at spaces s).representatives

-- how many more classes the spaces may have
abbrev pub room_in : List SpaceClasses → ℕ
room_in [] = 0
room_in (part ∷ spaces) = (2 ^ 31 - length part.representatives) + room_in spaces

-- more classes leave less room for others
abbrev pub TakesRoom : Bool → ℕ → ℕ → Type 0
TakesRoom true old new = new < old
TakesRoom false old new = new ≤ old

-- the automaton of classes: its steps go by the representatives
unfoldable pub quotient_of : Form → List SpaceClasses → Automaton ℕ
quotient_of form spaces = record {
  initial = λ s. class_at spaces s ((automaton_of form).initial s);
  step = λ s x y label. class_at spaces s ((automaton_of form).step s
      (representative_at spaces (left (guide_of form) s) x) (representative_at spaces (right (guide_of form) s) y) label);
  accepting = λ x. (automaton_of form).accepting (representative_at spaces 0 x);
}

-- classes on the way: states of two classes are kept apart by steps, and those of one class of space 0 are all accepting
-- or all not
pub record ArePartition (form : Form) (spaces : List SpaceClasses) : Type 0 where
  pub all : length spaces ≡ length form.spaces
  pub many : (s : ℕ) → IsSpace (guide_of form) s → length (part_at spaces s).reached ≡ states_of form s
  pub classes : (s : ℕ) → IsSpace (guide_of form) s →
      AreClasses (part_at spaces s).reached (part_at spaces s).classes (part_at spaces s).representatives
  pub reached : IsReached (guide_of form) (automaton_of form) (Has (is_reached_in spaces))
  pub apart : (s p q : ℕ) → IsSpace (guide_of form) s → is_reached_in spaces s p ≡ true → is_reached_in spaces s q ≡ true →
      class_at spaces s p ≢ class_at spaces s q → AreSeparated (guide_of form) (automaton_of form) s p q
  pub accepting : (p q : ℕ) → is_reached_in spaces 0 p ≡ true → is_reached_in spaces 0 q ≡ true →
      class_at spaces 0 p ≡ class_at spaces 0 q → (automaton_of form).accepting p ≡ (automaton_of form).accepting q

-- 1 for true, and 0 for false
abbrev pub bit_of : Bool → ℕ
bit_of true = 1
bit_of false = 0

-- steps from states of one class of a child give states of one class
pub record IsStableAt (form : Form) (spaces : List SpaceClasses) (s : ℕ) (side : Side) : Type 0 where
  pub step : (p q beside : ℕ) (label : Label) → is_reached_in spaces (child_at (guide_of form) side s) p ≡ true →
      is_reached_in spaces (child_at (guide_of form) side s) q ≡ true →
      is_reached_in spaces (child_at (guide_of form) (opposite side) s) beside ≡ true →
      class_at spaces (child_at (guide_of form) side s) p ≡ class_at spaces (child_at (guide_of form) side s) q →
      class_at spaces s (step_by (automaton_of form) s side p beside label) ≡ class_at spaces s (step_by (automaton_of form) s side q beside label)

-- some reached state beside the two and some label give states of two classes
pub record GiveOthersAt (form : Form) (spaces : List SpaceClasses) (s : ℕ) (side : Side) (p q : ℕ) : Type 0 where
  pub beside : ℕ
  pub label : Label
  pub reached : is_reached_in spaces (child_at (guide_of form) (opposite side) s) beside ≡ true
  pub differs : class_at spaces s (step_by (automaton_of form) s side p beside label)
      ≢ class_at spaces s (step_by (automaton_of form) s side q beside label)

-- a number for each state of a child: reached states of one number give the same classes beside each reached state, and
-- those of two numbers give different ones beside some
pub record AreChildIds (form : Form) (spaces : List SpaceClasses) (s : ℕ) (side : Side) (ids : List ℕ) : Type 0 where
  pub many : length (part_at spaces (child_at (guide_of form) side s)).reached ≤ length ids
  pub same : (p q beside : ℕ) (label : Label) → is_reached_in spaces (child_at (guide_of form) side s) p ≡ true →
      is_reached_in spaces (child_at (guide_of form) side s) q ≡ true →
      is_reached_in spaces (child_at (guide_of form) (opposite side) s) beside ≡ true →
      slice_index ids p ≡ slice_index ids q →
      class_at spaces s (step_by (automaton_of form) s side p beside label) ≡ class_at spaces s (step_by (automaton_of form) s side q beside label)
  pub apart : (p q : ℕ) → is_reached_in spaces (child_at (guide_of form) side s) p ≡ true →
      is_reached_in spaces (child_at (guide_of form) side s) q ≡ true →
      slice_index ids p ≢ slice_index ids q → GiveOthersAt form spaces s side p q

-- one class in each space
pub record AreSingle (form : Form) (spaces : List SpaceClasses) : Type 0 where
  pub all : length spaces ≡ length form.spaces
  pub many : (s : ℕ) → IsSpace (guide_of form) s → length (part_at spaces s).reached ≡ states_of form s
  pub classes : (s : ℕ) → IsSpace (guide_of form) s →
      AreClasses (part_at spaces s).reached (part_at spaces s).classes (part_at spaces s).representatives
  pub one : (s : ℕ) → IsSpace (guide_of form) s → length (part_at spaces s).representatives ≡ 1
  pub reached : IsReached (guide_of form) (automaton_of form) (Has (is_reached_in spaces))

-- the classes of the reached states: the automaton of classes is minimal, accepts the same, and its steps go along
pub record IsRefined (form : Form) (spaces : List SpaceClasses) : Type 0 where
  pub all : length spaces ≡ length form.spaces
  pub many : (s : ℕ) → IsSpace (guide_of form) s → length (part_at spaces s).reached ≡ states_of form s
  pub classes : (s : ℕ) → IsSpace (guide_of form) s →
      AreClasses (part_at spaces s).reached (part_at spaces s).classes (part_at spaces s).representatives
  pub reached : IsReached (guide_of form) (automaton_of form) (Has (is_reached_in spaces))
  pub naming : IsNaming (guide_of form) (automaton_of form) (Has (is_reached_in spaces)) (quotient_of form spaces) (class_at spaces)
  pub minimal : IsMinimal (guide_of form) (quotient_of form spaces) (Below (classes_in spaces))
  pub apart : (s p q : ℕ) → IsSpace (guide_of form) s → is_reached_in spaces s p ≡ true → is_reached_in spaces s q ≡ true →
      class_at spaces s p ≢ class_at spaces s q → AreSeparated (guide_of form) (automaton_of form) s p q
  pub same : (a : Assignment) → Accepts (guide_of form) (automaton_of form) a ↔ Accepts (guide_of form) (quotient_of form spaces) a
