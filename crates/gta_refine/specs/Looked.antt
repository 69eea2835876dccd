-- Spaces that are looked at: each splits the classes of its children by what steps give, and stays stable while its own
-- classes stay. (Hopcroft 1971: a class that cut others cuts them again only once it is split.)
use Rattle.std.specs.Prelude.{◌≡◌, ℕ, ◌<◌, ◌≤◌, Bool, true, false, List, length, map, Some, slice_get, slice_index, slice_set}
use Rattle.labels.specs.Labels.{Label}
use Rattle.bdd_nodes.specs.declared.node_ref.NodeRef.{NodeRef}
use Rattle.gta_reach.specs.declared.form.FormSpace.{FormSpace}
use Rattle.gta_reach.specs.declared.form.Form.{Form}
use Rattle.gta_reach.specs.declared.sides.Side.{Side}
use Rattle.gta_reach.specs.Form.{guide_of, automaton_of}
use Rattle.gta_reach.specs.Sides.{kinds_in, child_at, opposite, step_by}
use Rattle.gta_classes.specs.declared.part.SpaceClasses.{SpaceClasses}
use Rattle.gta_classes.specs.Chosen.{AreChosen}
use Rattle.gta_classes.specs.Classes.{AreClasses, IsSplit}
use Rattle.gta_refine.specs.Numbered.{TellApart}
use Rattle.gta_refine.specs.Rows.{AreIds}
use Rattle.gta_refine.specs.Refined.{part_at, is_reached_in, class_at, classes_in, ArePartition, IsStableAt}

-- the classes of one space are split by numbers of its states, so that there are more of them or all stay
pub record IsSplitAt (spaces : List SpaceClasses) (c : ℕ) (ids : List ℕ) (new : List SpaceClasses) (more : Bool) : Type 0 where
  pub part : SpaceClasses
  pub is : new ≡ slice_set spaces c part
  pub reached : part.reached ≡ (part_at spaces c).reached
  pub classes : AreClasses (part_at spaces c).reached part.classes part.representatives
  pub split : IsSplit (part_at spaces c).reached ids (part_at spaces c).classes part.classes
  pub unchanged : more ≡ false → (part.classes ≡ (part_at spaces c).classes) × (part.representatives ≡ (part_at spaces c).representatives)
  pub grown : more ≡ true → length (part_at spaces c).representatives < length part.representatives

-- each space has as many classes or more: states of one class were of one, and where there are as many, they stay so
pub record AreFiner (old new : List SpaceClasses) : Type 0 where
  pub marks : (s : ℕ) → (part_at new s).reached ≡ (part_at old s).reached
  pub least : (s : ℕ) → classes_in old s ≤ classes_in new s
  pub finer : (s p q : ℕ) → is_reached_in old s p ≡ true → is_reached_in old s q ≡ true →
      class_at new s p ≡ class_at new s q → class_at old s p ≡ class_at old s q
  pub kept : (s p q : ℕ) → classes_in new s ≡ classes_in old s → is_reached_in old s p ≡ true → is_reached_in old s q ≡ true →
      class_at old s p ≡ class_at old s q → class_at new s p ≡ class_at new s q

-- steps from states of one class of a child, as classes are now, give states that were of one class before
pub record IsStableFrom (form : Form) (before now : List SpaceClasses) (s : ℕ) (side : Side) : Type 0 where
  pub step : (p q beside : ℕ) (label : Label) → is_reached_in now (child_at (guide_of form) side s) p ≡ true →
      is_reached_in now (child_at (guide_of form) side s) q ≡ true →
      is_reached_in now (child_at (guide_of form) (opposite side) s) beside ≡ true →
      class_at now (child_at (guide_of form) side s) p ≡ class_at now (child_at (guide_of form) side s) q →
      class_at before s (step_by (automaton_of form) s side p beside label) ≡ class_at before s (step_by (automaton_of form) s side q beside label)

-- reached states of a child, one for each class of its states that have the same roots
abbrev pub AreChosenAt : Form → List SpaceClasses → ℕ → Side → List ℕ → Type 0
AreChosenAt form spaces s side chosen = (space : FormSpace) → slice_get form.spaces s ≡ Some space →
    AreChosen (kinds_in space side) (part_at spaces (child_at (guide_of form) side s)).reached chosen

-- numbers of the roots of a space: equal ones exactly where the roots give the same classes
abbrev pub AreNumbersAt : Form → List SpaceClasses → ℕ → List NodeRef → Type 0
AreNumbersAt form spaces s numbers = (space : FormSpace) → slice_get form.spaces s ≡ Some space →
    TellApart space.listing (part_at spaces s).classes numbers

-- what tells the states of a child apart: numbers of the roots, the states that have rows of these, and those beside them
pub record AreRows (form : Form) (spaces : List SpaceClasses) (s : ℕ) (side : Side) (numbers : List NodeRef) (own beside : List ℕ) : Type 0 where
  pub partition : ArePartition form spaces
  pub tells : AreNumbersAt form spaces s numbers
  pub chosen_own : AreChosenAt form spaces s side own
  pub chosen_beside : AreChosenAt form spaces s (opposite side) beside

-- the rows are those of classes that were there, of which those now are parts
pub record WereRows (form : Form) (spaces : List SpaceClasses) (s : ℕ) (side : Side) (numbers : List NodeRef) (own beside : List ℕ) : Type 0 where
  pub before : List SpaceClasses
  pub rows : AreRows form before s side numbers own beside
  pub finer : AreFiner before spaces

-- the number of each state of a child, by that of its kind: equal ones exactly where states have equal rows
pub record AreSpread (space : FormSpace) (side : Side) (numbers : List NodeRef) (own beside ids : List ℕ) : Type 0 where
  pub kind_ids : List ℕ
  pub are : AreIds space side numbers own beside kind_ids
  pub spread : ids ≡ map (slice_index kind_ids) (kinds_in space side)

-- each space with as many classes as the number that is kept for it is stable
pub record AreLooked (form : Form) (spaces : List SpaceClasses) (looked : List ℕ) : Type 0 where
  pub many : length looked ≡ length form.spaces
  pub least : (s : ℕ) → s < length form.spaces → slice_index looked s ≤ classes_in spaces s
  pub stable : (s : ℕ) (side : Side) → s < length form.spaces → slice_index looked s ≡ classes_in spaces s → IsStableAt form spaces s side

-- each space is stable
abbrev pub AreStable : Form → List SpaceClasses → Type 0
AreStable form spaces = (s : ℕ) (side : Side) → s < length form.spaces → IsStableAt form spaces s side
