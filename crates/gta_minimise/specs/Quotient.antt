-- The automaton of classes, as it is made in a shelf.
use Rattle.std.specs.Prelude.{◌≡◌, ℕ, ◌*◌, ◌/◌, ◌%◌, ◌<◌, ◌++◌, List, length, Some, slice_get, slice_index}
use Rattle.std.specs.List.{range_with_len}
use Rattle.labels.specs.Labels.{Label, Function}
use Rattle.bdd_nodes.specs.declared.node_ref.NodeRef.{NodeRef}
use Rattle.bdd_nodes.specs.Shelf.{Contents, IsValid, state_of}
use Rattle.gta_theory.specs.Guides.{left, right}
use Rattle.gta_theory.specs.Numbered.{Below}
use Rattle.gta_room.specs.Progress.{IsUnderSomewhere}
use Rattle.gta_core.specs.declared.part.Part.{Part}
use Rattle.bdd_list.specs.declared.listing.Listed.{Listed}
use Rattle.gta_core.specs.Auto.{place_in}
use Rattle.gta_core.specs.Placing.{HasPlace}
use Rattle.gta_reach.specs.declared.form.FormSpace.{FormSpace}
use Rattle.gta_reach.specs.declared.form.Form.{Form}
use Rattle.gta_classes.specs.declared.part.SpaceClasses.{SpaceClasses}
use Rattle.gta_reach.specs.Form.{cell_in, root_in, guide_of, automaton_of}
use Rattle.gta_refine.specs.Refined.{part_at, classes_in, class_at, quotient_of}
use Rattle.gta_minimise.specs.Rows.{AreSharedRows}

-- what is listed for all pairs, in order of the left states, and for each in order of the right ones
pub record ArePairs (space : FormSpace) (lefts rights : List ℕ) (roots : List Listed) : Type 0 where
  pub many : length roots ≡ length lefts * length rights
  pub left_inside : (k : ℕ) → k < length roots → k / length rights < length lefts
  pub right_inside : (k : ℕ) → k < length roots → k % length rights < length rights
  pub each : (k : ℕ) → k < length roots →
      slice_get roots k ≡ Some (root_in space (cell_in space (slice_index lefts (k / length rights)) (slice_index rights (k % length rights))))

-- the function is under the table of the automaton of classes
abbrev pub IsUnderClasses : Form → List SpaceClasses → Function → Type 0
IsUnderClasses form classes = IsUnderSomewhere (guide_of form) (quotient_of form classes) (Below (classes_in classes))

-- the root of a pair of classes is that of the step from the two
pub record IsRootOf (shelf : Contents) (form : Form) (classes : List SpaceClasses) (s x y : ℕ) (part : Part) (roots : List NodeRef) : Type 0 where
  pub place : ℕ
  pub at : place_in part x y ≡ Some place
  pub root : NodeRef
  pub there : slice_get roots place ≡ Some root
  pub valid : IsValid shelf root
  pub states : (label : Label) → state_of shelf root label ≡ (quotient_of form classes).step s x y label

-- the part of a space of the automaton of classes, over these roots
pub record IsQuotientPart (shelf : Contents) (form : Form) (classes : List SpaceClasses) (s : ℕ) (part : Part) (roots : List NodeRef) : Type 0 where
  pub children : slice_get (guide_of form) s ≡ Some part.children
  pub states : part.states ≡ classes_in classes s
  pub initial : part.initial ≡ class_at classes s ((automaton_of form).initial s)
  pub lefts : length part.rows ≡ classes_in classes (left (guide_of form) s)
  pub rights : length part.columns ≡ classes_in classes (right (guide_of form) s)
  pub each : (x y : ℕ) → x < classes_in classes (left (guide_of form) s) → y < classes_in classes (right (guide_of form) s) →
      IsRootOf shelf form classes s x y part roots

-- the part of a space, over roots that are all valid and used
pub record IsQuotientSpace (shelf : Contents) (form : Form) (classes : List SpaceClasses) (s : ℕ) (part : Part) (roots : List NodeRef) : Type 0 where
  pub is_part : IsQuotientPart shelf form classes s part roots
  pub first : part.first ≡ 0
  pub used : (place : ℕ) → place < length roots → HasPlace part place
  pub valid : (k : ℕ) (root : NodeRef) → slice_get roots k ≡ Some root → IsValid shelf root

-- the part of a space, whose roots stand in order of these left states, and for each in order of these right ones
pub record IsSharedPart (form : Form) (classes : List SpaceClasses) (s : ℕ) (part : Part) (lefts rights : List ℕ) : Type 0 where
  pub children : slice_get (guide_of form) s ≡ Some part.children
  pub states : part.states ≡ classes_in classes s
  pub initial : part.initial ≡ class_at classes s ((automaton_of form).initial s)
  pub first : part.first ≡ 0
  pub width : part.width ≡ length rights
  pub cells : part.cells ≡ range_with_len 0 (length lefts * length rights)
  pub rows : (space : FormSpace) → slice_get form.spaces s ≡ Some space →
      AreSharedRows space.rows (part_at classes (left (guide_of form) s)).representatives part.rows lefts
  pub columns : (space : FormSpace) → slice_get form.spaces s ≡ Some space →
      AreSharedRows space.columns (part_at classes (right (guide_of form) s)).representatives part.columns rights

-- the part with its roots behind others
pub record IsPutBehind (old own new : List NodeRef) (before after : Part) : Type 0 where
  pub roots : new ≡ old ++ own
  pub part : after ≡ record {
    states = before.states;
    initial = before.initial;
    children = before.children;
    first = length old;
    rows = before.rows;
    columns = before.columns;
    width = before.width;
    cells = before.cells;
  }

-- a part has a pair of classes with the place
pub record IsUsedIn (parts : List Part) (place : ℕ) : Type 0 where
  pub space : ℕ
  pub part : Part
  pub there : slice_get parts space ≡ Some part
  pub has : HasPlace part place

-- the parts of the first spaces, over the roots of these
pub record AreQuotientSpaces (shelf : Contents) (form : Form) (classes : List SpaceClasses) (parts : List Part) (roots : List NodeRef)
    (below : ℕ) : Type 0 where
  pub many : length parts ≡ below
  pub each : (s : ℕ) (part : Part) → slice_get parts s ≡ Some part → IsQuotientPart shelf form classes s part roots
  pub used : (place : ℕ) → place < length roots → IsUsedIn parts place
  pub valid : (k : ℕ) (root : NodeRef) → slice_get roots k ≡ Some root → IsValid shelf root
