-- The child states whose steps give states of a class.
use Rattle.std.specs.Prelude.{◌≡◌, ℕ, Bool, true, List, ◌++◌, ◌⊎◌, Contains, slice_index}
use Rattle.labels.specs.Labels.{Label}
use Rattle.bdd_list.specs.declared.listing.Listed.{Listed}
use Rattle.bdd_list.specs.declared.listing.Listed.TheVariants.{Inner}
use Rattle.bdd_list.specs.declared.listing.ListedNode.{ListedNode}
use Rattle.bdd_list.specs.Listing.{function_in, IsIn}
use Rattle.gta_reach.specs.declared.form.Form.{Form}
use Rattle.gta_classes.specs.declared.part.SpaceClasses.{SpaceClasses}
use Rattle.gta_reach.specs.declared.sides.Side.{Side}
use Rattle.gta_reach.specs.Form.{guide_of, automaton_of}
use Rattle.gta_classes.specs.Chosen.{is_marked}
use Rattle.gta_refine.specs.Refined.{is_reached_in, class_at}
use Rattle.gta_reach.specs.Sides.{child_at, opposite, step_by}

-- what is listed gives one of the states for some label
pub record GivesSome (nodes : List ListedNode) (states : List ℕ) (listed : Listed) : Type 0 where
  pub label : Label
  pub gives : Contains states (function_in nodes listed label)

-- those of the nodes that aren't found yet are found and listed
pub record AddsNodes (nodes : List ℕ) (found : List Bool) (list : List Listed) (new_found : List Bool) (new_list : List Listed) : Type 0 where
  pub more : List Listed
  pub grown : new_list ≡ list ++ more
  pub found_new : (i : ℕ) → is_marked new_found i ≡ true → (is_marked found i ≡ true) ⊎ Contains new_list (Inner i)
  pub all : (i : ℕ) → Contains nodes i → (is_marked found i ≡ true) ⊎ Contains new_list (Inner i)
  pub sound : (listed : Listed) → Contains more listed → (i : ℕ) × Contains nodes i × (listed ≡ Inner i)

-- the list has exactly what gives one of the states
pub record AreClimbed (nodes : List ListedNode) (states : List ℕ) (list : List Listed) : Type 0 where
  pub sound : (listed : Listed) → Contains list listed → IsIn nodes listed × GivesSome nodes states listed
  pub complete : (listed : Listed) → IsIn nodes listed → GivesSome nodes states listed → Contains list listed

-- exactly the reached states of a class
pub record AreMembers (part : SpaceClasses) (class : ℕ) (members : List ℕ) : Type 0 where
  pub sound : (q : ℕ) → Contains members q → (is_marked part.reached q ≡ true) × (slice_index part.classes q ≡ class)
  pub complete : (q : ℕ) → is_marked part.reached q ≡ true → slice_index part.classes q ≡ class → Contains members q

-- a step from a state of a child gives a state of a class, with some reached state beside and some label
pub record Gives (form : Form) (spaces : List SpaceClasses) (s : ℕ) (side : Side) (class p : ℕ) : Type 0 where
  pub beside : ℕ
  pub label : Label
  pub reached : is_reached_in spaces (child_at (guide_of form) (opposite side) s) beside ≡ true
  pub gives : class_at spaces s (step_by (automaton_of form) s side p beside label) ≡ class

-- exactly the reached states of a child that give a state of a class
pub record AreGivers (form : Form) (spaces : List SpaceClasses) (s : ℕ) (side : Side) (class : ℕ) (givers : List ℕ) : Type 0 where
  pub sound : (q : ℕ) → Contains givers q → (is_reached_in spaces (child_at (guide_of form) side s) q ≡ true) × Gives form spaces s side class q
  pub complete : (q : ℕ) → is_reached_in spaces (child_at (guide_of form) side s) q ≡ true → Gives form spaces s side class q → Contains givers q
