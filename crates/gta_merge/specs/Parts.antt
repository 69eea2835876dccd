-- Merged parts over roots in a list.
use Rattle.std.specs.Prelude.{◌≡◌, ℕ, ◌+◌, ◌<◌, List, length, Some, slice_get, option_and_then}
use Rattle.bdd_nodes.specs.declared.node_ref.NodeRef.{NodeRef}
use Rattle.bdd_nodes.specs.Shelf.{Contents}
use Rattle.gta_theory.specs.Guides.{left, right}
use Rattle.gta_core.specs.declared.part.Part.{Part}
use Rattle.gta_core.specs.Auto.{AutoView, states_of, guide_of, place_in, root_at}
use Rattle.gta_core.specs.Placing.{HasPlace}
use Rattle.gta_merge.specs.declared.lines.Side.TheVariants.{Left, Right}
use Rattle.gta_merge.specs.declared.classes.Classes.{Classes}
use Rattle.gta_merge.specs.Lines.{root_beside}
use Rattle.gta_merge.specs.Classes.{AreClassed}
use Rattle.gta_merge.specs.Merged.{IsMergedPart}

-- the classes of the states of the left child
abbrev pub AreRowClasses : Contents → AutoView → ℕ → Classes → Type 0
AreRowClasses shelf a s = AreClassed (root_beside shelf a s Left) (states_of a (left (guide_of a) s))

-- the classes of the states of the right child
abbrev pub AreColumnClasses : Contents → AutoView → ℕ → Classes → Type 0
AreColumnClasses shelf a s = AreClassed (root_beside shelf a s Right) (states_of a (right (guide_of a) s))

-- the part of a space is that of the automaton, with the same roots in this list and with merged classes
pub record IsPartOf (shelf : Contents) (a : AutoView) (roots : List NodeRef) (s : ℕ) (part : Part) : Type 0 where
  pub own : Part
  pub there : slice_get a.parts s ≡ Some own
  pub states : part.states ≡ own.states
  pub initial : part.initial ≡ own.initial
  pub children : part.children ≡ own.children
  pub within : (l r place : ℕ) → place_in part l r ≡ Some place → place < length roots
  pub same : (l r : ℕ) → option_and_then (λ place. slice_get roots place) (place_in part l r) ≡ root_at shelf a s l r
  pub merged : IsMergedPart shelf a s part

-- the part has all places behind the first ones
abbrev pub UsesAfter : List NodeRef → List NodeRef → Part → Type 0
UsesAfter old new part = (more : ℕ) → length old + more < length new → HasPlace part (length old + more)

-- a part has the place
pub record IsUsedIn (parts : List Part) (place : ℕ) : Type 0 where
  pub space : ℕ
  pub part : Part
  pub there : slice_get parts space ≡ Some part
  pub has : HasPlace part place

-- the parts of the first spaces, which have all roots
pub record ArePartsOf (shelf : Contents) (a : AutoView) (roots : List NodeRef) (parts : List Part) : Type 0 where
  pub each : (s : ℕ) (part : Part) → slice_get parts s ≡ Some part → IsPartOf shelf a roots s part
  pub used : (place : ℕ) → place < length roots → IsUsedIn parts place
