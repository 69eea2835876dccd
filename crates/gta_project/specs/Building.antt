-- What a projection is made of while it is built: for each space its sets so far, and the nodes that joins made for them.
use Rattle.std.specs.Prelude.{◌≡◌, ◌≢◌, ℕ, ◌<◌, ◌≤◌, ◌+◌, ◌*◌, ◌⊎◌, List, length, Some, All, AllPairs, slice_get}
use Rattle.std.specs.List.{range_with_len}
use Rattle.labels.specs.Labels.{Label, Function}
use Rattle.bdd_nodes.specs.declared.node_ref.NodeRef.{NodeRef}
use Rattle.bdd_nodes.specs.Shelf.{Contents, IsShelf, limit_of}
use Rattle.bdd_nodes.specs.Changes.{Keeps, SameTables}
use Rattle.bdd_walk.specs.declared.set_joiner.SetJoiner.{SetJoiner}
use Rattle.bdd_walk.specs.Answers.{Completes}
use Rattle.bdd_walk.specs.Fits.{FitsSets}
use Rattle.bdd_walk.specs.Under.{AddsAmong, ExceedsAmong}
use Rattle.gta_theory.specs.Guides.{Spaces, IsSpace, left, right}
use Rattle.gta_theory.specs.Automata.{Automaton}
use Rattle.gta_theory.specs.Generated.{Generated}
use Rattle.gta_core.specs.declared.part.Part.{Part}
use Rattle.gta_core.specs.Auto.{AutoView}
use Rattle.gta_subsets.specs.Numbers.{number_in, numbered, AreNumbers, Extends}
use Rattle.gta_subsets.specs.Classes.{AreClasses}
use Rattle.gta_project.specs.Filling.{IsCell}

module _ (g : Spaces) (Sets : Automaton (List ℕ)) where
  -- the sets of a space: each once, first the initial one, and each is generated
  pub record IsSpaceOf (s : ℕ) (sets : List (List ℕ)) : Type 0 where
    pub numbers : AreNumbers sets
    pub initial : slice_get sets 0 ≡ Some (Sets.initial s)
    pub generated : (k : ℕ) (set : List ℕ) → slice_get sets k ≡ Some set → Generated g Sets s set

  -- the sets of all spaces
  pub record AreSpaces (spaces : List (List (List ℕ))) : Type 0 where
    pub many : length spaces ≡ length g
    pub each : (s : ℕ) (sets : List (List ℕ)) → slice_get spaces s ≡ Some sets → IsSpaceOf s sets

  -- the function is that of a generated set of each child, by a way of giving numbers in each space
  pub record IsStepFunction (given : ℕ → List ℕ → ℕ) (whole : Function) : Type 0 where
    pub space : ℕ
    pub inside : IsSpace g space
    pub at_left : List ℕ
    pub at_right : List ℕ
    pub in_left : Generated g Sets (left g space) at_left
    pub in_right : Generated g Sets (right g space) at_right
    pub states : (label : Label) → whole label ≡ given space (Sets.step space at_left at_right label)

  -- the numbers that the spaces have are given
  abbrev pub CompleteAll : List (List (List ℕ)) → (ℕ → List ℕ → ℕ) → Type 0
  CompleteAll spaces given = (s : ℕ) (sets : List (List ℕ)) → slice_get spaces s ≡ Some sets → Completes (number_in sets) (given s)

  -- the nodes that came stand for functions under those of generated sets
  pub record AddsSteps (old new : Contents) (given : ℕ → List ℕ → ℕ) : Type 0 where
    pub wholes : List Function
    pub each : All (IsStepFunction given) wholes
    pub adds : AddsAmong old new wholes

  -- there is less room than there are functions missing under those of generated sets
  pub record ExceedsSteps (shelf : Contents) (given : ℕ → List ℕ → ℕ) : Type 0 where
    pub wholes : List Function
    pub each : All (IsStepFunction given) wholes
    pub exceeds : ExceedsAmong shelf wholes

  -- a space has more pairs of different generated sets of its children than the limit
  pub record HasManyCells (shelf : Contents) : Type 0 where
    pub space : ℕ
    pub inside : IsSpace g space
    pub rows : List (List ℕ)
    pub columns : List (List ℕ)
    pub in_left : All (Generated g Sets (left g space)) rows
    pub in_right : All (Generated g Sets (right g space)) columns
    pub rows_differ : AllPairs (λ x y. x ≢ y) rows
    pub columns_differ : AllPairs (λ x y. x ≢ y) columns
    pub many : limit_of shelf < length rows * length columns

  -- the projection at work since the shelf was as at first
  pub record Building (first now : Contents) (spaces : List (List (List ℕ))) : Type 0 where
    pub keeps : Keeps first now
    pub same_limit : limit_of now ≡ limit_of first
    pub tables : SameTables first now
    pub shelf : IsShelf now
    pub are : AreSpaces spaces
    pub counted : (given : ℕ → List ℕ → ℕ) → CompleteAll spaces given → AddsSteps first now given

  -- there is less room than the projection of these spaces has missing functions, or a space has many cells
  pub record Exceeded (first : Contents) : Type 0 where
    pub spaces : List (List (List ℕ))
    pub exceeds : (given : ℕ → List ℕ → ℕ) → CompleteAll spaces given → ExceedsSteps first given ⊎ HasManyCells first

  -- the part of a space has a root for each pair of classes of its children's sets, of a source that has this part
  pub record IsBuilt (s : ℕ) (lefts rights sets : List (List ℕ)) (own : Part) (shelf : Contents) (roots : List NodeRef)
      (part : Part) : Type 0 where
    pub children : slice_get g s ≡ Some part.children
    pub states : part.states ≡ length sets
    pub initial : part.initial ≡ 0
    pub rows : List (List ℕ)
    pub columns : List (List ℕ)
    pub row_classes : AreClasses lefts own.rows (record { of = part.rows; ones = rows })
    pub column_classes : AreClasses rights own.columns (record { of = part.columns; ones = columns })
    pub width : part.width ≡ length columns
    pub cells : part.cells ≡ range_with_len 0 (length rows * length columns)
    pub within : part.first + length rows * length columns ≤ length roots
    pub cell : (i j : ℕ) (row column : List ℕ) (root : NodeRef) → slice_get rows i ≡ Some row → slice_get columns j ≡ Some column →
        slice_get roots (part.first + (i * length columns + j)) ≡ Some root → IsCell Sets.step s sets row column shelf root

  module _ (a : AutoView) (before after : List (List (List ℕ))) (shelf : Contents) (roots : List NodeRef) where
    -- the part is that of a space, for the sets that its children had before and that it has after
    pub record IsPartOf (s : ℕ) (part : Part) : Type 0 where
      pub lefts : List (List ℕ)
      pub rights : List (List ℕ)
      pub sets : List (List ℕ)
      pub own : Part
      pub at_left : slice_get before (left g s) ≡ Some lefts
      pub at_right : slice_get before (right g s) ≡ Some rights
      pub at : slice_get after s ≡ Some sets
      pub in_own : slice_get a.parts s ≡ Some own
      pub built : IsBuilt s lefts rights sets own shelf roots part

    -- a cell of some part has the place
    pub record IsPlaceOf (parts : List Part) (place : ℕ) : Type 0 where
      pub space : ℕ
      pub part : Part
      pub at : slice_get parts space ≡ Some part
      pub from : part.first ≤ place
      pub to : place < part.first + length part.cells

    -- the parts of the first spaces, which have all roots
    pub record AreParts (parts : List Part) : Type 0 where
      pub each : (s : ℕ) (part : Part) → slice_get parts s ≡ Some part → IsPartOf s part
      pub used : (place : ℕ) → place < length roots → IsPlaceOf parts place

-- each space keeps its sets
pub record ExtendAll (old new : List (List (List ℕ))) : Type 0 where
  pub many : length new ≡ length old
  pub each : (s : ℕ) (sets more : List (List ℕ)) → slice_get old s ≡ Some sets → slice_get new s ≡ Some more → Extends sets more

-- each space has a joiner, for the track t dropped, that fits its numbers
pub record FitAll (t : ℕ) (shelf : Contents) (joiners : List SetJoiner) (spaces : List (List (List ℕ))) : Type 0 where
  pub many : length joiners ≡ length spaces
  pub each : (s : ℕ) (joiner : SetJoiner) (sets : List (List ℕ)) → slice_get joiners s ≡ Some joiner → slice_get spaces s ≡ Some sets →
      FitsSets joiner t shelf (numbered sets)

-- what joins leave of a shelf
pub record Leaves (old new : Contents) : Type 0 where
  pub keeps : Keeps old new
  pub same_limit : limit_of new ≡ limit_of old
  pub tables : SameTables old new
  pub shelf : IsShelf new
