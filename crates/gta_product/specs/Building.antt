-- What a product is made of while it is built: for each space its pairs so far, and the nodes that joins made for them.
use Rattle.std.specs.Prelude.{◌≡◌, ◌≢◌, ℕ, ◌<◌, ◌≤◌, ◌+◌, ◌*◌, ◌⊎◌, List, length, Some, None, All, AllPairs, slice_get}
use Rattle.std.specs.List.{range_with_len}
use Rattle.labels.specs.Labels.{Label, Function}
use Rattle.bdd_nodes.specs.declared.node_ref.NodeRef.{NodeRef}
use Rattle.bdd_nodes.specs.Shelf.{Contents, IsShelf, IsValid, limit_of}
use Rattle.bdd_nodes.specs.Changes.{Keeps, SameTables}
use Rattle.bdd_walk.specs.declared.joiner.Joiner.{Joiner}
use Rattle.bdd_walk.specs.Answers.{Completes}
use Rattle.bdd_walk.specs.Fits.{Fits}
use Rattle.bdd_walk.specs.Under.{AddsAmong, ExceedsAmong}
use Rattle.gta_theory.specs.Guides.{Spaces, IsSpace, left, right}
use Rattle.gta_theory.specs.Automata.{Automaton}
use Rattle.gta_theory.specs.Generated.{Generated}
use Rattle.gta_core.specs.declared.part.Part.{Part}
use Rattle.gta_core.specs.Auto.{AutoView}
use Rattle.gta_product.specs.Numbers.{numbered, AreNumbers, Extends}
use Rattle.gta_product.specs.Classes.{AreClasses}
use Rattle.gta_product.specs.Filling.{asked_at, IsCell}

module _ (g : Spaces) (AB : Automaton (ℕ × ℕ)) where
  -- the pairs of a space: each once, first the initial one, and each is generated
  pub record IsSpaceOf (s : ℕ) (pairs : List (ℕ × ℕ)) : Type 0 where
    pub numbers : AreNumbers pairs
    pub initial : slice_get pairs 0 ≡ Some (AB.initial s)
    pub generated : (k : ℕ) (pair : ℕ × ℕ) → slice_get pairs k ≡ Some pair → Generated g AB s pair

  -- the pairs of all spaces
  pub record AreSpaces (spaces : List (List (ℕ × ℕ))) : Type 0 where
    pub many : length spaces ≡ length g
    pub each : (s : ℕ) (pairs : List (ℕ × ℕ)) → slice_get spaces s ≡ Some pairs → IsSpaceOf s pairs

  -- the function is that of a generated pair of each child, by a way of giving numbers in each space
  pub record IsStepFunction (given : ℕ → List ℕ → ℕ) (whole : Function) : Type 0 where
    pub space : ℕ
    pub inside : IsSpace g space
    pub at_left : ℕ × ℕ
    pub at_right : ℕ × ℕ
    pub in_left : Generated g AB (left g space) at_left
    pub in_right : Generated g AB (right g space) at_right
    pub states : (label : Label) → whole label ≡ given space (asked_at AB space at_left at_right label)

  -- the numbers that the spaces have are given
  abbrev pub CompleteAll : List (List (ℕ × ℕ)) → (ℕ → List ℕ → ℕ) → Type 0
  CompleteAll spaces given = (s : ℕ) (pairs : List (ℕ × ℕ)) → slice_get spaces s ≡ Some pairs → Completes (numbered pairs) (given s)

  -- the nodes that came stand for functions under those of generated pairs
  pub record AddsSteps (old new : Contents) (given : ℕ → List ℕ → ℕ) : Type 0 where
    pub wholes : List Function
    pub each : All (IsStepFunction given) wholes
    pub adds : AddsAmong old new wholes

  -- there is less room than there are functions missing under those of generated pairs
  pub record ExceedsSteps (shelf : Contents) (given : ℕ → List ℕ → ℕ) : Type 0 where
    pub wholes : List Function
    pub each : All (IsStepFunction given) wholes
    pub exceeds : ExceedsAmong shelf wholes

  -- different generated pairs of a space's children, as rows and columns, have more cells than the limit
  pub record HasManyCells (shelf : Contents) : Type 0 where
    pub space : ℕ
    pub inside : IsSpace g space
    pub rows : List (ℕ × ℕ)
    pub columns : List (ℕ × ℕ)
    pub in_left : All (Generated g AB (left g space)) rows
    pub in_right : All (Generated g AB (right g space)) columns
    pub rows_differ : AllPairs (λ x y. x ≢ y) rows
    pub columns_differ : AllPairs (λ x y. x ≢ y) columns
    pub many : limit_of shelf < length rows * length columns

  -- the product at work since the shelf was as at first
  pub record Building (first now : Contents) (spaces : List (List (ℕ × ℕ))) : Type 0 where
    pub keeps : Keeps first now
    pub same_limit : limit_of now ≡ limit_of first
    pub tables : SameTables first now
    pub shelf : IsShelf now
    pub are : AreSpaces spaces
    pub counted : (given : ℕ → List ℕ → ℕ) → CompleteAll spaces given → AddsSteps first now given

  -- there is less room than the product of these spaces has missing functions, or some space has many cells
  pub record Exceeded (first : Contents) : Type 0 where
    pub spaces : List (List (ℕ × ℕ))
    pub exceeds : (given : ℕ → List ℕ → ℕ) → CompleteAll spaces given → ExceedsSteps first given ⊎ HasManyCells first

  -- the part of a space has a root for each pair of classes of its children's pairs
  pub record IsBuilt (s : ℕ) (lefts rights pairs : List (ℕ × ℕ)) (first second : Part) (shelf : Contents) (roots : List NodeRef)
      (part : Part) : Type 0 where
    pub children : slice_get g s ≡ Some part.children
    pub states : part.states ≡ length pairs
    pub initial : part.initial ≡ 0
    pub rows : List (ℕ × ℕ)
    pub columns : List (ℕ × ℕ)
    pub row_classes : AreClasses lefts first.rows second.rows part.rows rows
    pub column_classes : AreClasses rights first.columns second.columns part.columns columns
    pub width : part.width ≡ length columns
    pub cells : part.cells ≡ range_with_len 0 (length rows * length columns)
    pub within : part.first + length rows * length columns ≤ length roots
    pub cell : (i j : ℕ) (row column : ℕ × ℕ) (root : NodeRef) → slice_get rows i ≡ Some row → slice_get columns j ≡ Some column →
        slice_get roots (part.first + (i * length columns + j)) ≡ Some root → IsCell AB s pairs row column shelf root

  module _ (a b : AutoView) (spaces : List (List (ℕ × ℕ))) (shelf : Contents) (roots : List NodeRef) where
    -- the part is that of a space, for the pairs that it and its children have
    pub record IsPartOf (s : ℕ) (part : Part) : Type 0 where
      pub lefts : List (ℕ × ℕ)
      pub rights : List (ℕ × ℕ)
      pub pairs : List (ℕ × ℕ)
      pub first : Part
      pub second : Part
      pub at_left : slice_get spaces (left g s) ≡ Some lefts
      pub at_right : slice_get spaces (right g s) ≡ Some rights
      pub at : slice_get spaces s ≡ Some pairs
      pub in_first : slice_get a.parts s ≡ Some first
      pub in_second : slice_get b.parts s ≡ Some second
      pub built : IsBuilt s lefts rights pairs first second shelf roots part

    -- a cell of some part has the place
    pub record IsPlaceOf (parts : List Part) (place : ℕ) : Type 0 where
      pub space : ℕ
      pub part : Part
      pub at : slice_get parts space ≡ Some part
      pub from : part.first ≤ place
      pub to : place < part.first + length part.cells

    -- the parts of the first spaces, which have all roots
    pub record AreParts (parts : List Part) : Type 0 where
      pub valid : All (IsValid shelf) roots
      pub each : (s : ℕ) (part : Part) → slice_get parts s ≡ Some part → IsPartOf s part
      pub used : (place : ℕ) → place < length roots → IsPlaceOf parts place

-- each space keeps its pairs
pub record ExtendAll (old new : List (List (ℕ × ℕ))) : Type 0 where
  pub many : length new ≡ length old
  pub each : (s : ℕ) (pairs more : List (ℕ × ℕ)) → slice_get old s ≡ Some pairs → slice_get new s ≡ Some more → Extends pairs more

-- each space has a joiner that fits its numbers
pub record FitAll (shelf : Contents) (joiners : List Joiner) (spaces : List (List (ℕ × ℕ))) : Type 0 where
  pub many : length joiners ≡ length spaces
  pub each : (s : ℕ) (joiner : Joiner) (pairs : List (ℕ × ℕ)) → slice_get joiners s ≡ Some joiner → slice_get spaces s ≡ Some pairs →
      Fits joiner None shelf (numbered pairs)

-- what joins leave of a shelf
pub record Leaves (old new : Contents) : Type 0 where
  pub keeps : Keeps old new
  pub same_limit : limit_of new ≡ limit_of old
  pub tables : SameTables old new
  pub shelf : IsShelf new
