-- How the pairs of the spaces grow while a product is built, and what each space was joined for.
use Rattle.std.specs.Prelude.{◌≡◌, ℕ, ◌+◌, ◌-◌, ◌^◌, ◌≤◌, ◌⊎◌, List, [], ◌∷◌, length, Some, Contains, slice_get}
use Rattle.bdd_nodes.specs.declared.node_ref.NodeRef.{NodeRef}
use Rattle.bdd_nodes.specs.Shelf.{Contents, IsShelf, limit_of}
use Rattle.bdd_nodes.specs.Changes.{Keeps, SameTables}
use Rattle.gta_theory.specs.Guides.{Spaces, left, right}
use Rattle.gta_theory.specs.Automata.{Automaton}
use Rattle.gta_theory.specs.Generated.{Generated}
use Rattle.gta_core.specs.declared.part.Part.{Part}
use Rattle.gta_core.specs.Auto.{AutoView}
use Rattle.gta_product.specs.declared.classes.Classes.{Classes}
use Rattle.gta_product.specs.declared.growing.Growth.{Growth}
use Rattle.gta_product.specs.Classes.{IsKeyed}
use Rattle.gta_product.specs.Filling.{AreRows}
use Rattle.gta_product.specs.Building.{CompleteAll, ExceedsSteps, HasManyCells, Building, ExtendAll}

-- nothing was looked at
pub record IsNew (growth : Growth) : Type 0 where
  pub row_keys : growth.rows.keys ≡ []
  pub row_of : growth.rows.of ≡ []
  pub rows : growth.rows.ones ≡ []
  pub column_keys : growth.columns.keys ≡ []
  pub column_of : growth.columns.of ≡ []
  pub columns : growth.columns.ones ≡ []
  pub cells : growth.cells.items ≡ []

-- the rows of the space have roots that give numbers of the pairs that it has, and from one row on for all columns
abbrev pub HasRows : Automaton (ℕ × ℕ) → List (List (ℕ × ℕ)) → Contents → ℕ → List (ℕ × ℕ) → List (ℕ × ℕ) → ℕ → List (List NodeRef) → Type 0
HasRows AB spaces shelf s rows columns from cells = (pairs : List (ℕ × ℕ)) → slice_get spaces s ≡ Some pairs →
    AreRows AB s rows columns from pairs shelf cells

-- all pairs that the children of the space have were looked at
pub record HasAll (g : Spaces) (spaces : List (List (ℕ × ℕ))) (s : ℕ) (rows columns : Classes) : Type 0 where
  pub rows_all : (lefts : List (ℕ × ℕ)) → slice_get spaces (left g s) ≡ Some lefts → length lefts ≤ length rows.of
  pub columns_all : (rights : List (ℕ × ℕ)) → slice_get spaces (right g s) ≡ Some rights → length rights ≤ length columns.of

-- so were those of each space's children
abbrev pub HaveAll : Spaces → List (List (ℕ × ℕ)) → List Growth → Type 0
HaveAll g spaces growths = (s : ℕ) (growth : Growth) → slice_get growths s ≡ Some growth → HasAll g spaces s growth.rows growth.columns

module _ (g : Spaces) (AB : Automaton (ℕ × ℕ)) where
  -- each pair of the list is generated in the space
  abbrev pub AreGenerated : ℕ → List (ℕ × ℕ) → Type 0
  AreGenerated s pairs = (pair : ℕ × ℕ) → Contains pairs pair → Generated g AB s pair

  module _ (a b : AutoView) (spaces : List (List (ℕ × ℕ))) where
    -- the first pairs of both children have classes, and for each a generated pair stands
    pub record HasSeen (s : ℕ) (rows columns : Classes) : Type 0 where
      pub row_ones : AreGenerated (left g s) rows.ones
      pub column_ones : AreGenerated (right g s) columns.ones
      pub row_classes : (first second : Part) (lefts : List (ℕ × ℕ)) → slice_get a.parts s ≡ Some first → slice_get b.parts s ≡ Some second →
          slice_get spaces (left g s) ≡ Some lefts → IsKeyed lefts first.rows second.rows rows
      pub column_classes : (first second : Part) (rights : List (ℕ × ℕ)) → slice_get a.parts s ≡ Some first → slice_get b.parts s ≡ Some second →
          slice_get spaces (right g s) ≡ Some rights → IsKeyed rights first.columns second.columns columns

    -- the space was joined for these classes: each row has a root for each column
    pub record IsGrown (shelf : Contents) (s : ℕ) (growth : Growth) : Type 0 where
      pub seen : HasSeen s growth.rows growth.columns
      pub rows : HasRows AB spaces shelf s growth.rows.ones growth.columns.ones 0 growth.cells.items

    -- so was each space
    pub record AreGrown (shelf : Contents) (growths : List Growth) : Type 0 where
      pub many : length growths ≡ length g
      pub each : (s : ℕ) (growth : Growth) → slice_get growths s ≡ Some growth → IsGrown shelf s growth

    -- each space was joined for all pairs of its children, so that no more come
    pub record AreDone (shelf : Contents) (growths : List Growth) : Type 0 where
      pub grown : AreGrown shelf growths
      pub all : HaveAll g spaces growths
      pub many : length spaces ≡ length g
      pub first : length a.parts ≡ length g
      pub second : length b.parts ≡ length g

  -- the product goes on being built
  pub record Goes (old new : Contents) (before after : List (List (ℕ × ℕ))) : Type 0 where
    pub extends : ExtendAll before after
    pub keeps : Keeps old new
    pub same_limit : limit_of new ≡ limit_of old
    pub tables : SameTables old new
    pub shelf : IsShelf new
    pub building : (start : Contents) → Building g AB start old before → Building g AB start new after

  -- there is less room than the product that was being built has missing functions, or some space has many cells
  abbrev pub LacksRoom : Contents → List (List (ℕ × ℕ)) → List (List (ℕ × ℕ)) → Type 0
  LacksRoom old before after = (start : Contents) → Building g AB start old before → (given : ℕ → List ℕ → ℕ) →
      CompleteAll g AB after given → ExceedsSteps g AB start given ⊎ HasManyCells g AB start

-- how many pairs the spaces may still get, where each has at most as many as there are state numbers
abbrev pub room_left : List (List (ℕ × ℕ)) → ℕ
room_left [] = 0
room_left (pairs ∷ spaces) = (2 ^ 31 - length pairs) + room_left spaces
