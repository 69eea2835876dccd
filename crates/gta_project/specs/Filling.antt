-- What joins for the sets of classes of a space have done: their roots, the numbers of new sets, and the nodes.
use Rattle.std.specs.Prelude.{◌≡◌, ℕ, ◌+◌, ◌*◌, List, length, Some, All, Contains, ◌⊎◌, slice_get}
use Rattle.labels.specs.Labels.{Label, Function}
use Rattle.bdd_nodes.specs.declared.node_ref.NodeRef.{NodeRef}
use Rattle.bdd_nodes.specs.Shelf.{Contents, IsShelf, IsValid, state_of, limit_of}
use Rattle.bdd_nodes.specs.Changes.{Keeps, SameTables}
use Rattle.bdd_walk.specs.Answers.{Completes}
use Rattle.bdd_walk.specs.Under.{AddsAmong, ExceedsAmong}
use Rattle.gta_core.specs.Placing.{Grows}
use Rattle.gta_subsets.specs.Numbers.{number_in, Extends}

-- how a space steps from a set of each child on a label
abbrev pub Stepping : Type 0
Stepping = ℕ → List ℕ → List ℕ → Label → List ℕ

-- for each label the root gives the number of the set that the step gives
pub record IsCell (Step : Stepping) (s : ℕ) (sets : List (List ℕ)) (l r : List ℕ) (shelf : Contents) (root : NodeRef) : Type 0 where
  pub valid : IsValid shelf root
  pub states : (label : Label) → number_in sets (Step s l r label) ≡ Some (state_of shelf root label)

-- the set is what a step from a row to a column gives
pub record IsMade (Step : Stepping) (s : ℕ) (rows columns : List (List ℕ)) (set : List ℕ) : Type 0 where
  pub row : List ℕ
  pub column : List ℕ
  pub label : Label
  pub in_rows : Contains rows row
  pub in_columns : Contains columns column
  pub gives : Step s row column label ≡ set

-- the function is that of a row and a column, by a way of giving numbers
pub record IsCellFunction (Step : Stepping) (s : ℕ) (rows columns : List (List ℕ)) (given : List ℕ → ℕ)
    (whole : Function) : Type 0 where
  pub row : List ℕ
  pub column : List ℕ
  pub in_rows : Contains rows row
  pub in_columns : Contains columns column
  pub states : (label : Label) → whole label ≡ given (Step s row column label)

module _ (Step : Stepping) (s : ℕ) (rows columns : List (List ℕ)) where
  -- the nodes that came stand for functions under those of rows and columns
  pub record AddsCells (old new : Contents) (given : List ℕ → ℕ) : Type 0 where
    pub wholes : List Function
    pub each : All (IsCellFunction Step s rows columns given) wholes
    pub adds : AddsAmong old new wholes

  -- there is less room than there are functions missing under those of rows and columns
  pub record ExceedsCells (shelf : Contents) (given : List ℕ → ℕ) : Type 0 where
    pub wholes : List Function
    pub each : All (IsCellFunction Step s rows columns given) wholes
    pub exceeds : ExceedsAmong shelf wholes

  -- joins of rows and columns were made, whatever came of them
  pub record Joins (old new : Contents) (before after : List (List ℕ)) : Type 0 where
    pub keeps : Keeps old new
    pub same_limit : limit_of new ≡ limit_of old
    pub tables : SameTables old new
    pub shelf : IsShelf new
    pub extends : Extends before after
    pub only : (k : ℕ) (set : List ℕ) → slice_get after k ≡ Some set → (slice_get before k ≡ Some set) ⊎ IsMade Step s rows columns set
    pub counted : (given : List ℕ → ℕ) → Completes (number_in after) given → AddsCells old new given

-- behind the roots that were there stand those of a row, one for each column
pub record IsRow (Step : Stepping) (s : ℕ) (row : List ℕ) (columns : List (List ℕ)) (sets : List (List ℕ))
    (shelf : Contents) (old new : List NodeRef) : Type 0 where
  pub grown : Grows old new
  pub many : length new ≡ length old + length columns
  pub cell : (j : ℕ) (column : List ℕ) (root : NodeRef) → slice_get columns j ≡ Some column →
      slice_get new (length old + j) ≡ Some root → IsCell Step s sets row column shelf root

-- behind the roots that were there stand those of all rows, row after row
pub record AreCells (Step : Stepping) (s : ℕ) (rows columns : List (List ℕ)) (sets : List (List ℕ))
    (shelf : Contents) (old new : List NodeRef) : Type 0 where
  pub grown : Grows old new
  pub many : length new ≡ length old + length rows * length columns
  pub cell : (i j : ℕ) (row column : List ℕ) (root : NodeRef) → slice_get rows i ≡ Some row → slice_get columns j ≡ Some column →
      slice_get new (length old + (i * length columns + j)) ≡ Some root → IsCell Step s sets row column shelf root
