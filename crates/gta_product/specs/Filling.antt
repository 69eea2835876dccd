-- What joins for the pairs of classes of a space have done: their roots, the numbers of new pairs, and the nodes.
use Rattle.std.specs.Prelude.{◌≡◌, ℕ, ◌≤◌, List, [], ◌∷◌, ◌++◌, length, Some, All, Contains, ◌⊎◌, slice_get}
use Rattle.labels.specs.Labels.{Label, Function}
use Rattle.bdd_nodes.specs.declared.node_ref.NodeRef.{NodeRef}
use Rattle.bdd_nodes.specs.Shelf.{Contents, IsShelf, IsValid, IsLeaf, state_of, limit_of}
use Rattle.bdd_nodes.specs.Changes.{Keeps, SameTables}
use Rattle.bdd_walk.specs.Answers.{Completes}
use Rattle.bdd_walk.specs.Under.{AddsAmong, ExceedsAmong}
use Rattle.gta_theory.specs.Automata.{Automaton}
use Rattle.gta_product.specs.Numbers.{number_in, numbered, Extends}

-- the step of the pair automaton of a space from a row to a column, as the rule is asked it
abbrev pub asked_at : Automaton (ℕ × ℕ) → ℕ → ℕ × ℕ → ℕ × ℕ → Label → List ℕ
asked_at AB s l r label = (AB.step s l r label).0 ∷ (AB.step s l r label).1 ∷ []

-- the root is the leaf of the number of the pair
pub record IsNumbered (pairs : List (ℕ × ℕ)) (one two : ℕ) (root : NodeRef) : Type 0 where
  pub number : ℕ
  pub has : number_in pairs (one, two) ≡ Some number
  pub leaf : IsLeaf root number

-- for each label the root gives the number of the pair that the step gives
pub record IsCell (AB : Automaton (ℕ × ℕ)) (s : ℕ) (pairs : List (ℕ × ℕ)) (l r : ℕ × ℕ) (shelf : Contents) (root : NodeRef) : Type 0 where
  pub valid : IsValid shelf root
  pub states : (label : Label) → number_in pairs (AB.step s l r label) ≡ Some (state_of shelf root label)

-- the pair is what a step from a row to a column gives
pub record IsMade (AB : Automaton (ℕ × ℕ)) (s : ℕ) (rows columns : List (ℕ × ℕ)) (pair : ℕ × ℕ) : Type 0 where
  pub row : ℕ × ℕ
  pub column : ℕ × ℕ
  pub label : Label
  pub in_rows : Contains rows row
  pub in_columns : Contains columns column
  pub gives : AB.step s row column label ≡ pair

-- the function is that of a row and a column, by a way of giving numbers
pub record IsCellFunction (AB : Automaton (ℕ × ℕ)) (s : ℕ) (rows columns : List (ℕ × ℕ)) (given : List ℕ → ℕ)
    (whole : Function) : Type 0 where
  pub row : ℕ × ℕ
  pub column : ℕ × ℕ
  pub in_rows : Contains rows row
  pub in_columns : Contains columns column
  pub states : (label : Label) → whole label ≡ given (asked_at AB s row column label)

module _ (AB : Automaton (ℕ × ℕ)) (s : ℕ) (rows columns : List (ℕ × ℕ)) where
  -- the nodes that came stand for functions under those of rows and columns
  pub record AddsCells (old new : Contents) (given : List ℕ → ℕ) : Type 0 where
    pub wholes : List Function
    pub each : All (IsCellFunction AB s rows columns given) wholes
    pub adds : AddsAmong old new wholes

  -- there is less room than there are functions missing under those of rows and columns
  pub record ExceedsCells (shelf : Contents) (given : List ℕ → ℕ) : Type 0 where
    pub wholes : List Function
    pub each : All (IsCellFunction AB s rows columns given) wholes
    pub exceeds : ExceedsAmong shelf wholes

  -- joins of rows and columns were made, whatever came of them
  pub record Joins (old new : Contents) (before after : List (ℕ × ℕ)) : Type 0 where
    pub keeps : Keeps old new
    pub same_limit : limit_of new ≡ limit_of old
    pub tables : SameTables old new
    pub shelf : IsShelf new
    pub extends : Extends before after
    pub only : (k : ℕ) (pair : ℕ × ℕ) → slice_get after k ≡ Some pair → (slice_get before k ≡ Some pair) ⊎ IsMade AB s rows columns pair
    pub counted : (given : List ℕ → ℕ) → Completes (numbered after) given → AddsCells old new given

-- the roots are those of a row, one for each of the first columns
pub record IsRow (AB : Automaton (ℕ × ℕ)) (s : ℕ) (row : ℕ × ℕ) (columns : List (ℕ × ℕ)) (pairs : List (ℕ × ℕ))
    (shelf : Contents) (roots : List NodeRef) : Type 0 where
  pub few : length roots ≤ length columns
  pub cell : (j : ℕ) (column : ℕ × ℕ) (root : NodeRef) → slice_get columns j ≡ Some column → slice_get roots j ≡ Some root →
      IsCell AB s pairs row column shelf root

-- each row has its roots, and from one row on they are roots for all columns
pub record AreRows (AB : Automaton (ℕ × ℕ)) (s : ℕ) (rows columns : List (ℕ × ℕ)) (from : ℕ) (pairs : List (ℕ × ℕ))
    (shelf : Contents) (cells : List (List NodeRef)) : Type 0 where
  pub many : length cells ≡ length rows
  pub each : (i : ℕ) (row : ℕ × ℕ) (roots : List NodeRef) → slice_get rows i ≡ Some row → slice_get cells i ≡ Some roots →
      IsRow AB s row columns pairs shelf roots
  pub full : (i : ℕ) (roots : List NodeRef) → slice_get cells i ≡ Some roots → from ≤ i → length roots ≡ length columns

-- the roots of all rows, row after row
abbrev pub row_by_row : List (List NodeRef) → List NodeRef
row_by_row [] = []
row_by_row (row ∷ rows) = row ++ row_by_row rows
