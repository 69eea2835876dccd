-- Rows that classes share: a state's row says which functions its pairs have, and states of one kind have one row.
use Rattle.std.specs.Prelude.{◌≡◌, ℕ, suc, ◌<◌, ◌≤◌, List, [], ◌∷◌, ◌++◌, length, slice_index, slice_set}

-- the kind has a row, or one is made for the state. A link of a kind is its row plus one, and 0 where it has none
pub data IsRowStep (kind state : ℕ) (links states : List ℕ) : List ℕ → List ℕ → ℕ → Type 0 where
  known : (row : ℕ) → slice_index links kind ≡ suc row → IsRowStep kind state links states links states row
  makes : (row : ℕ) → row ≡ length states → IsRowStep kind state links states (slice_set links kind (suc row)) (states ++ state ∷ []) row

-- a class that has the row, and the state as its representative
pub record HasRow (representatives numbers states : List ℕ) (row : ℕ) : Type 0 where
  pub class : ℕ
  pub inside : class < length representatives
  pub number : slice_index numbers class ≡ row
  pub state : slice_index states row ≡ slice_index representatives class

-- each class has a row, whose state is of the kind of the representative; and each row is that of a class
pub record AreSharedRows (kinds representatives numbers states : List ℕ) : Type 0 where
  pub many : length numbers ≡ length representatives
  pub few : length states ≤ length representatives
  pub within : (x : ℕ) → x < length representatives → slice_index numbers x < length states
  pub same : (x : ℕ) → x < length representatives →
      slice_index kinds (slice_index states (slice_index numbers x)) ≡ slice_index kinds (slice_index representatives x)
  pub has : (row : ℕ) → row < length states → HasRow representatives numbers states row
