-- Some reached states of each class.
use Rattle.std.specs.Prelude.{◌≡◌, ℕ, Bool, true, false, List, Some, slice_get, slice_index, slice_index_or}

-- whether the state is marked
abbrev pub is_marked : List Bool → ℕ → Bool
is_marked marks q = slice_index_or marks q false

-- the list has the number
pub record IsAmong (numbers : List ℕ) (number : ℕ) : Type 0 where
  pub place : ℕ
  pub there : slice_get numbers place ≡ Some number

-- a listed state of the same class
pub record HasLike (classes chosen : List ℕ) (class : ℕ) : Type 0 where
  pub like : ℕ
  pub among : IsAmong chosen like
  pub same : slice_index classes like ≡ class

-- they are reached, and each reached state has the class of one of them
pub record AreChosen (classes : List ℕ) (reached : List Bool) (chosen : List ℕ) : Type 0 where
  pub each : (q : ℕ) → IsAmong chosen q → is_marked reached q ≡ true
  pub all : (q : ℕ) → is_marked reached q ≡ true → HasLike classes chosen (slice_index classes q)
