-- Lists of numbers at places.
use Rattle.std.specs.Prelude.{◌≡◌, ℕ, ◌<◌, List, [], ◌⊎◌, length, Contains, slice_index_or}

-- the list at a place
abbrev pub list_at : List (List ℕ) → ℕ → List ℕ
list_at lists place = slice_index_or lists place []

-- the list at the place has the number
abbrev pub Leads : List (List ℕ) → ℕ → ℕ → Type 0
Leads lists place number = Contains (list_at lists place) number

-- the list at the place has the number besides, and nothing else is new
pub record IsAdded (old : List (List ℕ)) (place number : ℕ) (new : List (List ℕ)) : Type 0 where
  pub many : length new ≡ length old
  pub kept : (a b : ℕ) → Leads old a b → Leads new a b
  pub added : place < length old → Leads new place number
  pub sound : (a b : ℕ) → Leads new a b → Leads old a b ⊎ ((a ≡ place) × (b ≡ number))
