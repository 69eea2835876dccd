-- How it is found which spaces are children of positions' spaces.
use Rattle.std.specs.Prelude.{◌≡◌, ℕ, Bool, true, false, ◌⊎◌, List, [], ◌∷◌, ◌++◌, length, slice_index_or, if◌then◌else◌, Contains}
use Rattle.gta_theory.specs.Assignments.{Position}
use Rattle.gta_theory.specs.Guides.{Spaces, IsSpace, left, right, space_at}
use Rattle.ws2s_theory.specs.Merging.{child_space}
use Rattle.gta_atom.specs.declared.child_test.ChildTest.{ChildTest}

-- the marks of a list of spaces
abbrev pub is_marked : List Bool → ℕ → Bool
is_marked marks s = slice_index_or marks s false

-- the test that the marks of the children by 0 and by 1 make
abbrev pub marked_test : List Bool → List Bool → Bool → ℕ → Bool
marked_test by_zero by_one letter s = is_marked (if letter then by_one else by_zero) s

-- no space is marked
abbrev pub NoneMarked : List Bool → List Bool → Type 0
NoneMarked by_zero by_one = (letter : Bool) (s : ℕ) → marked_test by_zero by_one letter s ≡ false

-- the test that was found
abbrev pub test_of : ChildTest → Bool → ℕ → Bool
test_of test = marked_test test.by_zero.items test.by_one.items

-- the spaces that wait once a child is met, too
abbrev pub waiting_after : List Bool → List ℕ → ℕ → List ℕ
waiting_after met waiting child = if is_marked met child then waiting else waiting ++ child ∷ []

-- the children of the space are marked and were met
pub record IsDone (g : Spaces) (by_zero by_one met : List Bool) (s : ℕ) : Type 0 where
  pub zero : is_marked by_zero (left g s) ≡ true
  pub one : is_marked by_one (right g s) ≡ true
  pub left_met : is_marked met (left g s) ≡ true
  pub right_met : is_marked met (right g s) ≡ true

-- the space was met at a position
abbrev pub HasPosition : Spaces → ℕ → Type 0
HasPosition g s = (u : Position) × (space_at g 0 u ≡ s)

-- the spaces that were met have positions, and each is done or waits; a mark is that of a child
pub record Finding (g : Spaces) (by_zero by_one met : List Bool) (waiting : List ℕ) : Type 0 where
  pub zeros : length by_zero ≡ length g
  pub ones : length by_one ≡ length g
  pub mets : length met ≡ length g
  pub root : is_marked met 0 ≡ true
  pub marked : (letter : Bool) (s : ℕ) → marked_test by_zero by_one letter s ≡ true →
      (u : Position) × (child_space g letter (space_at g 0 u) ≡ s)
  pub met_at : (s : ℕ) → is_marked met s ≡ true → HasPosition g s
  pub waits : (s : ℕ) → Contains waiting s → IsSpace g s × (is_marked met s ≡ true)
  pub each : (s : ℕ) → is_marked met s ≡ true → Contains waiting s ⊎ IsDone g by_zero by_one met s
