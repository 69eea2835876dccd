-- How classes are cut in two.
use Rattle.std.specs.Prelude.{◌≡◌, ℕ, Bool, true, List, ◌⊎◌, Contains, slice_index}
use Rattle.gta_classes.specs.declared.part.SpaceClasses.{SpaceClasses}
use Rattle.gta_classes.specs.Chosen.{is_marked}
use Rattle.gta_classes.specs.Classes.{IsSplit}
use Rattle.gta_classes.specs.Lists.{list_at}

-- the state is reached and of the class
abbrev pub IsIn : SpaceClasses → ℕ → ℕ → Type 0
IsIn part class q = (is_marked part.reached q ≡ true) × (slice_index part.classes q ≡ class)

-- the list of each class has its states, and maybe others that it had
abbrev pub Covers : SpaceClasses → List (List ℕ) → Type 0
Covers part lists = (q : ℕ) → is_marked part.reached q ≡ true → Contains (list_at lists (slice_index part.classes q)) q

-- each member of the class that the list had is in one of two lists
abbrev pub IsDivided : SpaceClasses → ℕ → List ℕ → List ℕ → List ℕ → Type 0
IsDivided part class old members moved = (q : ℕ) → IsIn part class q → Contains old q → Contains members q ⊎ Contains moved q

-- 1 at each listed state, and 0 at each other one
abbrev pub IsIndicator : List ℕ → List ℕ → Type 0
IsIndicator listed ids = (q : ℕ) →
    ((slice_index ids q ≡ 1) × Contains listed q) ⊎ ((slice_index ids q ≡ 0) × (Contains listed q → ⊥))

-- reached states: the listed ones, and all of each class that a listed state represents
pub record HasOthers (part : SpaceClasses) (listed order : List ℕ) : Type 0 where
  pub reached : (q : ℕ) → Contains order q → is_marked part.reached q ≡ true
  pub kept : (q : ℕ) → Contains listed q → Contains order q
  pub others : (q : ℕ) → is_marked part.reached q ≡ true → Contains listed (slice_index part.representatives (slice_index part.classes q)) →
      Contains order q

-- states of one class stay together where both are listed, or neither is
pub record IsCut (reached : List Bool) (listed old new : List ℕ) : Type 0 where
  pub ids : List ℕ
  pub indicator : IsIndicator listed ids
  pub split : IsSplit reached ids old new
