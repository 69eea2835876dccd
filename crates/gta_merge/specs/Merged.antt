-- Classes of the states of children, by their rows and columns in the tables of an automaton. (Rows that are shared, as in
-- the transition tables of guided tree automata: Klarlund and Møller, MONA Version 1.4 User Manual.)
use Rattle.std.specs.Prelude.{◌≡◌, ℕ, ◌*◌, ◌<◌, ◌↔◌, List, length, Some, slice_get}
use Rattle.bdd_nodes.specs.Shelf.{Contents}
use Rattle.gta_core.specs.declared.part.Part.{Part}
use Rattle.gta_core.specs.Auto.{AutoView, states_of, root_at}

-- so many classes: each is that of a state, and two states share one exactly where they are alike
pub record AreClasses (IsLike : ℕ → ℕ → Type 0) (many : ℕ) (classes : List ℕ) : Type 0 where
  pub within : (q class : ℕ) → slice_get classes q ≡ Some class → class < many
  pub each : (class : ℕ) → class < many → (q : ℕ) × (slice_get classes q ≡ Some class)
  pub shared : (q r class other : ℕ) → slice_get classes q ≡ Some class → slice_get classes r ≡ Some other →
      (class ≡ other) ↔ IsLike q r

-- two states of the left child have equal rows
abbrev pub HaveEqualRows : Contents → AutoView → ℕ → ℕ → ℕ → Type 0
HaveEqualRows shelf a s l m = (r : ℕ) → root_at shelf a s l r ≡ root_at shelf a s m r

-- two states of the right child have equal columns
abbrev pub HaveEqualColumns : Contents → AutoView → ℕ → ℕ → ℕ → Type 0
HaveEqualColumns shelf a s r q = (l : ℕ) → root_at shelf a s l r ≡ root_at shelf a s l q

-- the part of a space has a row for each class of left states and a column for each class of right ones, no two of them
-- equal
pub record IsMergedPart (shelf : Contents) (a : AutoView) (s : ℕ) (part : Part) : Type 0 where
  pub height : ℕ
  pub rows : AreClasses (HaveEqualRows shelf a s) height part.rows
  pub columns : AreClasses (HaveEqualColumns shelf a s) part.width part.columns
  pub cells : length part.cells ≡ height * part.width

-- equal rows of a space's table are one, and so are equal columns
pub record IsMerged (shelf : Contents) (a : AutoView) : Type 0 where
  pub each : (s : ℕ) (part : Part) → slice_get a.parts s ≡ Some part → IsMergedPart shelf a s part

-- of so many states, two have one of these classes exactly where they are alike
abbrev pub ShareExactly : (ℕ → ℕ → Type 0) → ℕ → List ℕ → Type 0
ShareExactly IsLike many classes = (q r : ℕ) → q < many → r < many → (slice_get classes q ≡ slice_get classes r) ↔ IsLike q r

-- no row of a space's table is there twice, and no column: states of a child share a class exactly where they have the same
-- roots
pub record HasNoEqualLines (shelf : Contents) (a : AutoView) (s : ℕ) : Type 0 where
  pub part : Part
  pub there : slice_get a.parts s ≡ Some part
  pub rows : ShareExactly (HaveEqualRows shelf a s) (states_of a part.children.0) part.rows
  pub columns : ShareExactly (HaveEqualColumns shelf a s) (states_of a part.children.1) part.columns

-- it is so in each space
pub record HaveNoEqualLines (shelf : Contents) (a : AutoView) : Type 0 where
  pub each : (s : ℕ) → s < length a.parts → HasNoEqualLines shelf a s
