-- Short lists of states: one state for each class that the states of a set have.
use Rattle.std.specs.Prelude.{◌≡◌, ℕ, true, List, [], ◌∷◌, ◌++◌, length, Option, Some, None, option_map, unwrap_or, slice_get, nat_eq}
use Rattle.std.specs.declared.hash.FoldHasher.{FoldHasher}
use Rattle.std.specs.declared.hash.BuildHasherDefault.{BuildHasherDefault}
use Rattle.std.specs.HashSet.{HashSet, contains, Updates}
use Rattle.gta_core.specs.Auto.{AutoView}
use Rattle.gta_subsets.specs.Classes.{HaveClasses}

-- the class of each state of the left child of a space
abbrev pub rows_in : AutoView → ℕ → List ℕ
rows_in a s = unwrap_or (option_map (λ part. part.rows) (slice_get a.parts s)) []

-- the class of each state of the right child of a space
abbrev pub columns_in : AutoView → ℕ → List ℕ
columns_in a s = unwrap_or (option_map (λ part. part.columns) (slice_get a.parts s)) []

-- for each set there is a list with the classes of its states
pub record AreShorts (classes : List ℕ) (sets shorts : List (List ℕ)) : Type 0 where
  pub many : length shorts ≡ length sets
  pub each : (k : ℕ) (set short : List ℕ) → slice_get sets k ≡ Some set → slice_get shorts k ≡ Some short → HaveClasses classes set short

-- the classes that were seen
abbrev pub SeenClasses : Type 0
SeenClasses = HashSet ℕ (BuildHasherDefault FoldHasher)

-- the class of a state was seen, or the state is the first that has it, or it has none
pub data IsShortStep (class : Option ℕ) (state : ℕ) (seen : SeenClasses) (short : List ℕ) : SeenClasses → List ℕ → Type 0 where
  was_seen : (k : ℕ) → class ≡ Some k → contains nat_eq seen k ≡ true → IsShortStep class state seen short seen short
  is_first : (k : ℕ) (after : SeenClasses) → class ≡ Some k → Updates nat_eq seen after k true →
      IsShortStep class state seen short after (short ++ state ∷ [])
  has_none : class ≡ None → IsShortStep class state seen short seen (short ++ state ∷ [])
