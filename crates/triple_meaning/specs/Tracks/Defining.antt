-- What defines tracks that are made one after the other: each text looks at the tracks before its own and at its own, and some
-- finite set on its own satisfies it, whatever stands on the others. (Møller and Schwartzbach, PLDI 2001.)
use Rattle.std.specs.Prelude.{◌≡◌, ℕ, suc, ◌+◌, ◌<◌, ◌≤◌, List, [], ◌∷◌, length}
use Rattle.gta_theory.specs.Assignments.{PositionSet, Assignment, IsFinite, IsFiniteSet, replace}
use Rattle.ws2s_core.specs.Satisfaction.{WSat}
use Rattle.ws2s_core.specs.Tracks.{IsFree}
use Rattle.store_core.specs.Tables.{TypeEntry, VarEntry}
use Rattle.tree_encode.specs.Tracks.{track_count}
use Rattle.site_list.specs.States.{Text, State}

-- no track from this number on, below those that quantifiers bind, is free in the text's formula
abbrev pub LooksBelow : ℕ → Text → Type 0
LooksBelow n text = (next t : ℕ) → n ≤ t → t < next → IsFree t (text next) → ⊥

-- the text defines the track with this number
pub record IsDefining (n : ℕ) (text : Text) : Type 0 where
  pub looks : LooksBelow (suc n) text
  pub value : (next : ℕ) (b : Assignment) → n < next → IsFinite b → (set : PositionSet) × IsFiniteSet set × WSat (text next) (replace b n set)

-- the texts define the tracks from this number on, one each
abbrev pub AreDefining : ℕ → List Text → Type 0
AreDefining n [] = Unit {0}
AreDefining n (text ∷ texts) = IsDefining n text × AreDefining (suc n) texts

-- b has finite sets, those of a but on so many tracks from the first on
pub record IsWithOthers (first count : ℕ) (a b : Assignment) : Type 0 where
  pub finite : IsFinite b
  pub before : (t : ℕ) → t < first → b t ≡ a t
  pub behind : (t : ℕ) → first + count ≤ t → b t ≡ a t

-- the same but on the tracks that the walk to the state made
abbrev pub IsWithMade : List TypeEntry → List VarEntry → State → Assignment → Assignment → Type 0
IsWithMade types vars s a b = IsWithOthers (track_count types vars) (length s.defined) a b
