-- Numbers for sets of states: each set has its place in a list.
use Rattle.std.specs.Prelude.{◌≡◌, ℕ, suc, ◌^◌, ◌≤◌, Bool, nat_eq, List, [], if◌then◌else◌}
use Rattle.std.specs.Prelude.{◌∷◌, ◌++◌, map, length, Option, Some, None, option_map, slice_get, Vec}
use Rattle.std.specs.Cmp.Lexicographic.{pointwise}
use Rattle.std.proofs.Common.{Global}
use Rattle.bdd_walk.specs.Answers.{Answers}
use Rattle.bdd_walk.specs.Sets.{set_of, IsSet}

-- whether the two sets are the same
abbrev pub is_set : List ℕ → List ℕ → Bool
is_set one other = pointwise nat_eq one other

-- the lists of vectors
abbrev pub lists_of : List (Vec ℕ Global) → List (List ℕ)
lists_of vectors = map (λ vector. vector.items) vectors

-- the place of a set in the list; none where it isn't there
abbrev pub number_in : List (List ℕ) → List ℕ → Option ℕ
number_in [] set = None
number_in (s ∷ ss) set = if is_set set s then Some 0 else option_map suc (number_in ss set)

-- each is a set, and there once, and no more than there are state numbers
pub record AreNumbers (sets : List (List ℕ)) : Type 0 where
  pub found : (k : ℕ) (set : List ℕ) → slice_get sets k ≡ Some set → number_in sets set ≡ Some k
  pub few : length sets ≤ 2 ^ 31
  pub set : (k : ℕ) (set : List ℕ) → slice_get sets k ≡ Some set → IsSet set

-- a list of states is answered by the number of its set
abbrev pub numbered : List (List ℕ) → Answers
numbered sets states = number_in sets (set_of states)

-- the two lists have one set
abbrev pub AreOfOneSet : List ℕ → List ℕ → Type 0
AreOfOneSet one other = set_of other ≡ set_of one

-- each set keeps its place
pub record Extends (old new : List (List ℕ)) : Type 0 where
  pub kept : (k : ℕ) (set : List ℕ) → slice_get old k ≡ Some set → slice_get new k ≡ Some set

-- the set has come, where it wasn't there; or nothing has changed
pub data Grows (old new : List (List ℕ)) (set : List ℕ) : Type 0 where
  stays : new ≡ old → Grows old new set
  comes : number_in old set ≡ None → new ≡ old ++ set ∷ [] → Grows old new set
