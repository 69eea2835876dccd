-- Numbers for pairs of states: each pair has its place in a list.
use Rattle.std.specs.Prelude.{◌≡◌, ℕ, suc, ◌^◌, ◌≤◌, Bool, ◌&&◌, nat_eq, if◌then◌else◌, List, [], ◌∷◌, ◌++◌, length, Option, Some, None, option_map, slice_get}
use Rattle.bdd_walk.specs.Answers.{Answers}

-- whether the two pairs are the same
abbrev pub is_pair : ℕ × ℕ → ℕ × ℕ → Bool
is_pair one other = nat_eq one.0 other.0 && nat_eq one.1 other.1

-- the place of a pair in the list; none where it isn't there
abbrev pub number_in : List (ℕ × ℕ) → ℕ × ℕ → Option ℕ
number_in [] pair = None
number_in (p ∷ ps) pair = if is_pair pair p then Some 0 else option_map suc (number_in ps pair)

-- each pair once, and no more than there are state numbers
pub record AreNumbers (pairs : List (ℕ × ℕ)) : Type 0 where
  pub found : (k : ℕ) (pair : ℕ × ℕ) → slice_get pairs k ≡ Some pair → number_in pairs pair ≡ Some k
  pub few : length pairs ≤ 2 ^ 31

-- two states are answered by the number of their pair
abbrev pub numbered : List (ℕ × ℕ) → Answers
numbered pairs [] = None
numbered pairs (p ∷ []) = None
numbered pairs (p ∷ q ∷ []) = number_in pairs (p, q)
numbered pairs (p ∷ q ∷ r ∷ rest) = None

-- each pair keeps its place
pub record Extends (old new : List (ℕ × ℕ)) : Type 0 where
  pub kept : (k : ℕ) (pair : ℕ × ℕ) → slice_get old k ≡ Some pair → slice_get new k ≡ Some pair

-- the pair has come, where it wasn't there; or nothing has changed
pub data Grows (old new : List (ℕ × ℕ)) (pair : ℕ × ℕ) : Type 0 where
  stays : new ≡ old → Grows old new pair
  comes : number_in old pair ≡ None → new ≡ old ++ pair ∷ [] → Grows old new pair

-- what may be numbered: two states, where the pairs so far are numbered
pub record MayNumber (pairs : List (ℕ × ℕ)) (states : List ℕ) : Type 0 where
  pub numbers : AreNumbers pairs
  pub two : length states ≡ 2
