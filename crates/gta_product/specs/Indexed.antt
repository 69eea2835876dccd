-- Where pairs of states are found: the first few by a look at each, the others by a map.
use Rattle.std.specs.Prelude.{◌≡◌, ℕ, ◌≤◌, List, Option, Some, slice_get}
use Rattle.std.specs.declared.hash.FoldHasher.{FoldHasher}
use Rattle.std.specs.declared.hash.BuildHasherDefault.{BuildHasherDefault}
use Rattle.std.specs.HashMap.{get, HashMap}
use Rattle.gta_product.specs.Numbers.{is_pair, AreNumbers}

-- places of pairs
abbrev pub Places : Type 0
Places = HashMap (ℕ × ℕ) ℕ (BuildHasherDefault FoldHasher)

-- the place that a pair is said to have
abbrev pub place_for : Places → ℕ × ℕ → Option ℕ
place_for places pair = get is_pair places pair

-- each pair has its number, and each behind the first eight is said to have the place that it has
pub record AreIndexed (pairs : List (ℕ × ℕ)) (places : Places) : Type 0 where
  pub numbers : AreNumbers pairs
  pub late : (k : ℕ) (pair : ℕ × ℕ) → 8 ≤ k → slice_get pairs k ≡ Some pair → place_for places pair ≡ Some k
