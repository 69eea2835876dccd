-- How a class is split.
use Rattle.std.specs.Prelude.{◌≡◌, ◌≢◌, ℕ, ◌<◌, ◌^◌, Bool, nat_eq, ◌&&◌, List, [], ◌∷◌, ◌++◌, length, Option, Some, None, slice_index}
use Rattle.std.specs.declared.hash.FoldHasher.{FoldHasher}
use Rattle.std.specs.declared.hash.BuildHasherDefault.{BuildHasherDefault}
use Rattle.std.specs.HashMap.{get, HashMap, Updates}

-- the new classes, by the class that a state had and its number
abbrev pub Made : Type 0
Made = HashMap (ℕ × ℕ) ℕ (BuildHasherDefault FoldHasher)

abbrev pub same_pair : ℕ × ℕ → ℕ × ℕ → Bool
same_pair a b = nat_eq a.0 b.0 && nat_eq a.1 b.1

-- the new class
abbrev pub made_for : Made → ℕ → ℕ → Option ℕ
made_for made class id = get same_pair made (class, id)

-- the state stays in its class, or has a class that was made, or one is made for it
pub data IsStep (ids : List ℕ) (state class : ℕ) (made : Made) (representatives : List ℕ) : Made → List ℕ → ℕ → Type 0 where
  stays : slice_index ids state ≡ slice_index ids (slice_index representatives class) →
      IsStep ids state class made representatives made representatives class
  known : (other : ℕ) → slice_index ids state ≢ slice_index ids (slice_index representatives class) →
      made_for made class (slice_index ids state) ≡ Some other →
      IsStep ids state class made representatives made representatives other
  makes : (after : Made) (other : ℕ) → slice_index ids state ≢ slice_index ids (slice_index representatives class) →
      made_for made class (slice_index ids state) ≡ None → other ≡ length representatives → other < 2 ^ 31 →
      Updates same_pair made after (class, slice_index ids state) (Some other) →
      IsStep ids state class made representatives after (representatives ++ state ∷ []) other
