-- Classes of the reached states of a space.
use Rattle.std.specs.Prelude.{◌≡◌, ℕ, ◌<◌, ◌≤◌, ◌^◌, Bool, true, List, length, slice_index}
use Rattle.gta_classes.specs.Chosen.{is_marked}

-- each reached state has a class below so many as there are representatives, and each class that of its representative
pub record AreClasses (reached : List Bool) (classes representatives : List ℕ) : Type 0 where
  pub many : length classes ≡ length reached
  pub few : length representatives ≤ 2 ^ 31
  pub within : (q : ℕ) → q < length classes → slice_index classes q < length representatives
  pub inside : (x : ℕ) → x < length representatives → is_marked reached (slice_index representatives x) ≡ true
  pub has : (x : ℕ) → x < length representatives → slice_index classes (slice_index representatives x) ≡ x

-- states of one class had one class and one id, and states that differ in their classes differed in one of the two
pub record IsSplit (reached : List Bool) (ids old new : List ℕ) : Type 0 where
  pub together : (p q : ℕ) → is_marked reached p ≡ true → is_marked reached q ≡ true →
      slice_index new p ≡ slice_index new q → (slice_index old p ≡ slice_index old q) × (slice_index ids p ≡ slice_index ids q)
  pub same : (p q : ℕ) → is_marked reached p ≡ true → is_marked reached q ≡ true →
      slice_index old p ≡ slice_index old q → slice_index ids p ≡ slice_index ids q → slice_index new p ≡ slice_index new q
