-- What a whole read takes from a source, and what a whole write leaves in a sink, by what they tell before and after.
use Rattle.std.specs.Prelude.{◌≡◌, ℕ, ◌+◌, ◌<◌, ◌≤◌, List, length, take, Option, IfSome}
use Rattle.pale_io.specs.Told.{appended, without_first, emptied}

-- these bytes, at most so many, are all that was left, and nothing is left
pub record ReadsAll (most : ℕ) (before after : Option (List ℕ)) (bytes : List ℕ) : Type 0 where
  pub within : length bytes ≤ most
  pub whole : IfSome before (λ left. bytes ≡ left)
  pub rest : after ≡ emptied before

-- more than so many bytes were left, and one more than that was taken
pub record ReadsTooMany (most : ℕ) (before after : Option (List ℕ)) : Type 0 where
  pub more : IfSome before (λ left. most < length left)
  pub rest : after ≡ without_first (most + 1) before

-- a front was taken, of at most one byte more than so many
pub record ReadsFront (most : ℕ) (before after : Option (List ℕ)) : Type 0 where
  pub count : ℕ
  pub within : count ≤ most + 1
  pub rest : after ≡ without_first count before

-- all of these bytes were added behind those that were there
pub record WritesAll (before after : Option (List ℕ)) (bytes : List ℕ) : Type 0 where
  pub added : after ≡ appended before bytes

-- a front of these bytes, short of all of them, was added behind those that were there
pub record WritesFront (before after : Option (List ℕ)) (bytes : List ℕ) : Type 0 where
  pub count : ℕ
  pub within : count < length bytes
  pub added : after ≡ appended before (take count bytes)
