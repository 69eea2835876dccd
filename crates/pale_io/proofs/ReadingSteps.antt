-- The loop of a whole read: what was read so far, into pieces of one size.
use Rattle.std.proofs.Common.{◌≡◌, ℕ, ◌≤◌, List, ◌++◌, length, Option, ap, ◌∙◌}
use Rattle.pale_io.specs.Told.{prepended}
use Rattle.pale_io.proofs.ToldLemmas.{prepended-prepended}

-- the bytes read so far, at most so many, were taken off the front of what was left first
pub record ReadsSoFar (most : ℕ) (first now : Option (List ℕ)) (first_faults faults : ℕ) (bytes piece : List ℕ) : Type 0 where
  pub within : length bytes ≤ most
  pub taken : first ≡ prepended bytes now
  pub kept : first_faults ≤ faults
  pub size : length piece ≡ 4096

-- what was read so far and the next piece were taken off the front
pub ReadsSoFar-taken : {most : ℕ} {first now : Option (List ℕ)} {first_faults faults : ℕ} {bytes piece : List ℕ} (after : Option (List ℕ))
    (moved : List ℕ) → ReadsSoFar most first now first_faults faults bytes piece → now ≡ prepended moved after → first ≡ prepended (bytes ++ moved) after
ReadsSoFar-taken {bytes = bytes} after moved so_far next =
    so_far.taken ∙ ap (λ told. prepended bytes told) next ∙ prepended-prepended bytes moved after
