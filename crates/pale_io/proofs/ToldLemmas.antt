-- Laws of `specs/Told.antt`.
use Rattle.std.proofs.Common.{◌≡◌, ℕ, List, [], ◌++◌, length, Option, Some, None, refl, ap, append_assoc}
use Rattle.std.proofs.Math.Seq.{drop-append_seam}
use Rattle.std.proofs.lemmas.List.{append-nil}
use Rattle.pale_io.specs.Told.{prepended, appended, without_first}

-- a front before a front is one front
pub prepended-prepended : (front more : List ℕ) (told : Option (List ℕ)) → prepended front (prepended more told) ≡ prepended (front ++ more) told
prepended-prepended front more None = refl
prepended-prepended front more (Some rest) = simp append_assoc

pub prepended-none : (told : Option (List ℕ)) → prepended [] told ≡ told
prepended-none None = refl
prepended-none (Some rest) = refl

-- bytes added twice are added at once
pub appended-appended : (told : Option (List ℕ)) (more most : List ℕ) → appended (appended told more) most ≡ appended told (more ++ most)
appended-appended None more most = refl
appended-appended (Some front) more most = simp append_assoc

pub appended-none : (told : Option (List ℕ)) → appended told [] ≡ told
appended-none None = refl
appended-none (Some front) = ap Some (append-nil front)

pub without_first-prepended : (front : List ℕ) (told : Option (List ℕ)) → without_first (length front) (prepended front told) ≡ told
without_first-prepended front None = refl
without_first-prepended front (Some rest) = ap Some (drop-append_seam front rest)
