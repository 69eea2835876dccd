-- What is recorded, one thing after another.
use Rattle.std.proofs.Common.{◌≡◌, false, List, [], ◌++◌, Option, Some, None, is_some, refl, ap}
use Rattle.std.proofs.lemmas.List.{append_assoc, append-nil}
use Rattle.store_trace.specs.declared.event.Event.{Event}
use Rattle.store_trace.specs.Recording.{recorded}

-- nothing more is recorded
pub recorded-none : (kept : Option (List Event)) → recorded kept [] ≡ kept
recorded-none None = refl
recorded-none (Some events) = ap (λ (l : List Event). Some l) (append-nil events)

-- one after the other
pub recorded-then : (kept : Option (List Event)) (first later : List Event) → recorded (recorded kept first) later ≡ recorded kept (first ++ later)
recorded-then None first later = refl
recorded-then (Some events) first later = ap (λ (l : List Event). Some l) (append_assoc events first later)

-- a recorder that is off records nothing, whatever is shown
pub recorded-off : (kept : Option (List Event)) (shown : List Event) → is_some kept ≡ false → kept ≡ recorded kept shown
recorded-off None shown off = refl
recorded-off (Some events) shown off = absurd cc
