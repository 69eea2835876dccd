-- Quantifiers that wait, found by their tracks.
use Rattle.std.specs.Prelude.{◌≡◌, ℕ, Bool, true, false, not, ◌&&◌, ◌≤◌, min, if◌then◌else◌, List, [], ◌∷◌, Option, Some, None, Contains, nat_eq}
use Rattle.std.specs.List.{list_any, AllByRecursion}
use Rattle.std.specs.Ordering.{nat_cmp}
use Rattle.std.specs.Map.{lookup, remove_entry}
use Rattle.std.specs.BTreeMap.{insert_entry, is_at}
use Rattle.std.specs.HashMap.{get, Updates}
use Rattle.ws2s_narrow.specs.Waiting.{Ascends}
use Rattle.ws2s_narrow.specs.declared.pending.Waiting.{Waiting}
use Rattle.ws2s_narrow.specs.declared.pending.Pending.{Pending}
use Rattle.ws2s_narrow.specs.declared.sharing.Sharing.{Sharing}

abbrev pub has : ℕ → List ℕ → Bool
has t tracks = list_any (nat_eq t) tracks

-- which tracks are free on both sides, and which on the one side alone
pub record Tells (shares : Sharing) (left right : ℕ → Bool) : Type 0 where
  pub both : (t : ℕ) → has t shares.both.items ≡ left t && right t
  pub alone : (t : ℕ) → has t shares.alone.items ≡ (if shares.is_left then left t && not (right t) else right t && not (left t))

-- a quantifier is found: one whose track is free by the track, another among the idle ones
pub record IsPlacedIn (places : ℕ → Option ℕ) (idle : List ℕ) (next : ℕ × Waiting) : Type 0 where
  pub by_track : next.1.used ≡ true → places next.1.track.0 ≡ Some next.0
  pub by_number : next.1.used ≡ false → Contains idle next.0

abbrev pub IsPlaced : Pending → Type 0
IsPlaced pending = AllByRecursion (IsPlacedIn (get nat_eq pending.places) pending.idle.items) pending.waiting.entries

-- the numbers grow, and each quantifier is found
pub record IsSound (pending : Pending) : Type 0 where
  pub ascends : Ascends pending.waiting.entries
  pub placed : IsPlaced pending

-- the number is that of a quantifier of the track, which is free where its turn comes
abbrev pub Quantifies : ℕ → (ℕ × Waiting) → Type 0
Quantifies t next = (next.1.used ≡ true) × (next.1.track.0 ≡ t)

-- the quantifier goes into the side that has fewer atoms
abbrev pub Goes : Sharing → (ℕ × Waiting) → Type 0
Goes shares next = (if next.1.used then has next.1.track.0 shares.alone.items else not shares.is_left) ≡ true

-- the quantifier goes into the other side
abbrev pub Stays : Sharing → (ℕ × Waiting) → Type 0
Stays shares next = (if next.1.used then has next.1.track.0 shares.alone.items else not shares.is_left) ≡ false

-- the quantifier's track is free where its turn comes, and among these
abbrev pub IsAmong : List ℕ → (ℕ × Waiting) → Type 0
IsAmong tracks next = (next.1.used ≡ true) × (has next.1.track.0 tracks ≡ true)

-- the quantifier's track isn't free where its turn comes
abbrev pub IsIdle : (ℕ × Waiting) → Type 0
IsIdle next = next.1.used ≡ false

-- the least number of those whose tracks are among these
abbrev pub IsLeastAmong : List ℕ → List (ℕ × Waiting) → Option ℕ → Type 0
IsLeastAmong tracks waiting None = AllByRecursion (λ next. IsAmong tracks next → ⊥) waiting
IsLeastAmong tracks waiting (Some number) =
    ((next : Waiting) × (lookup (is_at (nat_cmp number)) waiting ≡ Some next) × IsAmong tracks (number, next))
    × AllByRecursion (λ next. IsAmong tracks next → number ≤ next.0) waiting

abbrev pub lesser_of : Option ℕ → Option ℕ → Option ℕ
lesser_of None place = place
lesser_of (Some least) None = Some least
lesser_of (Some least) (Some number) = Some (min least number)

-- none waits, or the first is one whose track is among these
abbrev pub BeginsAmong : List ℕ → List (ℕ × Waiting) → Type 0
BeginsAmong tracks [] = Unit {0}
BeginsAmong tracks (next ∷ waiting) = IsAmong tracks next

-- at most one quantifier went over: that of the track
pub data HandsOver (track : ℕ) (old new : Pending) (gone after : Pending) : Type 0 where
  stays : new ≡ old → after ≡ gone
      → (AllByRecursion (IsPlacedIn (get nat_eq old.places) old.idle.items) old.waiting.entries
      → AllByRecursion (λ next. Quantifies track next → ⊥) old.waiting.entries)
      → HandsOver track old new gone after
  goes : (number : ℕ) (next : Waiting) → lookup (is_at (nat_cmp number)) old.waiting.entries ≡ Some next → Quantifies track (number, next)
      → new.waiting.entries ≡ remove_entry (is_at (nat_cmp number)) old.waiting.entries
      → after.waiting.entries ≡ insert_entry nat_cmp gone.waiting.entries number next
      → new.places ≡ old.places → new.idle ≡ old.idle → Updates nat_eq gone.places after.places track (Some number)
      → (AllByRecursion (IsPlacedIn (get nat_eq old.places) old.idle.items) old.waiting.entries
      → AllByRecursion (λ next. Quantifies track next → number ≡ next.0) old.waiting.entries)
      → HandsOver track old new gone after

-- at most one quantifier went over: that of the number, where it is idle
pub data HandsIdle (number : ℕ) (old new : List (ℕ × Waiting)) (gone after : List (ℕ × Waiting)) : Type 0 where
  stays_idle : new ≡ old → after ≡ gone → ((next : Waiting) → lookup (is_at (nat_cmp number)) old ≡ Some next → next.used ≡ true)
      → HandsIdle number old new gone after
  goes_idle : (next : Waiting) → lookup (is_at (nat_cmp number)) old ≡ Some next → next.used ≡ false
      → new ≡ remove_entry (is_at (nat_cmp number)) old → after ≡ insert_entry nat_cmp gone number next
      → HandsIdle number old new gone after

-- whether an idle quantifier is there
abbrev pub idle_at : Option Waiting → Bool
idle_at None = false
idle_at (Some next) = not next.used
