-- What a step takes of the references: their sides under a track, and the track that is asked first.
use Rattle.std.specs.Prelude.{◌≡◌, ◌+◌, ◌≤◌, ◌^◌, ◌/◌, ℕ, Bool, true, false}
use Rattle.std.specs.Prelude.{List, [], ◌∷◌, ◌++◌, take, drop, length, min, Contains, Option, Some, None, nat_eq, if◌then◌else◌, ◌⊎◌}
use Rattle.std.specs.List.{AllByRecursion, sum_by}
use Rattle.bdd_nodes.specs.declared.node_ref.NodeRef.{NodeRef}
use Rattle.labels.specs.Labels.{Label, with_track}
use Rattle.bdd_nodes.specs.Shelf.{Contents, AsksFrom, top_of, low_of, high_of, rank_of}
use Rattle.bdd_walk.specs.declared.one_root.FixedTrack.{FixedTrack}
use Rattle.bdd_walk.specs.Asked.{leaves_of}
use Rattle.bdd_walk.specs.Stands.{Asking}

-- whether the first track is this one
abbrev pub is_first : Option ℕ → ℕ → Bool
is_first None track = false
is_first (Some first) track = nat_eq first track

-- the side of the reference where the track is fixed, if it is asked first; else the reference
abbrev pub side_at : Contents → ℕ → Bool → NodeRef → NodeRef
side_at shelf track bit r =
    if is_first (top_of shelf r) track then (if bit then high_of shelf r else low_of shelf r) else r

-- the earlier of two first tracks
abbrev pub earlier_of : Option ℕ → Option ℕ → Option ℕ
earlier_of None other = other
earlier_of (Some first) None = Some first
earlier_of (Some first) (Some second) = Some (min first second)

-- some reference asks the track first
abbrev pub SomeAsks : Contents → ℕ → List NodeRef → Type 0
SomeAsks shelf track [] = ⊥
SomeAsks shelf track (r ∷ rs) = (top_of shelf r ≡ Some track) ⊎ SomeAsks shelf track rs

-- the track is the first that is asked
pub record AskFirst (shelf : Contents) (track : ℕ) (rs : List NodeRef) : Type 0 where
  pub all : AllByRecursion (AsksFrom shelf track) rs
  pub some : SomeAsks shelf track rs

-- all are leaves
pub record AreLeaves (shelf : Contents) (rs : List NodeRef) : Type 0 where
  pub all : AllByRecursion (λ r. top_of shelf r ≡ None) rs

-- the first track that the references ask; none where all are leaves
abbrev pub IsFirstOf : Contents → List NodeRef → Option ℕ → Type 0
IsFirstOf shelf rs None = AreLeaves shelf rs
IsFirstOf shelf rs (Some track) = AskFirst shelf track rs

-- a number that falls where a side is taken
abbrev pub weight_of : List NodeRef → ℕ
weight_of [] = 0
weight_of (r ∷ rs) = rank_of r + weight_of rs

-- half of the length
abbrev pub half_of : List NodeRef → ℕ
half_of rs = length rs / 2

-- of a dropped track the references before the half have it unset, and those behind it set
abbrev pub asked_by : Contents → Option ℕ → ℕ → List NodeRef → Asking
asked_by shelf None half rs label = leaves_of shelf rs label
asked_by shelf (Some t) half rs label =
    leaves_of shelf (take half rs) (with_track label t false) ++ leaves_of shelf (drop half rs) (with_track label t true)

-- both sides of a reference that asks the track first; else the reference
abbrev pub both_at : Contents → ℕ → NodeRef → List NodeRef
both_at shelf track r = if is_first (top_of shelf r) track then low_of shelf r ∷ high_of shelf r ∷ [] else r ∷ []

-- a number that falls where both sides are taken for a reference
abbrev pub set_weight_of : List NodeRef → ℕ
set_weight_of rs = sum_by (λ r. 3 ^ rank_of r) rs

-- the other list has the same references, and isn't heavier
pub record IsSetOf (rs set : List NodeRef) : Type 0 where
  pub has : (r : NodeRef) → Contains rs r → Contains set r
  pub only : (r : NodeRef) → Contains set r → Contains rs r
  pub within : set_weight_of set ≤ set_weight_of rs

-- the track that is fixed
abbrev pub fixed_label : Option FixedTrack → Label → Label
fixed_label None label = label
fixed_label (Some fixed) label = with_track label fixed.track fixed.bit

-- how the track is fixed, if it is
abbrev pub bit_at : Option FixedTrack → ℕ → Option Bool
bit_at None track = None
bit_at (Some fixed) track = if nat_eq fixed.track track then Some fixed.bit else None
