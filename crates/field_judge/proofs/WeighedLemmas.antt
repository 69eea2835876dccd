-- The tracks of all variants, each once.
use Rattle.std.proofs.Common.{◌≡◌, ◌≢◌, ◌⊎◌, inl, inr, ◌↔◌, ◌<◌, ◌≤◌, ℕ, Bool, true, false, ◌||◌, cond, nat_lt, List, [], ◌∷◌, ◌++◌, length, Option, Some, None}
use Rattle.std.proofs.Common.{AllPairs, Contains}
use Rattle.std.proofs.Common.{refl, sym, ap, ◌∙◌, subst, arith, eq-eqb, nat_eq}
use Rattle.std.specs.Option.{option_map_or}
use Rattle.std.proofs.lemmas.Bool.{false≢true, ltb-true}
use Rattle.std.proofs.lemmas.Bool.Decides.{nat_tests}
use Rattle.std.proofs.lemmas.Option.{slice_get_within, same_Some}
use Rattle.std.proofs.lemmas.List.Folds.{list_any_at}
use Rattle.std.proofs.lemmas.List.Kept.{AllPairs-cons}
use Rattle.gta_theory.proofs.ListsLemmas.{All-from_contains}
use Rattle.gta_witness.specs.Lightest.{is_among, each_once}
use Rattle.ws2s_core.specs.declared.track.Track.{Track}
use Rattle.store_core.specs.declared.ids.TypeId.{TypeId}
use Rattle.store_core.specs.declared.ids.VariantId.{VariantId}
use Rattle.store_core.specs.Tables.{TypeEntry, type_at, count_of_variants, variant_count}
use Rattle.routing_walks.specs.Gathering.{Gathers, HasAll, Before}
use Rattle.routing_walks.proofs.GatheringLemmas.{Contains-none, Contains-here, Contains-there, Contains-cases, Gathers-none, Gathers-push, Gathers-alike}
use Rattle.tree_encode.specs.Tracks.{track_at, variant_track}
use Rattle.tree_encode.proofs.TracksLemmas.{cond-some}
use Rattle.tree_store.specs.Weighing.{AreVariantTracks}
use Rattle.field_judge.specs.Weighed.{IsTrackOf, IsVariantTrack}

-- ---- each track once

among-there : (tracks : List Track) (x : Track) → Contains tracks x → is_among tracks x.0 ≡ true
among-there tracks x h = list_any_at (λ track. nat_eq track.0 x.0) tracks h.0 x h.1 (eq-eqb _ x.0 (ap (λ (y : Track). y.0) h.2))

same-number : (x y : ℕ) → nat_eq x y ≡ true → x ≡ y
same-number x y e = grind (arith, nat_tests)

track-eta : (u : Track) (t : ℕ) → u.0 ≡ t → u ≡ track_at t
track-eta u t e = λ i. record { 0 = e i }

there-among : (tracks : List Track) (t : ℕ) → is_among tracks t ≡ true → Contains tracks (track_at t)
there-among [] t e = absurd (false≢true e)
there-among (u ∷ tracks) t e = by (nat_eq u.0 t) refl (there-among tracks t) e
  where
    by : (b : Bool) → nat_eq u.0 t ≡ b → (is_among tracks t ≡ true → Contains tracks (track_at t)) → (b || is_among tracks t) ≡ true →
        Contains (u ∷ tracks) (track_at t)
    by true is rest h = subst (λ x. Contains (u ∷ tracks) x) (track-eta u t (same-number u.0 t is)) (Contains-here u tracks)
    by false is rest h = Contains-there u tracks (track_at t) (rest h)

once-there : (tracks : List Track) (t : ℕ) → Contains (each_once tracks) t → Contains tracks (track_at t)
once-there [] t h = absurd (Contains-none t h)
once-there (u ∷ tracks) t h = by (is_among tracks u.0) (once-there tracks t) h
  where
    by : (b : Bool) → (Contains (each_once tracks) t → Contains tracks (track_at t)) → Contains (cond b (each_once tracks) (u.0 ∷ each_once tracks)) t →
        Contains (u ∷ tracks) (track_at t)
    by true rest h = Contains-there u tracks (track_at t) (rest h)
    by false rest h = elim (Contains-cases u.0 (each_once tracks) t h) [
      | inl same ↦ subst (λ x. Contains (u ∷ tracks) x) (track-eta u t (sym same)) (Contains-here u tracks)
      | inr later ↦ Contains-there u tracks (track_at t) (rest later)
    ]

there-once : (tracks : List Track) (x : Track) → Contains tracks x → Contains (each_once tracks) x.0
there-once [] x h = absurd (Contains-none x h)
there-once (u ∷ tracks) x h = by (is_among tracks u.0) refl (there-once tracks) (Contains-cases u tracks x h)
  where
    by : (b : Bool) → is_among tracks u.0 ≡ b → ((y : Track) → Contains tracks y → Contains (each_once tracks) y.0) → (x ≡ u) ⊎ Contains tracks x →
        Contains (cond b (each_once tracks) (u.0 ∷ each_once tracks)) x.0
    by true is rest h = elim h [
      | inl same ↦ rest x (subst (λ y. Contains tracks y) (sym same) (there-among tracks u.0 is))
      | inr later ↦ rest x later
    ]
    by false is rest h = elim h [
      | inl same ↦ subst (λ (n : ℕ). Contains (u.0 ∷ each_once tracks) n) (ap (λ (y : Track). y.0) (sym same)) (Contains-here u.0 (each_once tracks))
      | inr later ↦ Contains-there u.0 (each_once tracks) x.0 (rest x later)
    ]

abbrev AreApart : List ℕ → Type 0
AreApart = AllPairs (λ t u. t ≢ u)

once-apart : (tracks : List Track) → AreApart (each_once tracks)
once-apart [] = λ i j d less inside. absurd (omega (arith, inside))
once-apart (u ∷ tracks) = by (is_among tracks u.0) refl (once-apart tracks)
  where
    by : (b : Bool) → is_among tracks u.0 ≡ b → AreApart (each_once tracks) → AreApart (cond b (each_once tracks) (u.0 ∷ each_once tracks))
    by true is rest = rest
    by false is rest = AllPairs-cons (λ t v. t ≢ v) u.0 (each_once tracks)
        (All-from_contains (λ t. u.0 ≢ t) (each_once tracks) (λ t listed same.
        false≢true (sym is ∙ ap (is_among tracks) same ∙ among-there tracks (track_at t) (once-there tracks t listed)))) rest

-- the listed tracks are those of the variants
pub are-variant_tracks : (types : List TypeEntry) (tracks : List Track) → HasAll tracks (IsVariantTrack types) → AreVariantTracks types (each_once tracks)
are-variant_tracks types tracks all = record {
  once = once-apart tracks;
  exactly = λ t. (
    λ listed. (all (track_at t)).0 (once-there tracks t listed),
    λ of. there-once tracks (track_at t) ((all (track_at t)).1 of),
  );
}

-- ---- how they are gathered

pub pushed-none : (tracks : List Track) (o : Option Track) → o ≡ None → Gathers tracks tracks (λ t. o ≡ Some t)
pushed-none tracks o none = Gathers-none tracks (λ t. o ≡ Some t) (λ t some. no-track t (sym none ∙ some))
  where
    no-track : (t : Track) → None ≡ Some t → ⊥
    no-track t e = cc

pub pushed-some : (tracks new : List Track) (o : Option Track) (t : Track) → o ≡ Some t → new ≡ tracks ++ t ∷ [] → Gathers tracks new (λ x. o ≡ Some x)
pushed-some tracks new o t some is =
    subst (λ l. Gathers tracks l (λ x. o ≡ Some x)) (sym is)
    (Gathers-alike tracks (tracks ++ t ∷ []) (λ x. x ≡ t) (λ x. o ≡ Some x) (Gathers-push tracks t)
    (λ x. (λ same. some ∙ ap (λ y. Some y) (sym same), λ e. same_Some x t (sym e ∙ some))))

-- the track is that of the type's variant with this index
abbrev pub TrackAt : List TypeEntry → TypeId → ℕ → Track → Type 0
TrackAt types ty index t = variant_track types (record { ty = ty; index = index }) ≡ Some t

known-index : (types : List TypeEntry) (v : VariantId) (t : Track) → variant_track types v ≡ Some t → v.index < variant_count types v.ty
known-index types v t is = ltb-true v.index (variant_count types v.ty) (cond-some (nat_lt v.index (variant_count types v.ty)) _ t is).0

pub tracks-of_type : (types : List TypeEntry) (ty : TypeId) (n : ℕ) → variant_count types ty ≤ n → (t : Track) →
    Before (TrackAt types ty) n t ↔ IsTrackOf types ty t
tracks-of_type types ty n enough t = (
  λ h. (h.place, h.at),
  λ h. let inside = known-index types (record { ty = ty; index = h.0 }) t h.1 in record { place = h.0; before = omega arith; at = h.1 },
)

-- the track is that of a variant of the type with this number
abbrev pub TrackIn : List TypeEntry → ℕ → Track → Type 0
TrackIn types n t = IsTrackOf types (record { 0 = n }) t

known-type : (types : List TypeEntry) (v : VariantId) → v.index < variant_count types v.ty → v.ty.0 < length types
known-type types v inside = by (type_at types v.ty) refl inside
  where
    by : (o : Option TypeEntry) → type_at types v.ty ≡ o → v.index < option_map_or count_of_variants o 0 → v.ty.0 < length types
    by None at inside = absurd (omega arith)
    by (Some t) at inside = slice_get_within types v.ty.0 t at

pub tracks-of_all : (types : List TypeEntry) (n : ℕ) → length types ≤ n → (t : Track) → Before (TrackIn types) n t ↔ IsVariantTrack types t
tracks-of_all types n enough t = (
  λ h. (record { ty = record { 0 = h.place }; index = h.at.0 }, h.at.1),
  λ h.
      let v = h.0 in
      let inside = known-type types v (known-index types v t h.1) in
      record { place = v.ty.0; before = omega arith; at = (v.index, h.1) },
)
