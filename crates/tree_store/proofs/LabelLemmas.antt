-- The tracks that a cell is on.
use Rattle.std.proofs.Common.{◌≡◌, ◌↔◌, ◌⊎◌, ℕ, ◌+◌, ◌<◌, Bool, true, IsTrue, inl, inr, List, length, slice_get, option_map, Option, Some, None, IsSomeAnd}
use Rattle.std.proofs.Common.{Contains, refl, sym, ap, ◌∙◌, subst}
use Rattle.std.proofs.lemmas.Bool.{ltb-true}
use Rattle.std.proofs.lemmas.Option.{slice_get-get_or, slice_get_within, get_or_from_slice_get}
use Rattle.ws2s_core.specs.declared.track.Track.{Track}
use Rattle.store_core.specs.declared.ids.VariantId.{VariantId}
use Rattle.store_core.specs.declared.ids.FieldId.{FieldId}
use Rattle.store_core.specs.declared.ids.VarId.{VarId}
use Rattle.store_core.specs.declared.ids.CellId.{CellId}
use Rattle.store_core.specs.declared.value.Value.TheVariants as value
use Rattle.store_core.specs.Tables.{TypeEntry, VarEntry, fields_of}
use Rattle.store_core.specs.Stores.{StoreMap, CellEntry, cell_of, field_value}
use Rattle.store_core.proofs.FittingLemmas.{IsSomeAnd-at}
use Rattle.routing_walks.specs.Walks.{IsOfVariant}
use Rattle.tree_encode.specs.Counting.{variants_in, bools_in}
use Rattle.tree_encode.specs.Tracks.{of_variant, of_bool, of_var, track_at, variant_track, bool_track, var_track}
use Rattle.tree_encode.proofs.TracksLemmas.{cond-some, and_then-some}
use Rattle.tree_encode.proofs.PositionsLemmas.{own_type}
use Rattle.tree_store.specs.declared.rows.Row.{Row}
use Rattle.tree_store.specs.declared.rows.Rows.{Rows}
use Rattle.tree_store.specs.Rows.{IsRow, IsRows, var_number}
use Rattle.tree_store.specs.Spots.{row_of, IsOnAt, HasTrack, BoolIsOn, Adds}
use Rattle.tree_store.proofs.AddsLemmas.{Adds-both, Adds-same}
use Rattle.tree_store.proofs.SpotsLemmas.{row-is}

-- ---- the variant

pub variant-there : (s : StoreMap) (c : CellId) (v : VariantId) → option_map (λ (cell : CellEntry). cell.variant) (cell_of s c) ≡ Some v → IsOfVariant s v c
variant-there s c v is = go (cell_of s c) is
  where
    go : (o : Option CellEntry) → option_map (λ (cell : CellEntry). cell.variant) o ≡ Some v → IsSomeAnd o (λ cell. cell.variant ≡ v)
    go None e = cc
    go (Some cell) e = cc

pub variant-one : (s : StoreMap) (c : CellId) (v x : VariantId) → option_map (λ (cell : CellEntry). cell.variant) (cell_of s c) ≡ Some v →
    IsOfVariant s x c → v ≡ x
variant-one s c v x is of_x =
    let (cell, at, same) = IsSomeAnd-at (cell_of s c) (λ cell. cell.variant ≡ x) of_x in
    one cell.variant v (sym (ap (λ o. option_map (λ (e : CellEntry). e.variant) o) at) ∙ is) same
  where
    one : (u v : VariantId) → Some u ≡ Some v → u ≡ x → v ≡ x
    one u v e h = cc

pub variant-meant : (types : List TypeEntry) (s : StoreMap) (c : CellId) (v : VariantId) (o : Option Track) (t : Track) →
    option_map (λ (cell : CellEntry). cell.variant) (cell_of s c) ≡ Some v → o ≡ variant_track types v →
    ((x : VariantId) × (variant_track types x ≡ Some t) × IsOfVariant s x c) ↔ (IsTrue true × (o ≡ Some t))
variant-meant types s c v o t is track = (
  λ (x, at, of_x). (refl, track ∙ ap (λ y. variant_track types y) (variant-one s c v x is of_x) ∙ at),
  λ both. (v, sym track ∙ both.1, variant-there s c v is),
)

-- ---- bool fields

bool-inside : (types : List TypeEntry) (f : FieldId) (t : Track) → bool_track types f ≡ Some t → f.index < length (fields_of types f.ty)
bool-inside types f t is =
    let (entry, has, then) = and_then-some _ (slice_get (fields_of types f.ty) f.index) t is in
    slice_get_within (fields_of types f.ty) f.index entry has

pub bools-meant : (types : List TypeEntry) (vars : List VarEntry) (s : StoreMap) (rows : Rows) (is : IsRows types vars rows) (c : CellId) (row : Row)
    (t : Track) →
    row_of rows s c ≡ Some row →
    ((f : FieldId) × (bool_track types f ≡ Some t) × (field_value s c f ≡ Some (value.Bool true)))
    ↔ ((k : ℕ) × (k < length row.bools) × BoolIsOn s c (slice_get row.bools k) t)
bools-meant types vars s rows is c row t is_row = (there, back)
  where
    right : (cell : CellEntry) × (cell_of s c ≡ Some cell) × IsRow types cell.variant.ty row
    right = row-is types vars s rows is c row is_row

    some-one : (x y : CellEntry) → Some x ≡ Some y → x ≡ y
    some-one x y e = cc

    there : ((f : FieldId) × (bool_track types f ≡ Some t) × (field_value s c f ≡ Some (value.Bool true))) →
        (k : ℕ) × (k < length row.bools) × BoolIsOn s c (slice_get row.bools k) t
    there (f, track, on) =
        let (cell, at, typed) = own_type s c f (value.Bool true) on in
        let same : right.0 ≡ cell = some-one right.0 cell (sym right.1 ∙ at) in
        let of_f : IsRow types f.ty row = subst (λ ty. IsRow types ty row) (ap (λ (e : CellEntry). e.variant.ty) same ∙ typed) right.2 in
        let (k, inside, found) = of_f.bools.all f.index t (bool-inside types f t track) track in
        (k, inside, ((f, t), slice_get-get_or row.bools k (f, t) inside ∙ ap (λ p. Some p) found, on, refl))

    back : ((k : ℕ) × (k < length row.bools) × BoolIsOn s c (slice_get row.bools k) t) →
        (f : FieldId) × (bool_track types f ≡ Some t) × (field_value s c f ≡ Some (value.Bool true))
    back (k, inside, (pair, at, on, same)) =
        let listed : Contains row.bools pair = (k, inside, get_or_from_slice_get row.bools k pair pair at) in
        (pair.0, (right.2.bools.each pair.0 pair.1 listed).1 ∙ ap (λ u. Some u) same, on)

-- ---- variables

pub vars-meant : (types : List TypeEntry) (vars : List VarEntry) (s : StoreMap) (at : Option CellId) (t : Track) →
    ((v : VarId) × (var_track types vars v ≡ Some t) × IsOnAt s (of_var v) at)
    ↔ ((k : ℕ) × (k < length vars) × ((var_track types vars (var_number k) ≡ Some t) × IsOnAt s (of_var (var_number k)) at))
vars-meant types vars s at t = (
  λ (v, track, on). (v.0, inside v track, (track, on)),
  λ (k, below, both). (var_number k, both.0, both.1),
)
  where
    inside : (v : VarId) → var_track types vars v ≡ Some t → v.0 < length vars
    inside v is = ltb-true v.0 (length vars) (cond-some _ (track_at (variants_in types + (bools_in types + v.0))) t is).0

-- ---- all together

pub cell-meant : (types : List TypeEntry) (vars : List VarEntry) (s : StoreMap) (c : CellId) (t : Track) →
    HasTrack types vars s (Some c) t
    ↔ ((((x : VariantId) × (variant_track types x ≡ Some t) × IsOfVariant s x c)
    ⊎ ((f : FieldId) × (bool_track types f ≡ Some t) × (field_value s c f ≡ Some (value.Bool true))))
    ⊎ ((v : VarId) × (var_track types vars v ≡ Some t) × IsOnAt s (of_var v) (Some c)))
cell-meant types vars s c t = (there, back)
  where
    there : HasTrack types vars s (Some c) t →
        ((((x : VariantId) × (variant_track types x ≡ Some t) × IsOfVariant s x c)
        ⊎ ((f : FieldId) × (bool_track types f ≡ Some t) × (field_value s c f ≡ Some (value.Bool true))))
        ⊎ ((v : VarId) × (var_track types vars v ≡ Some t) × IsOnAt s (of_var v) (Some c)))
    there (of_variant x, track, on) = inl (inl (x, track, on))
    there (of_bool f, track, on) = inl (inr (f, track, on))
    there (of_var v, track, on) = inr (v, track, on)

    back : ((((x : VariantId) × (variant_track types x ≡ Some t) × IsOfVariant s x c)
        ⊎ ((f : FieldId) × (bool_track types f ≡ Some t) × (field_value s c f ≡ Some (value.Bool true))))
        ⊎ ((v : VarId) × (var_track types vars v ≡ Some t) × IsOnAt s (of_var v) (Some c))) → HasTrack types vars s (Some c) t
    back (inl (inl (x, track, on))) = (of_variant x, track, on)
    back (inl (inr (f, track, on))) = (of_bool f, track, on)
    back (inr (v, track, on)) = (of_var v, track, on)

pub root-meant : (types : List TypeEntry) (vars : List VarEntry) (s : StoreMap) (t : Track) →
    HasTrack types vars s None t ↔ ((v : VarId) × (var_track types vars v ≡ Some t) × IsOnAt s (of_var v) None)
root-meant types vars s t = (there, λ (v, track, on). (of_var v, track, on))
  where
    there : HasTrack types vars s None t → (v : VarId) × (var_track types vars v ≡ Some t) × IsOnAt s (of_var v) None
    there (of_variant x, track, on) = absurd on
    there (of_bool f, track, on) = absurd on
    there (of_var v, track, on) = (v, track, on)

pub bool-meant : (s : StoreMap) (c : CellId) (field : Option (FieldId × Track)) (pair : FieldId × Track) (on : Bool) (t : Track) → field ≡ Some pair →
    IsTrue on ↔ (field_value s c pair.0 ≡ Some (value.Bool true)) → BoolIsOn s c field t ↔ (IsTrue on × (Some pair.1 ≡ Some t))
bool-meant s c field pair on t is meant = (
  λ (other, same, holds, track). let e : pair ≡ other = one pair other (sym is ∙ same) in (
    meant.1 (subst (λ (p : FieldId × Track). field_value s c p.0 ≡ Some (value.Bool true)) (sym e) holds),
    ap (λ u. Some u) (ap (λ (p : FieldId ×
        Track). p.1) e ∙ track),
  ),
  λ both. (pair, is, meant.0 both.0, track-one pair.1 t both.1),
)
  where
    one : (p q : FieldId × Track) → Some p ≡ Some q → p ≡ q
    one p q e = cc

    track-one : (a b : Track) → Some a ≡ Some b → a ≡ b
    track-one a b e = cc

-- ---- the tracks of a cell and of the root, one after the other

pub cell-tracks : (types : List TypeEntry) (vars : List VarEntry) (s : StoreMap) (c : CellId) (old one two new : List Track) →
    Adds (λ t. (x : VariantId) × (variant_track types x ≡ Some t) × IsOfVariant s x c) old one →
    Adds (λ t. (f : FieldId) × (bool_track types f ≡ Some t) × (field_value s c f ≡ Some (value.Bool true))) one two →
    Adds (λ t. (v : VarId) × (var_track types vars v ≡ Some t) × IsOnAt s (of_var v) (Some c)) two new → Adds (HasTrack types vars s (Some c)) old new
cell-tracks types vars s c old one two new variants bools names =
    let V : Track → Type 0 = λ t. (x : VariantId) × (variant_track types x ≡ Some t) × IsOfVariant s x c in
    let B : Track → Type 0 = λ t. (f : FieldId) × (bool_track types f ≡ Some t) × (field_value s c f ≡ Some (value.Bool true)) in
    let W : Track → Type 0 = λ t. (v : VarId) × (var_track types vars v ≡ Some t) × IsOnAt s (of_var v) (Some c) in
    Adds-both (λ t. V t ⊎ B t) W (HasTrack types vars s (Some c)) old two new
    (Adds-both V B (λ t. V t ⊎ B t) old one two variants bools (λ t. (λ x. x, λ x. x)))
    names (cell-meant types vars s c)

pub root-tracks : (types : List TypeEntry) (vars : List VarEntry) (s : StoreMap) (old new : List Track) →
    Adds (λ t. (v : VarId) × (var_track types vars v ≡ Some t) × IsOnAt s (of_var v) None) old new → Adds (HasTrack types vars s None) old new
root-tracks types vars s old new names =
    Adds-same (λ t. (v : VarId) × (var_track types vars v ≡ Some t) × IsOnAt s (of_var v) None) (HasTrack types vars s None) old new names
    (root-meant types vars s)
