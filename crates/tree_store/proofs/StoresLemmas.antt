-- The store of a backbone on the tracks of its assignment.
use Rattle.std.proofs.Common.{◌≡◌, ℕ, zero, suc, ◌<◌, ◌⊎◌, inl, inr, true, List, [], ◌∷◌, ◌++◌, slice_get, unwrap_or, IsTrue, Option, Some, None, refl, sym, ap}
use Rattle.std.proofs.Common.{◌∙◌, subst}
use Rattle.std.specs.Option.{option_and_then}
use Rattle.gta_theory.specs.Assignments.{Position, Assignment}
use Rattle.ws2s_forms.specs.Places.{child_of}
use Rattle.store_core.specs.declared.ids.TypeId.{TypeId}
use Rattle.store_core.specs.declared.ids.VariantId.{VariantId}
use Rattle.store_core.specs.declared.ids.FieldId.{FieldId}
use Rattle.store_core.specs.declared.ids.CellId.{CellId}
use Rattle.store_core.specs.declared.value.Value.{Value}
use Rattle.store_core.specs.Tables.{TypeEntry, FieldEntry, VarEntry, fields_of, is_had, variant_count}
use Rattle.store_core.specs.Stores.{StoreMap, CellEntry, IsLive, cell_of, field_of, field_value, SlotsFit, CellFits, Fits}
use Rattle.store_core.proofs.FittingLemmas.{IfSome-at, IsSomeAnd-at, same_type}
use Rattle.routing_walks.specs.Walks.{DataAlone, Leads, IsOfType, IsOfVariant}
use Rattle.routing_walks.proofs.LiveLemmas.{Leads-live}
use Rattle.routing_walks.specs.Paths.{LeadsAlong}
use Rattle.tree_encode.specs.Tracks.{of_variant, track_at, variant_track}
use Rattle.tree_encode.specs.Positions.{below, IsPlaced}
use Rattle.tree_encode.specs.Tracks.{child_number}
use Rattle.tree_encode.proofs.TracksLemmas.{and_then-some}
use Rattle.tree_store.specs.Encoding.{IsAssignmentOf}
use Rattle.tree_store.proofs.SpotsLemmas.{of-some}
use Rattle.tree_store.specs.Shapes.{variant_in, IsCellOf, IsCellIn, HasFieldAt}
use Rattle.tree_store.proofs.TablesLemmas.{number_of_variant, variant-there, has_field-from}
use Rattle.tree_store.proofs.WordsLemmas.{EndsInZero, child-ends}

-- ---- paths, taken apart at the end

-- the path's last field leads from the parent
pub record HasLastStep (types : List TypeEntry) (s : StoreMap) (fields : List FieldId) (a b : CellId) : Type 0 where
  pub before : List FieldId
  pub last : FieldId
  pub parent : CellId
  pub is : fields ≡ before ++ last ∷ []
  pub along : LeadsAlong types s before a parent
  pub step : Leads types s DataAlone last parent b

pub last-step : (types : List TypeEntry) (s : StoreMap) (fields : List FieldId) (a b : CellId) → LeadsAlong types s fields a b →
    ((fields ≡ []) × (a ≡ b)) ⊎ HasLastStep types s fields a b
last-step types s [] a b stays = inl (refl, stays.0)
last-step types s (f ∷ fields) a b (next, leads, rest) =
    elim (last-step types s fields next b rest) as (λ _. ((f ∷ fields ≡ []) × (a ≡ b)) ⊎ HasLastStep types s (f ∷ fields) a b) [
      | inl (none, same) ↦ inr (record {
        before = [];
        last = f;
        parent = a;
        is = ap (λ l. f ∷ l) none;
        along = (refl, (Leads-live types s DataAlone f a next leads).0);
        step = subst (λ x. Leads types s DataAlone f a x) same leads;
      })
      | inr more ↦ inr (record {
        before = f ∷ more.before;
        last = more.last;
        parent = more.parent;
        is = ap (λ l. f ∷ l) more.is;
        along = (next, leads, more.along);
        step = more.step;
      })
    ]

pub below-last : (types : List TypeEntry) (u : Position) (before : List FieldId) (f : FieldId) →
    below types u (before ++ f ∷ []) ≡ child_of (unwrap_or (child_number types f) 0) (below types u before)
below-last types u [] f = refl
below-last types u (g ∷ before) f = below-last types (child_of (unwrap_or (child_number types g) 0) u) before f

pub below-ends : (types : List TypeEntry) (u : Position) (fields : List FieldId) → EndsInZero u → EndsInZero (below types u fields)
below-ends types u [] ends = ends
below-ends types u (f ∷ fields) ends =
    below-ends types (child_of (unwrap_or (child_number types f) 0) u) fields (child-ends (unwrap_or (child_number types f) 0) u)

along-live : (types : List TypeEntry) (s : StoreMap) (fields : List FieldId) (a b : CellId) → LeadsAlong types s fields a b → IsLive s b
along-live types s [] a b stays = subst (λ c. IsLive s c) stays.0 stays.1
along-live types s (f ∷ fields) a b (next, leads, rest) = along-live types s fields next b rest

pub placed-live : (types : List TypeEntry) (vars : List VarEntry) (s : StoreMap) (c : CellId) (p : Position) → IsPlaced types vars s c p → IsLive s c
placed-live types vars s c p placed = along-live types s placed.fields placed.at.root c placed.at.along

-- ---- fields that a cell has

had-slot : (s : StoreMap) (index : ℕ) (fs : List FieldEntry) (xs : List (Option Value)) (i : ℕ) (x : Value) → SlotsFit s index fs xs →
    option_and_then (λ (v : Option Value). v) (slice_get xs i) ≡ Some x → (entry : FieldEntry) × (slice_get fs i ≡ Some entry) × (is_had index entry ≡ true)
had-slot s index [] [] i x fit at = absurd (cc)
had-slot s index [] (y ∷ xs) i x fit at = absurd fit
had-slot s index (f ∷ fs) [] i x fit at = absurd fit
had-slot s index (f ∷ fs) (None ∷ xs) zero x fit at = absurd (cc)
had-slot s index (f ∷ fs) (Some y ∷ xs) zero x fit at = (f, refl, fit.0.0)
had-slot s index (f ∷ fs) (y ∷ xs) (suc i) x fit at = had-slot s index fs xs i x fit.1 at

module _ (types : List TypeEntry) (vars : List VarEntry) (s : StoreMap) (a : Assignment) (fits : Fits types vars s)
    (means : IsAssignmentOf types vars s a) where
  cell-fits : (c : CellId) (cell : CellEntry) → cell_of s c ≡ Some cell → CellFits types s cell
  cell-fits c cell at = IfSome-at (cell_of s c) (CellFits types s) cell at (fits.cells c)

  -- a placed cell is on its variant's track
  pub cell-marked : (c : CellId) (cell : CellEntry) (p : Position) → cell_of s c ≡ Some cell → IsPlaced types vars s c p → IsCellOf types a cell.variant p
  cell-marked c cell p at placed =
      let fit = cell-fits c cell at in
      let t = track_at (number_of_variant types cell.variant) in
      let is = variant-there types cell.variant fit.variant in
      of-some (λ u. IsTrue (a u.0 p)) (variant_track types cell.variant) t is
      ((means.tracks (of_variant cell.variant) t p is).1 (inr (c, placed, of-some (λ e. e.variant ≡ cell.variant) (cell_of s c) cell at refl)))

  pub typed-marked : (ty : TypeId) (c : CellId) (p : Position) → IsOfType s ty c → IsPlaced types vars s c p → IsCellIn types a ty p
  typed-marked ty c p typed placed =
      let (cell, at, same) = IsSomeAnd-at (cell_of s c) (λ e. e.variant.ty ≡ ty) typed in
      subst (λ u. IsCellIn types a u p) same (record { index = cell.variant.index; here = cell-marked c cell p at placed })

  -- what is on a variant's track is a placed cell of the variant
  pub marked-cell : (v : VariantId) (p : Position) → IsCellOf types a v p → (c : CellId) × IsPlaced types vars s c p × IsOfVariant s v c
  marked-cell v p here =
      let (t, is, on) = IsSomeAnd-at (variant_track types v) (λ u. IsTrue (a u.0 p)) here in
      elim ((means.tracks (of_variant v) t p is).0 on) as (λ _. (c : CellId) × IsPlaced types vars s c p × IsOfVariant s v c) [
        | inl root ↦ absurd root.1
        | inr found ↦ found
      ]

  pub marked-typed : (ty : TypeId) (p : Position) → IsCellIn types a ty p → (c : CellId) × IsPlaced types vars s c p × IsOfType s ty c
  marked-typed ty p cell =
      let (c, placed, variant) = marked-cell (variant_in ty cell.index) p cell.here in
      let (own, at, same) = IsSomeAnd-at (cell_of s c) (λ e. e.variant ≡ variant_in ty cell.index) variant in
      (c, placed, of-some (λ e. e.variant.ty ≡ ty) (cell_of s c) own at (ap (λ (v : VariantId). v.ty) same))

  -- a placed cell whose field has a value has the field
  pub held-had : (c : CellId) (f : FieldId) (x : Value) (p : Position) → field_value s c f ≡ Some x → IsPlaced types vars s c p → HasFieldAt types a f p
  held-had c f x p value placed =
      let (cell, at, has) = and_then-some (λ (e : CellEntry). field_of e f) (cell_of s c) x value in
      let (typed, slot) = same_type cell f x has in
      let fit = cell-fits c cell at in
      let (entry, there, had) = had-slot s cell.variant.index (fields_of types cell.variant.ty) cell.values f.index x fit.values slot in
      record {
        index = cell.variant.index;
        has = has_field-from types f entry cell.variant.index (ap (λ t. slice_get (fields_of types t) f.index) (sym typed) ∙ there)
            (subst (λ t. cell.variant.index < variant_count types t) typed fit.variant) had;
        here = subst (λ t. IsCellOf types a (variant_in t cell.variant.index) p) typed (cell-marked c cell p at placed);
      }
