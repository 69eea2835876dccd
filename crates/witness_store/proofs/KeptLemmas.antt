-- Cells that fit the table of types, one of whose fields is set.
use Rattle.std.proofs.Common.{◌≡◌, ℕ, zero, suc, List, [], ◌∷◌, set, Option, Some, None, IsSome, IsSomeAnd, IfSome}
use Rattle.std.proofs.Common.{refl, sym, ap, ◌∙◌, subst, slice_get, inl, inr}
use Rattle.std.specs.Option.{option_map, option_and_then}
use Rattle.std.proofs.lemmas.Bool.{false≢true}
use Rattle.store_core.specs.declared.ids.TypeId.{TypeId}
use Rattle.store_core.specs.declared.ids.CellId.{CellId}
use Rattle.store_core.specs.declared.ids.FieldId.{FieldId}
use Rattle.store_core.specs.declared.ids.VariantId.{VariantId}
use Rattle.store_core.specs.declared.value.Value.{Value}
use Rattle.store_core.specs.Tables.{TypeEntry, FieldEntry, fields_of, field_at}
use Rattle.store_core.specs.Stores.{StoreMap, CellEntry, IsLive, cell_of, field_of, field_value, with_field, set_field, NamesType, FieldFits, SlotsFit}
use Rattle.store_core.specs.Stores.{CellFits}
use Rattle.store_core.proofs.FittingLemmas.{IfSome-from, IfSome-at, IsSomeAnd-at, same_type}
use Rattle.store_laws.specs.Changed.{IsFieldSet}
use Rattle.store_laws.proofs.CellLemmas.{cell_cases, set_here, set_elsewhere}
use Rattle.store_laws.proofs.ChangeLemmas.{IsFieldSet-set_field}
use Rattle.store_laws.proofs.KeepingLemmas.{slots-any, CellFits-kept}
use Rattle.witness_store.specs.Pointers.{DoCellsFit}

-- a value for a field of the slots of a cell that has it
SlotsFit-set : (s : StoreMap) (index : ℕ) (fs : List FieldEntry) (xs : List (Option Value)) (i : ℕ) (f : FieldEntry) (x y : Value) →
    slice_get fs i ≡ Some f → option_and_then (λ (v : Option Value). v) (slice_get xs i) ≡ Some y → FieldFits s f.kind x → SlotsFit s index fs xs →
    SlotsFit s index fs (set xs i (Some x))
SlotsFit-set s index [] xs i f x y at had fit fits = absurd (cc)
SlotsFit-set s index (g ∷ fs) [] i f x y at had fit fits = absurd fits
SlotsFit-set s index (g ∷ fs) (None ∷ xs) zero f x y at had fit fits = absurd (cc)
SlotsFit-set s index (g ∷ fs) (Some z ∷ xs) zero f x y at had fit fits =
    let same : g ≡ f = cc in ((fits.0.0, subst (λ (e : FieldEntry). FieldFits s e.kind x) (sym same) fit), fits.1)
SlotsFit-set s index (g ∷ fs) (z ∷ xs) (suc i) f x y at had fit fits = (fits.0, SlotsFit-set s index fs xs i f x y at had fit fits.1)

-- what stands where something stands
pub known : {X : Type 0} (o : Option X) → IsSome o → (x : X) × (o ≡ Some x)
known None h = absurd (false≢true h)
known (Some x) h = (x, refl)

pub IsLive-field_value : (s : StoreMap) (c : CellId) (f : FieldId) → IsSome (field_value s c f) → IsLive s c
IsLive-field_value s c f h = by (cell_of s c) h
  where
    by : (o : Option CellEntry) → IsSome (option_and_then (λ (cell : CellEntry). field_of cell f) o) → IsSome o
    by None h = h
    by (Some cell) h = refl

module _ (types : List TypeEntry) (s : StoreMap) (c : CellId) (f : FieldId) (x : Value)
    (fits : DoCellsFit types s) (has : IsSome (field_value s c f)) (fit : IsSomeAnd (field_at types f) (λ entry. FieldFits s entry.kind x)) where
  abbrev u : StoreMap
  u = set_field s c f x

  is_set : IsFieldSet c f x s u
  is_set = IsFieldSet-set_field s c f x has

  type_stays : (target : TypeId) (d : CellId) → Unit {0} → NamesType s target d → NamesType u target d
  unfolding is_set
  type_stays target d such names = by (cell_of u d) (cell_of s d) (is_set.variants d) names
    where
      by : (new old : Option CellEntry) → option_map (λ (cell : CellEntry). cell.variant) new ≡ option_map (λ (cell : CellEntry). cell.variant) old
          → IfSome old (λ cell. cell.variant.ty ≡ target) → IfSome new (λ cell. cell.variant.ty ≡ target)
      by None old same names = tt
      by (Some cell) None same names = absurd (cc)
      by (Some cell) (Some was) same names =
          let variants : cell.variant ≡ was.variant = cc in ap (λ (v : VariantId). v.ty) variants ∙ names

  cell_stays : (cell : CellEntry) → CellFits types s cell → CellFits types u cell
  cell_stays cell fit = CellFits-kept s u (λ d. Unit {0}) type_stays types cell (slots-any cell.values) fit

  changed_fits : (cell : CellEntry) → cell_of s c ≡ Some cell → CellFits types u (with_field cell f x)
  changed_fits cell is =
      let was = known (field_of cell f) (subst IsSome (ap (λ o. option_and_then (λ (e : CellEntry). field_of e f) o) is) has) in
      let typed = same_type cell f was.0 was.1 in
      let entry = IsSomeAnd-at (field_at types f) _ fit in
      let old : CellFits types s cell = IfSome-at (cell_of s c) _ cell is (fits c) in
      cell_stays (with_field cell f x) (record {
        variant = old.variant;
        values = SlotsFit-set s cell.variant.index (fields_of types cell.variant.ty) cell.values f.index entry.0 x was.0
            (ap (λ ty. slice_get (fields_of types ty) f.index) typed.0 ∙ entry.1) typed.1 entry.2 old.values;
      })

  pub DoCellsFit-set_field : DoCellsFit types (set_field s c f x)
  DoCellsFit-set_field d = elim (cell_cases d c) [
    | inl same ↦
        let live = known (cell_of s c) (IsLive-field_value s c f has) in
        subst (λ e. IfSome (cell_of u e) (CellFits types u)) (sym same)
        (subst (λ (o : Option CellEntry). IfSome o (CellFits types u)) (sym (set_here s c f x live.0 live.1)) (changed_fits live.0 live.1))
    | inr apart ↦ subst (λ (o : Option CellEntry). IfSome o (CellFits types u)) (sym (set_elsewhere s c f x d apart))
        (IfSome-from (cell_of s d) (CellFits types u) (λ cell is. cell_stays cell (IfSome-at (cell_of s d) _ cell is (fits d))))
  ]
