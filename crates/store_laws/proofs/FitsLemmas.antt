-- Which changes keep a store fitting its tables.
use Rattle.std.proofs.Common.{◌≡◌, ℕ, zero, suc, ◌<◌, Bool, true, false, cond, List, [], ◌∷◌, map, set, Option, Some, None, IsSome, IsSomeAnd, IfSome}
use Rattle.std.proofs.Common.{refl, sym, ap, ◌∙◌, subst, arith, slice_get, inl, inr}
use Rattle.std.specs.Option.{option_map, option_and_then}
use Rattle.std.specs.FinMap.{get-empty}
use Rattle.std.specs.Ordering.{nat_cmp}
use Rattle.std.proofs.lemmas.Bool.{false≢true}
use Rattle.store_core.specs.declared.ids.TypeId.{TypeId}
use Rattle.store_core.specs.declared.ids.CellId.{CellId}
use Rattle.store_core.specs.declared.ids.FieldId.{FieldId}
use Rattle.store_core.specs.declared.ids.VarId.{VarId}
use Rattle.store_core.specs.declared.ids.VariantId.{VariantId}
use Rattle.store_core.specs.declared.kind.FieldKind.{FieldKind}
use Rattle.store_core.specs.declared.kind.FieldKind.TheVariants as field
use Rattle.store_core.specs.declared.kind.VarKind.{VarKind}
use Rattle.store_core.specs.declared.kind.VarKind.TheVariants as var
use Rattle.store_core.specs.declared.value.Value.{Value}
use Rattle.store_core.specs.Tables.{TypeEntry, FieldEntry, VarEntry, fields_of, field_at, var_at, is_had, KnowsVariant}
use Rattle.store_core.specs.Stores.{StoreMap, CellEntry, IsLive, IsAbove, IsFresh, cell_of, field_of, field_value, field_class, var_class, blank}
use Rattle.store_core.specs.Stores.{blank_slot, blank_cell, empty_store, put_cell, with_field, set_field, set_var, remove_cell, NamesType, FieldFits}
use Rattle.store_core.specs.Stores.{VarFits, SlotFits, SlotsFit, CellFits, VarsFit, Fits}
use Rattle.store_core.proofs.Growing.{AllByRecursion-weaker}
use Rattle.store_core.proofs.AboveLemmas.{live_below, IsAbove-from}
use Rattle.store_core.proofs.FittingLemmas.{IfSome-from, IfSome-at, IsSomeAnd-at, same_type}
use Rattle.store_laws.specs.Changed.{IsFieldSet, next_cell}
use Rattle.store_laws.proofs.CellLemmas.{cell_cases, put_here, put_elsewhere, set_here, set_elsewhere, gone_here, gone_elsewhere}
use Rattle.store_laws.proofs.ChangeLemmas.{IsPut-put_cell, IsFieldSet-set_field, IsRemoved-remove_cell}
use Rattle.store_laws.proofs.KeepingLemmas.{NamesSuch-below, all-weaker, all-any, slots-any, CellFits-kept, VarsFit-kept}

-- ---- the next number

-- the next number stays above where no cell becomes live
pub above_alike : (s t : StoreMap) → t.next ≡ s.next → ((d : CellId) → IsLive t d → IsLive s d) → IsAbove s → IsAbove t
above_alike s t next live above = IsAbove-from t (λ d h. let below = live_below s d above (live d h) in omega (arith, next))

pub above_put : (types : List TypeEntry) (s : StoreMap) (v : VariantId) → IsAbove s → IsAbove (put_cell s types v)
above_put types s v above = IsAbove-from (put_cell s types v) (λ d h. elim (((IsPut-put_cell types s v above).live d).0 h) [
  | inl was ↦ let below = live_below s d above was in omega arith
  | inr new ↦ let is : d.0 ≡ s.next = ap (λ (e : CellId). e.0) new in omega arith
])

-- a cell whose field has a value is live
IsLive-field_value : (s : StoreMap) (c : CellId) (f : FieldId) → IsSome (field_value s c f) → IsLive s c
IsLive-field_value s c f h = by (cell_of s c) h
  where
    by : (o : Option CellEntry) → IsSome (option_and_then (λ (cell : CellEntry). field_of cell f) o) → IsSome o
    by None h = absurd (false≢true h)
    by (Some cell) h = refl

-- ---- blank values fit

blank_field_fits : (s : StoreMap) (kind : FieldKind) → FieldFits s kind (blank (field_class kind))
blank_field_fits s field.Bool = tt
blank_field_fits s (field.Data target) = tt
blank_field_fits s (field.Pointer target along) = tt

blank_var_fits : (s : StoreMap) (kind : VarKind) → VarFits s kind (blank (var_class kind))
blank_var_fits s var.Bool = tt
blank_var_fits s (var.Data target) = tt
blank_var_fits s (var.Pointer target) = tt
blank_var_fits s (var.LogicSet target) = (tt, tt)
blank_var_fits s var.LogicBool = tt

blank_slot_fits : (s : StoreMap) (index : ℕ) (f : FieldEntry) (b : Bool) → is_had index f ≡ b
    → SlotFits s index f (cond b (Some (blank (field_class f.kind))) None)
blank_slot_fits s index f true is = (is, blank_field_fits s f.kind)
blank_slot_fits s index f false is = is

blank_slots_fit : (s : StoreMap) (index : ℕ) (fs : List FieldEntry) → SlotsFit s index fs (map (blank_slot index) fs)
blank_slots_fit s index [] = tt
blank_slots_fit s index (f ∷ fs) = (blank_slot_fits s index f (is_had index f) refl, blank_slots_fit s index fs)

pub Fits-empty : (types : List TypeEntry) (vars : List VarEntry) → Fits types vars (empty_store vars)
Fits-empty types vars = record {
  cells = λ c. subst (λ (o : Option CellEntry). IfSome o (CellFits types (empty_store vars))) (sym (get-empty nat_cmp c.0)) tt;
  values = fit (empty_store vars) vars;
  above = IsAbove-from (empty_store vars) (λ c live. absurd (false≢true (subst IsSome (get-empty nat_cmp c.0) live)));
}
  where
    fit : (s : StoreMap) (vs : List VarEntry) → VarsFit s vs (map (λ v. blank (var_class v.kind)) vs)
    fit s [] = tt
    fit s (v ∷ vs) = (blank_var_fits s v.kind, fit s vs)

-- ---- a cell more

module _ (types : List TypeEntry) (vars : List VarEntry) (s : StoreMap) (v : VariantId) (fits : Fits types vars s) (fresh : IsFresh s) where
  abbrev t : StoreMap
  t = put_cell s types v

  -- a cell below the next number keeps its type
  type_kept : (target : TypeId) (c : CellId) → c.0 < s.next → NamesType s target c → NamesType t target c
  type_kept target c below names = subst (λ (o : Option CellEntry). IfSome o (λ cell. cell.variant.ty ≡ target))
      (sym (put_elsewhere types s v c (λ same. let is : c.0 ≡ s.next = ap (λ (d : CellId). d.0) same in absurd (omega arith)))) names

  new_cell_fits : KnowsVariant types v → CellFits types t (blank_cell types v)
  new_cell_fits known = record { variant = known; values = blank_slots_fit t v.index (fields_of types v.ty) }

  old_cell_fits : (c : CellId) (cell : CellEntry) → cell_of s c ≡ Some cell → CellFits types t cell
  old_cell_fits c cell is = CellFits-kept s t (λ d. d.0 < s.next) type_kept types cell
      (AllByRecursion-weaker _ _ (λ o h. all-weaker _ _ (NamesSuch-below s.next) o h) cell.values (IfSome-at (cell_of s c) _ cell is (fresh.values c)))
      (IfSome-at (cell_of s c) _ cell is (fits.cells c))

  pub Fits-put_cell : KnowsVariant types v → Fits types vars (put_cell s types v)
  Fits-put_cell known = record {
    cells = λ c. elim (cell_cases c (next_cell s)) [
      | inl same ↦ subst (λ d. IfSome (cell_of t d) (CellFits types t)) (sym same)
          (subst (λ (o : Option CellEntry). IfSome o (CellFits types t)) (sym (put_here types s v)) (new_cell_fits known))
      | inr apart ↦ subst (λ (o : Option CellEntry). IfSome o (CellFits types t)) (sym (put_elsewhere types s v c apart))
          (IfSome-from (cell_of s c) (CellFits types t) (old_cell_fits c))
    ];
    values = VarsFit-kept s t (λ d. d.0 < s.next) type_kept vars s.vars (AllByRecursion-weaker _ _ (NamesSuch-below s.next) s.vars fresh.vars) fits.values;
    above = above_put types s v fits.above;
  }

-- ---- a field changed

-- a value for a field of the slots of a cell that has it
SlotsFit-set : (s : StoreMap) (index : ℕ) (fs : List FieldEntry) (xs : List (Option Value)) (i : ℕ) (f : FieldEntry) (x y : Value) →
    slice_get fs i ≡ Some f → option_and_then (λ (v : Option Value). v) (slice_get xs i) ≡ Some y → FieldFits s f.kind x → SlotsFit s index fs xs →
    SlotsFit s index fs (set xs i (Some x))
SlotsFit-set s index [] xs i f x y at had fit fits = absurd (cc)
SlotsFit-set s index (g ∷ fs) [] i f x y at had fit fits = absurd fits
SlotsFit-set s index (g ∷ fs) (None ∷ xs) zero f x y at had fit fits = absurd (cc)
SlotsFit-set s index (g ∷ fs) (Some z ∷ xs) zero f x y at had fit fits =
    let same : g ≡ f = cc in ((fits.0.0, subst (λ (e : FieldEntry). FieldFits s e.kind x) (sym same) fit), fits.1)
SlotsFit-set s index (g ∷ fs) (z ∷ xs) (suc i) f x y at had fit fits = (fits.0, SlotsFit-set s index fs xs i f x y at had fit fits.1)

-- what stands where something stands
known : {X : Type 0} (o : Option X) → IsSome o → (x : X) × (o ≡ Some x)
known None h = absurd (false≢true h)
known (Some x) h = (x, refl)

module _ (types : List TypeEntry) (vars : List VarEntry) (s : StoreMap) (c : CellId) (f : FieldId) (x : Value)
    (fits : Fits types vars s) (has : IsSome (field_value s c f)) (fit : IsSomeAnd (field_at types f) (λ entry. FieldFits s entry.kind x)) where
  abbrev u : StoreMap
  u = set_field s c f x

  is_set : IsFieldSet c f x s u
  is_set = IsFieldSet-set_field s c f x has

  type_stays : (target : TypeId) (d : CellId) → Unit {0} → NamesType s target d → NamesType u target d
  unfolding is_set
  type_stays target d such names = by (cell_of u d) (cell_of s d) (is_set.variants d) names
    where
      by : (new old : Option CellEntry) → option_map (λ (cell : CellEntry). cell.variant) new ≡ option_map (λ (cell : CellEntry). cell.variant) old
          → IfSome old (λ cell. cell.variant.ty ≡ target) → IfSome new (λ cell. cell.variant.ty ≡ target)
      by None old same names = tt
      by (Some cell) None same names = absurd (cc)
      by (Some cell) (Some was) same names =
          let variants : cell.variant ≡ was.variant = cc in ap (λ (v : VariantId). v.ty) variants ∙ names

  cell_stays : (cell : CellEntry) → CellFits types s cell → CellFits types u cell
  cell_stays cell fit = CellFits-kept s u (λ d. Unit {0}) type_stays types cell (slots-any cell.values) fit

  changed_fits : (cell : CellEntry) → cell_of s c ≡ Some cell → CellFits types u (with_field cell f x)
  changed_fits cell is =
      let was = known (field_of cell f) (subst IsSome (ap (λ o. option_and_then (λ (e : CellEntry). field_of e f) o) is) has) in
      let typed = same_type cell f was.0 was.1 in
      let entry = IsSomeAnd-at (field_at types f) _ fit in
      let old : CellFits types s cell = IfSome-at (cell_of s c) _ cell is (fits.cells c) in
      cell_stays (with_field cell f x) (record {
        variant = old.variant;
        values = SlotsFit-set s cell.variant.index (fields_of types cell.variant.ty) cell.values f.index entry.0 x was.0
            (ap (λ ty. slice_get (fields_of types ty) f.index) typed.0 ∙ entry.1) typed.1 entry.2 old.values;
      })

  pub Fits-set_field : Fits types vars (set_field s c f x)
  unfolding is_set
  Fits-set_field = record {
    cells = λ d. elim (cell_cases d c) [
      | inl same ↦
          let live = known (cell_of s c) (IsLive-field_value s c f has) in
          subst (λ e. IfSome (cell_of u e) (CellFits types u)) (sym same)
          (subst (λ (o : Option CellEntry). IfSome o (CellFits types u)) (sym (set_here s c f x live.0 live.1)) (changed_fits live.0 live.1))
      | inr apart ↦ subst (λ (o : Option CellEntry). IfSome o (CellFits types u)) (sym (set_elsewhere s c f x d apart))
          (IfSome-from (cell_of s d) (CellFits types u) (λ cell is. cell_stays cell (IfSome-at (cell_of s d) _ cell is (fits.cells d))))
    ];
    values = VarsFit-kept s u (λ d. Unit {0}) type_stays vars s.vars (all-any s.vars) fits.values;
    above = above_alike s u refl (λ d. (is_set.live d).0) fits.above;
  }

-- ---- a variable changed

VarsFit-set : (s : StoreMap) (vs : List VarEntry) (xs : List Value) (i : ℕ) (v : VarEntry) (x : Value) → slice_get vs i ≡ Some v →
    VarFits s v.kind x → VarsFit s vs xs → VarsFit s vs (set xs i x)
VarsFit-set s [] xs i v x at fit fits = absurd (cc)
VarsFit-set s (w ∷ vs) [] i v x at fit fits = absurd fits
VarsFit-set s (w ∷ vs) (y ∷ xs) zero v x at fit fits = let same : w ≡ v = cc in (subst (λ (e : VarEntry). VarFits s e.kind x) (sym same) fit, fits.1)
VarsFit-set s (w ∷ vs) (y ∷ xs) (suc i) v x at fit fits = (fits.0, VarsFit-set s vs xs i v x at fit fits.1)

pub Fits-set_var : (types : List TypeEntry) (vars : List VarEntry) (s : StoreMap) (v : VarId) (x : Value) → Fits types vars s →
    IsSomeAnd (var_at vars v) (λ entry. VarFits s entry.kind x) → Fits types vars (set_var s v x)
Fits-set_var types vars s v x fits fit =
    let entry = IsSomeAnd-at (var_at vars v) _ fit in
    let t = set_var s v x in
    let alike = λ (target : TypeId) (d : CellId) (such : Unit {0}) (names : NamesType s target d). names in
    record {
      cells = λ c. IfSome-from (cell_of s c) (CellFits types t) (λ cell is.
          CellFits-kept s t (λ d. Unit {0}) alike types cell (slots-any cell.values) (IfSome-at (cell_of s c) _ cell is (fits.cells c)));
      values = VarsFit-kept s t (λ d. Unit {0}) alike vars t.vars (all-any t.vars) (VarsFit-set s vars s.vars v.0 entry.0 x entry.1 entry.2 fits.values);
      above = fits.above;
    }

-- ---- a cell less

pub Fits-remove_cell : (types : List TypeEntry) (vars : List VarEntry) (s : StoreMap) (c : CellId) → Fits types vars s → Fits types vars (remove_cell s c)
Fits-remove_cell types vars s c fits = record {
  cells = λ d. elim (cell_cases d c) [
    | inl same ↦ subst (λ e. IfSome (cell_of t e) (CellFits types t)) (sym same)
        (subst (λ (o : Option CellEntry). IfSome o (CellFits types t)) (sym (gone_here s c)) tt)
    | inr apart ↦ subst (λ (o : Option CellEntry). IfSome o (CellFits types t)) (sym (gone_elsewhere s c d apart))
        (IfSome-from (cell_of s d) (CellFits types t) (λ cell is.
        CellFits-kept s t (λ e. Unit {0}) type_kept types cell (slots-any cell.values) (IfSome-at (cell_of s d) _ cell is (fits.cells d))))
  ];
  values = VarsFit-kept s t (λ e. Unit {0}) type_kept vars s.vars (all-any s.vars) fits.values;
  above = above_alike s t refl (λ d h. (((IsRemoved-remove_cell s c).live d).0 h).0) fits.above;
}
  where
    t : StoreMap
    t = remove_cell s c

    type_kept : (target : TypeId) (d : CellId) → Unit {0} → NamesType s target d → NamesType t target d
    type_kept target d such names = elim (cell_cases d c) [
      | inl same ↦ subst (λ e. NamesType t target e) (sym same)
          (subst (λ (o : Option CellEntry). IfSome o (λ cell. cell.variant.ty ≡ target)) (sym (gone_here s c)) tt)
      | inr apart ↦ subst (λ (o : Option CellEntry). IfSome o (λ cell. cell.variant.ty ≡ target)) (sym (gone_elsewhere s c d apart)) names
    ]
