-- What stands at the places of a store that fits its tables.
use Rattle.std.proofs.Common.{◌≡◌, ℕ, zero, suc, Bool, true, false, cond, nat_eq, List, [], ◌∷◌, slice_get, Option, Some, None, IsSomeAnd, IfSome}
use Rattle.std.proofs.Common.{refl, ap, subst, inl, inr}
use Rattle.std.specs.Option.{option_and_then}
use Rattle.std.proofs.lemmas.Bool.{cases_eq, ne_eqb}
use Rattle.store_core.specs.declared.ids.VarId.{VarId}
use Rattle.store_core.specs.declared.ids.FieldId.{FieldId}
use Rattle.store_core.specs.declared.ids.CellId.{CellId}
use Rattle.store_core.specs.declared.value.Value.{Value}
use Rattle.store_core.specs.Tables.{TypeEntry, FieldEntry, VarEntry, fields_of}
use Rattle.store_core.specs.Stores.{StoreMap, CellEntry, cell_of, field_of, field_value, var_value, FieldFits, VarFits, SlotsFit, CellFits, VarsFit, Fits}

-- what is shown of each value in a `Some`
pub IfSome-from : {X : Type 0} (o : Option X) (P : X → Type 0) → ((x : X) → o ≡ Some x → P x) → IfSome o P
IfSome-from None P f = tt
IfSome-from (Some x) P f = f x refl

pub IfSome-at : {X : Type 0} (o : Option X) (P : X → Type 0) (x : X) → o ≡ Some x → IfSome o P → P x
IfSome-at o P x is h = let h' : IfSome (Some x) P = subst (λ p. IfSome p P) is h in h'

pub IsSomeAnd-at : {X : Type 0} (o : Option X) (P : X → Type 0) → IsSomeAnd o P → (x : X) × (o ≡ Some x) × P x
IsSomeAnd-at None P h = absurd h
IsSomeAnd-at (Some x) P h = (x, refl, h)

-- a variable that holds a value, and what its kind is
pub record VarAt (s : StoreMap) (vars : List VarEntry) (i : ℕ) (x : Value) : Type 0 where
  pub entry : VarEntry
  pub at : slice_get vars i ≡ Some entry
  pub fits : VarFits s entry.kind x

pub var_fits : (s : StoreMap) (vars : List VarEntry) (xs : List Value) (i : ℕ) (x : Value) → VarsFit s vars xs → slice_get xs i ≡ Some x → VarAt s vars i x
var_fits s [] [] i x fit at = absurd (cc)
var_fits s [] (y ∷ xs) i x fit at = absurd fit
var_fits s (v ∷ vars) [] i x fit at = absurd fit
var_fits s (v ∷ vars) (y ∷ xs) zero x fit at = let same : y ≡ x = cc in record { entry = v; at = refl; fits = subst (VarFits s v.kind) same fit.0 }
var_fits s (v ∷ vars) (y ∷ xs) (suc i) x fit at = let rest = var_fits s vars xs i x fit.1 at in record { entry = rest.entry; at = rest.at; fits = rest.fits }

-- a field that holds a value, and what its kind is
pub record SlotAt (s : StoreMap) (fs : List FieldEntry) (i : ℕ) (x : Value) : Type 0 where
  pub entry : FieldEntry
  pub at : slice_get fs i ≡ Some entry
  pub fits : FieldFits s entry.kind x

flat_nil : (i : ℕ) (x : Value) → option_and_then (λ (v : Option Value). v) (slice_get [] i) ≡ Some x → ⊥
flat_nil i x e = cc

slot_fits : (s : StoreMap) (index : ℕ) (fs : List FieldEntry) (xs : List (Option Value)) (i : ℕ) (x : Value) →
    SlotsFit s index fs xs → option_and_then (λ (v : Option Value). v) (slice_get xs i) ≡ Some x → SlotAt s fs i x
slot_fits s index [] [] i x fit at = absurd (flat_nil i x at)
slot_fits s index [] (y ∷ xs) i x fit at = absurd fit
slot_fits s index (f ∷ fs) [] i x fit at = absurd fit
slot_fits s index (f ∷ fs) (None ∷ xs) zero x fit at = absurd (cc)
slot_fits s index (f ∷ fs) (Some y ∷ xs) zero x fit at = let same : y ≡ x = cc in
    record { entry = f; at = refl; fits = subst (FieldFits s f.kind) same fit.0.1 }
slot_fits s index (f ∷ fs) (y ∷ xs) (suc i) x fit at = let rest = slot_fits s index fs xs i x fit.1 at in
    record { entry = rest.entry; at = rest.at; fits = rest.fits }

-- a field that a cell has is one of the cell's type
pub same_type : (cell : CellEntry) (f : FieldId) (x : Value) → field_of cell f ≡ Some x → (cell.variant.ty ≡ f.ty) ×
    (option_and_then (λ (v : Option Value). v) (slice_get cell.values f.index) ≡ Some x)
same_type cell f x e = elim (cases_eq cell.variant.ty.0 f.ty.0) [
  | inl same ↦ (ap (λ (n : ℕ). record { 0 = n }) same, tested (nat_eq cell.variant.ty.0 f.ty.0) _ x e)
  | inr apart ↦ let none : None ≡ Some x =
      subst (λ t. cond t (option_and_then (λ (v : Option Value). v) (slice_get cell.values f.index)) None ≡ Some x)
      (ne_eqb cell.variant.ty.0 f.ty.0 apart) e in absurd (cc)
]
  where
    tested : (t : Bool) (o : Option Value) (x : Value) → cond t o None ≡ Some x → o ≡ Some x
    tested true o x e = e
    tested false o x e = cc

cell_slot : (types : List TypeEntry) (s : StoreMap) (o : Option CellEntry) (f : FieldId) (x : Value) →
    IfSome o (CellFits types s) → option_and_then (λ cell. field_of cell f) o ≡ Some x
    → SlotAt s (fields_of types f.ty) f.index x
cell_slot types s None f x fits at = absurd (cc)
cell_slot types s (Some cell) f x fits at =
    let typed = same_type cell f x at in
    subst (λ t. SlotAt s (fields_of types t) f.index x) typed.0
    (slot_fits s cell.variant.index (fields_of types cell.variant.ty) cell.values f.index x fits.values typed.1)

module _ (types : List TypeEntry) (vars : List VarEntry) (s : StoreMap) (fits : Fits types vars s) where
  pub var_at_value : (v : VarId) (x : Value) → var_value s v ≡ Some x → VarAt s vars v.0 x
  var_at_value v x at = var_fits s vars s.vars v.0 x fits.values at

  pub slot_at_value : (c : CellId) (f : FieldId) (x : Value) → field_value s c f ≡ Some x → SlotAt s (fields_of types f.ty) f.index x
  slot_at_value c f x at = cell_slot types s (cell_of s c) f x (fits.cells c) at
