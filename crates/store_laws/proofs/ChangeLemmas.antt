-- What each change of a store changes and what it leaves.
use Rattle.std.proofs.Common.{◌≡◌, ◌≢◌, ◌↔◌, ℕ, false, cond, nat_eq, List, map, set, Option, Some, None, IsSome, refl, sym, ap, ◌∙◌, subst, arith}
use Rattle.std.proofs.Common.{slice_get, inl, inr}
use Rattle.std.specs.Option.{option_map, option_and_then}
use Rattle.std.proofs.lemmas.Bool.{cases_eq, eq-eqb, ne_eqb, false≢true}
use Rattle.std.proofs.lemmas.Option.{slice_get-map}
use Rattle.store_core.specs.declared.ids.CellId.{CellId}
use Rattle.store_core.specs.declared.ids.FieldId.{FieldId}
use Rattle.store_core.specs.declared.ids.VarId.{VarId}
use Rattle.store_core.specs.declared.ids.TypeId.{TypeId}
use Rattle.store_core.specs.declared.ids.VariantId.{VariantId}
use Rattle.store_core.specs.declared.value.Value.{Value}
use Rattle.store_core.specs.Tables.{TypeEntry, FieldEntry, fields_of, field_at}
use Rattle.store_core.specs.Stores.{StoreMap, CellEntry, IsLive, IsAbove, cell_of, field_of, field_value, var_value, blank_slot, blank_cell, put_cell}
use Rattle.store_core.specs.Stores.{with_field, set_field, set_var, remove_cell}
use Rattle.store_core.proofs.AboveLemmas.{live_below}
use Rattle.store_core.proofs.FittingLemmas.{same_type}
use Rattle.store_laws.specs.Changed.{IsPut, IsFieldSet, IsVarSet, IsRemoved, next_cell, variant_of, blank_field}
use Rattle.store_laws.proofs.CellLemmas.{cell_cases, put_here, put_elsewhere, set_here, set_elsewhere, gone_here, gone_elsewhere, get-set_here}
use Rattle.store_laws.proofs.CellLemmas.{get-set_elsewhere}

-- a cell that isn't live is dead
dead_unless : (o : Option CellEntry) → (IsSome o → ⊥) → o ≡ None
dead_unless None h = refl
dead_unless (Some cell) h = absurd (h refl)

not_some : (o : Option CellEntry) → o ≡ None → IsSome o → ⊥
not_some None e h = false≢true h
not_some (Some cell) e h = cc

-- cells that are the same have the same fields
pub fields_alike : (s t : StoreMap) (d : CellId) (f : FieldId) → cell_of t d ≡ cell_of s d → field_value t d f ≡ field_value s d f
fields_alike s t d f is = ap (λ o. option_and_then (λ (cell : CellEntry). field_of cell f) o) is

live_alike : (s t : StoreMap) (d : CellId) → cell_of t d ≡ cell_of s d → IsLive t d ↔ IsLive s d
live_alike s t d is = (subst IsSome is, subst IsSome (sym is))

flat : Option (Option Value) → Option Value
flat o = option_and_then (λ v. v) o

-- ---- a cell more

flat-blank : (index : ℕ) (o : Option FieldEntry) → option_and_then (λ (v : Option Value). v) (option_map (blank_slot index) o)
    ≡ option_and_then (blank_slot index) o
flat-blank index None = refl
flat-blank index (Some entry) = refl

-- the fields of a new cell
field_of-blank : (types : List TypeEntry) (v : VariantId) (f : FieldId) → field_of (blank_cell types v) f ≡ blank_field types v f
field_of-blank types v f = elim (cases_eq v.ty.0 f.ty.0) [
  | inr apart ↦
      ap (λ t. cond t (option_and_then (λ (x : Option Value). x) (slice_get (map (blank_slot v.index) (fields_of types v.ty)) f.index)) None)
      (ne_eqb v.ty.0 f.ty.0 apart) ∙ sym (ap (λ t. cond t (option_and_then (blank_slot v.index) (field_at types f)) None) (ne_eqb v.ty.0 f.ty.0 apart))
  | inl same ↦
      let types_same : v.ty ≡ f.ty = ap (λ (n : ℕ). record { 0 = n }) same in
      ap (λ o. cond (nat_eq v.ty.0 f.ty.0) o None)
      (ap (λ o. option_and_then (λ (x : Option Value). x) o) (slice_get-map (blank_slot v.index) (fields_of types v.ty) f.index)
      ∙ flat-blank v.index (slice_get (fields_of types v.ty) f.index)
      ∙ ap (λ ty. option_and_then (blank_slot v.index) (slice_get (fields_of types ty) f.index)) types_same)
]

pub IsPut-put_cell : (types : List TypeEntry) (s : StoreMap) (v : VariantId) → IsAbove s → IsPut types v (next_cell s) s (put_cell s types v)
IsPut-put_cell types s v above =
    let c = next_cell s in
    let t = put_cell s types v in
    let dead : cell_of s c ≡ None = dead_unless (cell_of s c) (λ live. let below = live_below s c above live in absurd (omega arith)) in
    record {
      number = refl;
      was_dead = dead;
      cell = put_here types s v;
      fields = λ f. ap (λ o. option_and_then (λ (cell : CellEntry). field_of cell f) o) (put_here types s v) ∙ field_of-blank types v f;
      other_cells = put_elsewhere types s v;
      other_fields = λ d f apart. fields_alike s t d f (put_elsewhere types s v d apart);
      live = λ d. elim (cell_cases d c) [
        | inl same ↦ (λ h. inr same, λ h. subst (λ e. IsLive t e) (sym same) (subst IsSome (sym (put_here types s v)) refl))
        | inr apart ↦ (
          λ h. inl (subst IsSome (put_elsewhere types s v d apart) h),
          λ h. elim h [ inl was ↦ subst IsSome (sym (put_elsewhere types s v d apart)) was | inr same ↦ absurd (apart same) ],
        )
      ];
      vars = refl;
      next = refl;
    }

-- ---- a field changed

-- the value of a field that isn't there in a cell of another type
field_of-set : (cell : CellEntry) (f : FieldId) (x y : Value) → field_of cell f ≡ Some y → field_of (with_field cell f x) f ≡ Some x
field_of-set cell f x y is =
    let typed = same_type cell f y is in
    ap (λ t. cond t (option_and_then (λ (v : Option Value). v) (slice_get (set cell.values f.index (Some x)) f.index)) None)
    (eq-eqb cell.variant.ty.0 f.ty.0 (ap (λ (ty : TypeId). ty.0) typed.0))
    ∙ by (slice_get cell.values f.index) refl typed.1
  where
    by : (o : Option (Option Value)) → slice_get cell.values f.index ≡ o → option_and_then (λ (v : Option Value). v) o ≡ Some y
        → option_and_then (λ (v : Option Value). v) (slice_get (set cell.values f.index (Some x)) f.index) ≡ Some x
    by None at e = absurd (cc)
    by (Some slot) at e = ap (λ o. option_and_then (λ (v : Option Value). v) o) (get-set_here cell.values f.index (Some x) slot at)

field_of-other : (cell : CellEntry) (f g : FieldId) (x : Value) → cell.variant.ty ≡ f.ty → g ≢ f → field_of (with_field cell f x) g ≡ field_of cell g
field_of-other cell f g x typed apart = elim (cases_eq g.index f.index) [
  | inr other ↦ ap (λ o. cond (nat_eq cell.variant.ty.0 g.ty.0) (option_and_then (λ (v : Option Value). v) o) None)
      (get-set_elsewhere cell.values f.index g.index (Some x) other)
  | inl same ↦
      let not_typed : nat_eq cell.variant.ty.0 g.ty.0 ≡ false = ne_eqb cell.variant.ty.0 g.ty.0 (λ e. apart
      (λ i. record { ty = (ap (λ (n : ℕ). record { 0 = n }) (sym e) ∙ typed) i; index = same i })) in
      ap (λ t. cond t (option_and_then (λ (v : Option Value). v) (slice_get (set cell.values f.index (Some x)) g.index)) None) not_typed
      ∙ sym (ap (λ t. cond t (option_and_then (λ (v : Option Value). v) (slice_get cell.values g.index)) None) not_typed)
]

pub IsFieldSet-set_field : (s : StoreMap) (c : CellId) (f : FieldId) (x : Value) → IsSome (field_value s c f) → IsFieldSet c f x s (set_field s c f x)
IsFieldSet-set_field s c f x has = by (cell_of s c) refl
  where
    value_in : (cell : CellEntry) → cell_of s c ≡ Some cell → (y : Value) × (field_of cell f ≡ Some y)
    value_in cell is = known (field_of cell f) (subst IsSome (ap (λ o. option_and_then (λ (e : CellEntry). field_of e f) o) is) has)
      where
        known : (o : Option Value) → IsSome o → (y : Value) × (o ≡ Some y)
        known None h = absurd (false≢true h)
        known (Some y) h = (y, refl)

    by : (o : Option CellEntry) → cell_of s c ≡ o → IsFieldSet c f x s (set_field s c f x)
    by None dead = absurd (false≢true (subst IsSome (ap (λ o. option_and_then (λ (e : CellEntry). field_of e f) o) dead) has))
    by (Some cell) is =
        let t = set_field s c f x in
        let old = value_in cell is in
        let here : cell_of t c ≡ Some (with_field cell f x) = set_here s c f x cell is in
        record {
          cell = set_here s c f x;
          value = ap (λ o. option_and_then (λ (e : CellEntry). field_of e f) o) here ∙ field_of-set cell f x old.0 old.1;
          other_fields = λ g apart. ap (λ o. option_and_then (λ (e : CellEntry). field_of e g) o) here
              ∙ field_of-other cell f g x (same_type cell f old.0 old.1).0 apart
              ∙ sym (ap (λ o. option_and_then (λ (e : CellEntry). field_of e g) o) is);
          other_cells = set_elsewhere s c f x;
          fields_of_others = λ d g apart. fields_alike s t d g (set_elsewhere s c f x d apart);
          variants = λ d. elim (cell_cases d c) [
            | inl same ↦ subst (λ e. variant_of t e ≡ variant_of s e) (sym same)
                (ap (λ o. option_map (λ (e : CellEntry). e.variant) o) here ∙ sym (ap (λ o. option_map (λ (e : CellEntry). e.variant) o) is))
            | inr apart ↦ ap (λ o. option_map (λ (e : CellEntry). e.variant) o) (set_elsewhere s c f x d apart)
          ];
          live = λ d. elim (cell_cases d c) [
            | inl same ↦ (
              λ h. subst (λ e. IsLive s e) (sym same) (subst IsSome (sym is) refl),
              λ h. subst (λ e. IsLive t e) (sym same) (subst IsSome (sym here) refl),
            )
            | inr apart ↦ live_alike s t d (set_elsewhere s c f x d apart)
          ];
          vars = refl;
          next = refl;
        }

-- ---- a variable changed

pub IsVarSet-set_var : (s : StoreMap) (v : VarId) (x : Value) → IsSome (var_value s v) → IsVarSet v x s (set_var s v x)
IsVarSet-set_var s v x has = record {
  value = by (slice_get s.vars v.0) refl has;
  other_vars = λ w apart. get-set_elsewhere s.vars v.0 w.0 x (λ e. apart (ap (λ (n : ℕ). record { 0 = n }) e));
  cells = refl;
  next = refl;
}
  where
    by : (o : Option Value) → slice_get s.vars v.0 ≡ o → IsSome o → slice_get (set s.vars v.0 x) v.0 ≡ Some x
    by None at h = absurd (false≢true h)
    by (Some y) at h = get-set_here s.vars v.0 x y at

-- ---- a cell less

pub IsRemoved-remove_cell : (s : StoreMap) (c : CellId) → IsRemoved c s (remove_cell s c)
IsRemoved-remove_cell s c =
    let t = remove_cell s c in
    record {
      dead = gone_here s c;
      fields = λ f. ap (λ o. option_and_then (λ (cell : CellEntry). field_of cell f) o) (gone_here s c);
      other_cells = gone_elsewhere s c;
      other_fields = λ d f apart. fields_alike s t d f (gone_elsewhere s c d apart);
      live = λ d. elim (cell_cases d c) [
        | inl same ↦ (
          λ h. absurd (not_some (cell_of t c) (gone_here s c) (subst (λ e. IsLive t e) same h)),
          λ h. absurd (h.1 same),
        )
        | inr apart ↦ (
          λ h. (subst IsSome (gone_elsewhere s c d apart) h, apart),
          λ h. subst IsSome (sym (gone_elsewhere s c d apart)) h.0,
        )
      ];
      vars = refl;
      next = refl;
    }
