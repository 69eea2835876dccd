-- What the cells and the variables of the decoded store hold.
use Rattle.std.proofs.Common.{◌≡◌, ℕ, zero, suc, ◌+◌, true, cond, nat_eq, List, [], ◌∷◌, slice_get, Option, Some, None, IsSome}
use Rattle.std.proofs.Common.{refl, sym, ap, ◌∙◌, subst, arith}
use Rattle.std.specs.Option.{option_and_then}
use Rattle.std.specs.Ordering.{nat_cmp}
use Rattle.std.specs.FinMap.{get-from_sorted}
use Rattle.std.proofs.lemmas.Bool.Decides.{nat_tests}
use Rattle.std.proofs.lemmas.Option.{same_Some}
use Rattle.gta_theory.specs.Assignments.{Assignment}
use Rattle.store_core.specs.declared.ids.TypeId.{TypeId}
use Rattle.store_core.specs.declared.ids.FieldId.{FieldId}
use Rattle.store_core.specs.declared.ids.VarId.{VarId}
use Rattle.store_core.specs.declared.ids.CellId.{CellId}
use Rattle.store_core.specs.declared.value.Value.{Value}
use Rattle.store_core.specs.Tables.{TypeEntry, FieldEntry, VarEntry, fields_of, field_at, var_at, is_had}
use Rattle.store_core.specs.Stores.{StoreMap, CellEntry, cell_of, field_of, field_value, var_value}
use Rattle.store_core.proofs.FittingLemmas.{same_type}
use Rattle.tree_encode.specs.Tracks.{var_track}
use Rattle.tree_encode.proofs.TracksLemmas.{cond-some, and_then-some}
use Rattle.tree_store.specs.Decoded.{Standing, numbered, field_in, slot_in, slots_in, cell_in, entries_in, var_in, vars_in, decoded}
use Rattle.tree_store.proofs.CellsLemmas.{entry_found, found_entry, entries_sorted}

more : (n i : ℕ) → suc n + i ≡ n + suc i
more n i = omega arith

same_number : (x y : ℕ) → x ≡ y → nat_eq x y ≡ true
same_number x y e = grind (arith, nat_tests)

-- the field with this number of a cell's type
abbrev pub own_field : Standing → ℕ → FieldId
own_field x i = record { ty = x.variant.ty; index = i }

itself : (x : Standing) (f : FieldId) → f.ty ≡ x.variant.ty → own_field x (0 + f.index) ≡ f
itself x f same = let number : 0 + f.index ≡ f.index = omega arith in λ i. record { ty = sym same i; index = number i }

-- what a standing cell has in a field, and where it stands in the list
module _ (types : List TypeEntry) (a : Assignment) (cells : List Standing) (x : Standing) where
  slot_there : (n : ℕ) (fs : List FieldEntry) (k : ℕ) (entry : FieldEntry) → slice_get fs k ≡ Some entry →
      slice_get (slots_in types a cells x n fs) k ≡ Some (slot_in types a cells x (own_field x (n + k)) entry)
  slot_there n [] k entry at = absurd (cc)
  slot_there n (f ∷ fs) zero entry at =
      let same : f ≡ entry = cc in
      let number : n ≡ n + 0 = omega arith in
      ap (λ e. Some (slot_in types a cells x (own_field x n) e)) same ∙ ap (λ i. Some (slot_in types a cells x (own_field x i) entry)) number
  slot_there n (f ∷ fs) (suc k) entry at = slot_there (suc n) fs k entry at ∙ ap (λ i. Some (slot_in types a cells x (own_field x i) entry)) (more n k)

  there_slot : (n : ℕ) (fs : List FieldEntry) (k : ℕ) (o : Option Value) → slice_get (slots_in types a cells x n fs) k ≡ Some o →
      (entry : FieldEntry) × (slice_get fs k ≡ Some entry) × (o ≡ slot_in types a cells x (own_field x (n + k)) entry)
  there_slot n [] k o at = absurd (cc)
  there_slot n (f ∷ fs) zero o at =
      let number : n ≡ n + 0 = omega arith in
      (f, refl, sym (same_Some (slot_in types a cells x (own_field x n) f) o at) ∙ ap (λ i. slot_in types a cells x (own_field x i) f) number)
  there_slot n (f ∷ fs) (suc k) o at =
      let rest = there_slot (suc n) fs k o at in
      (rest.0, rest.1, rest.2 ∙ ap (λ i. slot_in types a cells x (own_field x i) rest.0) (more n k))

  field_here : (f : FieldId) (entry : FieldEntry) → f.ty ≡ x.variant.ty → field_at types f ≡ Some entry → is_had x.variant.index entry ≡ true →
      field_of (cell_in types a cells x) f ≡ Some (field_in types a cells x.at f entry.kind)
  field_here f entry same there had =
      ap (λ b. cond b (option_and_then (λ (v : Option Value). v) (slice_get (slots_in types a cells x 0 (fields_of types x.variant.ty)) f.index)) None)
      (same_number x.variant.ty.0 f.ty.0 (ap (λ (t : TypeId). t.0) (sym same)))
      ∙ ap (λ o. option_and_then (λ (v : Option Value). v) o)
      (slot_there 0 (fields_of types x.variant.ty) f.index entry (subst (λ t. slice_get (fields_of types t) f.index ≡ Some entry) same there))
      ∙ ap (λ b. cond b (Some (field_in types a cells x.at (own_field x (0 + f.index)) entry.kind)) None) had
      ∙ ap (λ g. Some (field_in types a cells x.at g entry.kind)) (itself x f same)

-- ---- cells

-- the value in a field: of a cell that has it
pub record HeldAt (types : List TypeEntry) (a : Assignment) (cells : List Standing) (c : CellId) (f : FieldId) (y : Value) : Type 0 where
  pub place : ℕ
  pub cell : Standing
  pub at : slice_get cells place ≡ Some cell
  pub number : c ≡ numbered (1 + place)
  pub same : f.ty ≡ cell.variant.ty
  pub entry : FieldEntry
  pub there : field_at types f ≡ Some entry
  pub had : is_had cell.variant.index entry ≡ true
  pub is : y ≡ field_in types a cells cell.at f entry.kind

-- a live cell
pub record LiveAt (types : List TypeEntry) (a : Assignment) (cells : List Standing) (c : CellId) (e : CellEntry) : Type 0 where
  pub place : ℕ
  pub cell : Standing
  pub at : slice_get cells place ≡ Some cell
  pub number : c ≡ numbered (1 + place)
  pub is : e ≡ cell_in types a cells cell

-- the value of a variable
pub record VarHeldAt (types : List TypeEntry) (vars : List VarEntry) (a : Assignment) (cells : List Standing) (v : VarId) (y : Value) : Type 0 where
  pub entry : VarEntry
  pub there : var_at vars v ≡ Some entry
  pub is : y ≡ var_in a cells (var_track types vars v) entry.kind

module _ (types : List TypeEntry) (vars : List VarEntry) (a : Assignment) (cells : List Standing) where
  abbrev s : StoreMap
  s = decoded types vars a cells

  pub cell_here : (i : ℕ) (x : Standing) → slice_get cells i ≡ Some x → cell_of s (numbered (1 + i)) ≡ Some (cell_in types a cells x)
  cell_here i x at = get-from_sorted nat_cmp (entries_in types a cells 1 cells) (1 + i) (entries_sorted types a cells 1 cells) ∙ entry_found types a cells
      1 cells i x at

  pub here_cell : (c : CellId) (e : CellEntry) → cell_of s c ≡ Some e → LiveAt types a cells c e
  here_cell c e live =
      let found = found_entry types a cells 1 cells c.0 e
      (sym (get-from_sorted nat_cmp (entries_in types a cells 1 cells) c.0 (entries_sorted types a cells 1 cells)) ∙ live) in
      record { place = found.place; cell = found.cell; at = found.at; number = ap (λ (n : ℕ). record { 0 = n }) found.number; is = found.is }

  pub value_here : (i : ℕ) (x : Standing) (f : FieldId) (entry : FieldEntry) → slice_get cells i ≡ Some x → f.ty ≡ x.variant.ty → field_at types f ≡ Some
      entry →
      is_had x.variant.index entry ≡ true → field_value s (numbered (1 + i)) f ≡ Some (field_in types a cells x.at f entry.kind)
  value_here i x f entry at same there had =
      ap (λ o. option_and_then (λ (cell : CellEntry). field_of cell f) o) (cell_here i x at) ∙ field_here types a cells x f entry same there had

  pub here_value : (c : CellId) (f : FieldId) (y : Value) → field_value s c f ≡ Some y → HeldAt types a cells c f y
  here_value c f y held =
      let live = and_then-some (λ (cell : CellEntry). field_of cell f) (cell_of s c) y held in
      let at = here_cell c live.0 live.1 in
      let x = at.cell in
      let of : field_of (cell_in types a cells x) f ≡ Some y = subst (λ (e : CellEntry). field_of e f ≡ Some y) at.is live.2 in
      let typed = same_type (cell_in types a cells x) f y of in
      let flat = and_then-some (λ (v : Option Value). v) (slice_get (slots_in types a cells x 0 (fields_of types x.variant.ty)) f.index) y typed.1 in
      let slot = there_slot types a cells x 0 (fields_of types x.variant.ty) f.index flat.0 flat.1 in
      let both = cond-some (is_had x.variant.index slot.0) (field_in types a cells x.at (own_field x (0 + f.index)) slot.0.kind) y (sym slot.2 ∙ flat.2) in
      record {
        place = at.place;
        cell = x;
        at = at.at;
        number = at.number;
        same = sym typed.0;
        entry = slot.0;
        there = subst (λ t. slice_get (fields_of types t) f.index ≡ Some slot.0) typed.0 slot.1;
        had = both.0;
        is = sym both.1 ∙ ap (λ g. field_in types a cells x.at g slot.0.kind) (itself x f (sym typed.0));
      }

  -- ---- variables

  var_there : (n : ℕ) (from : List VarEntry) (k : ℕ) (entry : VarEntry) → slice_get from k ≡ Some entry →
      slice_get (vars_in types vars a cells n from) k ≡ Some (var_in a cells (var_track types vars (record { 0 = n + k })) entry.kind)
  var_there n [] k entry at = absurd (cc)
  var_there n (v ∷ from) zero entry at =
      let same : v ≡ entry = cc in
      let number : n ≡ n + 0 = omega arith in
      ap (λ (e : VarEntry). Some (var_in a cells (var_track types vars (record { 0 = n })) e.kind)) same
      ∙ ap (λ i. Some (var_in a cells (var_track types vars (record { 0 = i })) entry.kind)) number
  var_there n (v ∷ from) (suc k) entry at =
      var_there (suc n) from k entry at ∙ ap (λ i. Some (var_in a cells (var_track types vars (record { 0 = i })) entry.kind)) (more n k)

  there_var : (n : ℕ) (from : List VarEntry) (k : ℕ) (y : Value) → slice_get (vars_in types vars a cells n from) k ≡ Some y → IsSome (slice_get from k)
  there_var n [] k y at = absurd (cc)
  there_var n (v ∷ from) zero y at = refl
  there_var n (v ∷ from) (suc k) y at = there_var (suc n) from k y at

  pub var_here : (v : VarId) (entry : VarEntry) → var_at vars v ≡ Some entry → var_value s v ≡ Some (var_in a cells (var_track types vars v) entry.kind)
  var_here v entry there = var_there 0 vars v.0 entry there ∙ ap (λ w. Some (var_in a cells (var_track types vars w) entry.kind)) itself
    where
      itself : record { 0 = 0 + v.0 } ≡ v
      itself = let number : 0 + v.0 ≡ v.0 = omega arith in λ i. record { 0 = number i }

  pub here_var : (v : VarId) (y : Value) → var_value s v ≡ Some y → VarHeldAt types vars a cells v y
  here_var v y held = by (slice_get vars v.0) refl (there_var 0 vars v.0 y held)
    where
      by : (o : Option VarEntry) → slice_get vars v.0 ≡ o → IsSome o → VarHeldAt types vars a cells v y
      by None at some = absurd (cc)
      by (Some entry) at some = record { entry = entry; there = at; is = same_Some y _ (sym held ∙ var_here v entry at) }
