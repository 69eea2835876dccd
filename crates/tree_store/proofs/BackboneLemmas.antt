-- The assignment of a backbone lays it out.
use Rattle.std.proofs.Common.{◌≡◌, ℕ, ◌⊎◌, inl, inr, true, List, take, unwrap_or, IsTrue, IsSomeAnd, IfSome, Some, refl, sym, ap, ◌∙◌, subst}
use Rattle.std.specs.Prelude.{count_by}
use Rattle.gta_theory.specs.Assignments.{Position, Assignment}
use Rattle.ws2s_forms.specs.Places.{child_of, slot_of}
use Rattle.store_core.specs.declared.ids.TypeId.{TypeId}
use Rattle.store_core.specs.declared.ids.VariantId.{VariantId}
use Rattle.store_core.specs.declared.ids.FieldId.{FieldId}
use Rattle.store_core.specs.declared.ids.VarId.{VarId}
use Rattle.store_core.specs.declared.ids.CellId.{CellId}
use Rattle.store_core.specs.declared.kind.FieldKind.TheVariants as field
use Rattle.store_core.specs.declared.kind.VarKind.TheVariants as var
use Rattle.store_core.specs.declared.value.Value.{Value}
use Rattle.store_core.specs.declared.value.Value.TheVariants as value
use Rattle.store_core.specs.Tables.{TypeEntry, VarEntry, field_at, var_at}
use Rattle.store_core.specs.Stores.{StoreMap, CellEntry, cell_of, field_value, var_value, Fits}
use Rattle.store_core.proofs.FittingLemmas.{IfSome-at, IsSomeAnd-at}
use Rattle.routing_walks.specs.declared.fault.Place.TheVariants as place
use Rattle.routing_walks.specs.Walks.{DataAlone, IsFollowed, Leads, IsOfType, IsOfVariant}
use Rattle.routing_walks.specs.WellFormed.{IsDataVar, Names, VarHoldsLive, FieldHoldsLive, IsBackbone}
use Rattle.routing_walks.specs.Paths.{LeadsAlong}
use Rattle.tree_encode.specs.declared.counting.Counted.TheVariants.{Children}
use Rattle.tree_encode.specs.Counting.{rank, is_data_var}
use Rattle.tree_encode.specs.Tracks.{of_bool, bool_track, slot_of_var, child_number}
use Rattle.tree_encode.specs.Positions.{below, path_position, IsPlaced}
use Rattle.tree_encode.proofs.PositionsLemmas.{data_field, data_var, numbered, slotted}
use Rattle.tree_encode.proofs.ApartLemmas.{placed-apart}
use Rattle.tree_store.specs.Encoding.{IsAssignmentOf}
use Rattle.tree_store.proofs.SpotsLemmas.{of-some}
use Rattle.tree_store.specs.Shapes.{IsCellOf, IsCellIn, HasFieldAt, IsTrueAt, IsSlotFor, IsChildFor}
use Rattle.tree_store.specs.Premises.{SetsHoldLive}
use Rattle.tree_store.proofs.WordsLemmas.{slots-apart, slot-ends, slot-not_child}
use Rattle.tree_store.proofs.StoresLemmas.{last-step, below-last, below-ends, marked-cell, marked-typed, held-had}

-- a path that ends at a slot has no field
pub slot-path : (types : List TypeEntry) (vars : List VarEntry) (s : StoreMap) (v : VarId) (fields : List FieldId) (a b : CellId) (i : ℕ) →
    LeadsAlong types s fields a b → slot_of i ≡ path_position types vars v fields → (i ≡ unwrap_or (slot_of_var vars v) 0) × (a ≡ b)
slot-path types vars s v fields a b i along e =
    let u = slot_of (unwrap_or (slot_of_var vars v) 0) in
    elim (last-step types s fields a b along) as (λ _. (i ≡ unwrap_or (slot_of_var vars v) 0) × (a ≡ b)) [
      | inl none ↦ (slots-apart i (unwrap_or (slot_of_var vars v) 0) (e ∙ ap (λ l. below types u l) none.0), none.1)
      | inr more ↦ absurd (slot-not_child i (unwrap_or (child_number types more.last) 0) (below types u more.before)
          (below-ends types u more.before (slot-ends (unwrap_or (slot_of_var vars v) 0)))
          (e ∙ ap (λ l. below types u l) more.is ∙ below-last types u more.before more.last))
    ]

module _ (types : List TypeEntry) (vars : List VarEntry) (s : StoreMap) (a : Assignment) (fits : Fits types vars s) (backbone : IsBackbone types vars s)
    (sets : SetsHoldLive vars s) (means : IsAssignmentOf types vars s a) where
  -- ---- what variables and data fields name

  pub holds-live : (v : VarId) (entry : VarEntry) (x : Value) → var_at vars v ≡ Some entry → var_value s v ≡ Some x → VarHoldsLive s entry.kind x
  holds-live v entry x there holds =
      IfSome-at (var_value s v) (VarHoldsLive s entry.kind) x holds
      (IfSome-at (var_at vars v) (λ e. IfSome (var_value s v) (VarHoldsLive s e.kind)) entry there (backbone.cell_vars v))

  pub data-named : (v : VarId) (entry : VarEntry) (ty : TypeId) (c : CellId) → var_at vars v ≡ Some entry → entry.kind ≡ var.Data ty →
      var_value s v ≡ Some (value.Cell (Some c)) → IsOfType s ty c
  data-named v entry ty c there kind holds =
      subst (λ k. VarHoldsLive s k (value.Cell (Some c))) kind (holds-live v entry (value.Cell (Some c)) there holds)

  field-named : (f : FieldId) (b c : CellId) (ty : TypeId) → IsSomeAnd (field_at types f) (λ e. e.kind ≡ field.Data ty) →
      field_value s b f ≡ Some (value.Cell (Some c)) → IsOfType s ty c
  field-named f b c ty kind holds =
      let (entry, there, is) = IsSomeAnd-at (field_at types f) (λ e. e.kind ≡ field.Data ty) kind in
      subst (λ k. FieldHoldsLive s k (value.Cell (Some c))) is
      (IfSome-at (field_value s b f) (FieldHoldsLive s entry.kind) (value.Cell (Some c)) holds
      (IfSome-at (field_at types f) (λ e. IfSome (field_value s b f) (FieldHoldsLive s e.kind)) entry there (backbone.data_fields b f)))

  -- a cell is of one type
  type-one : (ty uy : TypeId) (c : CellId) → IsOfType s ty c → IsOfType s uy c → ty ≡ uy
  type-one ty uy c one other =
      let (x, at, typed) = IsSomeAnd-at (cell_of s c) (λ e. e.variant.ty ≡ ty) one in
      let (y, also, sort) = IsSomeAnd-at (cell_of s c) (λ e. e.variant.ty ≡ uy) other in
      let both : Some x ≡ Some y = sym at ∙ also in
      let same : x ≡ y = cc in
      sym typed ∙ ap (λ (e : CellEntry). e.variant.ty) same ∙ sort

  -- ---- where cells stand

  in-slot : (ty : TypeId) (c : CellId) (p : Position) (v : VarId) → Names types vars s (place.Var v) c → IsOfType s ty c →
      p ≡ slot_of (unwrap_or (slot_of_var vars v) 0) → IsSlotFor vars ty p
  in-slot ty c p v named typed position =
      let (entry, there, is_data) = IsSomeAnd-at (var_at vars v) (λ e. IsDataVar e.kind) named.place in
      let (uy, kind) = data_var entry.kind is_data in
      let same : uy ≡ ty = type-one uy ty c (data-named v entry uy c there kind named.value) typed in
      let number = slotted vars v entry uy there kind in
      record {
        variable = v;
        kind = of-some (λ e. e.kind ≡ var.Data ty) (var_at vars v) entry there (kind ∙ ap (λ t. var.Data t) same);
        slot = count_by is_data_var (take v.0 vars);
        number = number;
        position = position ∙ ap (λ o. slot_of (unwrap_or o 0)) number;
      }

  in-child : (ty : TypeId) (b c : CellId) (p q : Position) (f : FieldId) → Leads types s DataAlone f b c → IsOfType s ty c → IsPlaced types vars s b q →
      p ≡ child_of (unwrap_or (child_number types f) 0) q → IsChildFor types a ty p
  in-child ty b c p q f leads typed placed position =
      let (entry, there, is_data) = IsSomeAnd-at (field_at types f) (λ e. IsFollowed DataAlone e.kind) leads.kind in
      let (uy, kind) = data_field entry.kind is_data in
      let same : uy ≡ ty =
      type-one uy ty c (field-named f b c uy (of-some (λ e. e.kind ≡ field.Data uy) (field_at types f) entry there kind) leads.value) typed in
      let number = numbered types f entry uy there kind in
      record {
        along = f;
        kind = of-some (λ e. e.kind ≡ field.Data ty) (field_at types f) entry there (kind ∙ ap (λ t. field.Data t) same);
        child = rank Children types f;
        number = number;
        parent = q;
        has = held-had types vars s a fits means b f (value.Cell (Some c)) q leads.value placed;
        position = position ∙ ap (λ o. child_of (unwrap_or o 0) q) number;
      }

  stands : (ty : TypeId) (c : CellId) (p : Position) → IsPlaced types vars s c p → IsOfType s ty c → IsSlotFor vars ty p ⊎ IsChildFor types a ty p
  stands ty c p placed typed =
      let u = slot_of (unwrap_or (slot_of_var vars placed.var) 0) in
      elim (last-step types s placed.fields placed.at.root c placed.at.along) as (λ _. IsSlotFor vars ty p ⊎ IsChildFor types a ty p) [
        | inl none ↦ inl (in-slot ty c p placed.var (subst (λ r. Names types vars s (place.Var placed.var) r) none.1 placed.at.named) typed
            (placed.position ∙ ap (λ l. below types u l) none.0))
        | inr more ↦ inr (in-child ty more.parent c p (below types u more.before) more.last more.step typed
            (record {
              var = placed.var;
              fields = more.before;
              at = record { root = placed.at.root; named = placed.at.named; along = more.along };
              position = refl;
            })
            (placed.position ∙ ap (λ l. below types u l) more.is ∙ below-last types u more.before more.last))
      ]

  pub all-placed : (ty : TypeId) (p : Position) → IsCellIn types a ty p → IsSlotFor vars ty p ⊎ IsChildFor types a ty p
  all-placed ty p cell =
      let (c, placed, typed) = marked-typed types vars s a fits means ty p cell in stands ty c p placed typed

  pub all-apart : (v w : VariantId) (p : Position) → v.ty ≡ w.ty → IsCellOf types a v p → IsCellOf types a w p → v ≡ w
  all-apart v w p same one other =
      let (c, placed, of_v) = marked-cell types vars s a fits means v p one in
      let (d, also, of_w) = marked-cell types vars s a fits means w p other in
      let cells : d ≡ c = placed-apart types vars s d c p also placed in
      let (x, at, is) = IsSomeAnd-at (cell_of s c) (λ e. e.variant ≡ v) of_v in
      let (y, found, is_too) = IsSomeAnd-at (cell_of s c) (λ e. e.variant ≡ w) (subst (λ e. IsOfVariant s w e) cells of_w) in
      let both : Some x ≡ Some y = sym at ∙ found in
      let entries : x ≡ y = cc in
      sym is ∙ ap (λ (e : CellEntry). e.variant) entries ∙ is_too

  pub all-bools : (f : FieldId) (p : Position) → IsTrueAt types a f p → HasFieldAt types a f p
  all-bools f p true_at =
      let (t, is, on) = IsSomeAnd-at (bool_track types f) (λ u. IsTrue (a u.0 p)) true_at in
      elim ((means.tracks (of_bool f) t p is).0 on) as (λ _. HasFieldAt types a f p) [
        | inl root ↦ absurd root.1
        | inr found ↦ held-had types vars s a fits means found.0 f (value.Bool true) p found.2 found.1
      ]
