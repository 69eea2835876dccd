-- Cells stand where they are marked: a position has cells of one variant alone, and children have one parent.
use Rattle.std.proofs.Common.{◌≡◌, ℕ, zero, suc, ◌<◌, inl, inr, false, List, [], ◌∷◌, ◌++◌, length, slice_get, Some, sym, ap, ◌∙◌, subst, arith, length-append}
use Rattle.std.proofs.lemmas.Option.{same_Some}
use Rattle.gta_theory.specs.Assignments.{Position, Assignment}
use Rattle.ws2s_forms.specs.Places.{ones, child_of, slot_of}
use Rattle.store_core.specs.declared.ids.TypeId.{TypeId}
use Rattle.store_core.specs.declared.ids.VariantId.{VariantId}
use Rattle.store_core.specs.declared.kind.FieldKind.TheVariants as field
use Rattle.store_core.specs.declared.kind.VarKind.TheVariants as var
use Rattle.store_core.specs.Tables.{TypeEntry, VarEntry, field_at, var_at}
use Rattle.store_core.proofs.FittingLemmas.{IsSomeAnd-at}
use Rattle.tree_encode.specs.Spaces.{slot_types, child_types}
use Rattle.tree_encode.proofs.TracksLemmas.{fielded}
use Rattle.tree_encode.proofs.PlacesLemmas.{slot-type, child-type}
use Rattle.tree_store.specs.Shapes.{variant_in, IsCellOf, IsCellIn, IsSlotFor, IsChildFor, LaysOut}
use Rattle.tree_store.proofs.WordsLemmas.{EndsInZero, slots-apart, slot-ends, child-ends, slot-not_child, children-apart}

module _ (types : List TypeEntry) (vars : List VarEntry) (a : Assignment) (laid : LaysOut types vars a) where
  cell-in : (v : VariantId) (p : Position) → IsCellOf types a v p → IsCellIn types a v.ty p
  cell-in v p here = record { index = v.index; here = here }

  pub cell-ends : (v : VariantId) (p : Position) → IsCellOf types a v p → EndsInZero p
  cell-ends v p here = elim (laid.placed v.ty p (cell-in v p here)) as (λ _. EndsInZero p) [
    | inl at ↦ subst EndsInZero (sym at.position) (slot-ends at.slot)
    | inr at ↦ subst EndsInZero (sym at.position) (child-ends at.child at.parent)
  ]

  shorter : (j : ℕ) (u : Position) → length u < length (child_of j u)
  shorter j u = omega (arith, length-append u (ones j ++ false ∷ []), length-append (ones j) (false ∷ []))

  -- the slot's type
  slot-one : (ty uy : TypeId) (p : Position) → IsSlotFor vars ty p → IsSlotFor vars uy p → ty ≡ uy
  slot-one ty uy p one other =
      let (x, there, kind) = IsSomeAnd-at (var_at vars one.variable) (λ e. e.kind ≡ var.Data ty) one.kind in
      let (y, found, sort) = IsSomeAnd-at (var_at vars other.variable) (λ e. e.kind ≡ var.Data uy) other.kind in
      let same = slots-apart one.slot other.slot (sym one.position ∙ other.position) in
      same_Some ty uy
      (sym (slot-type vars [] one.variable x one.slot ty one.number there kind) ∙ ap (λ i. slice_get (slot_types vars []) i) same
      ∙ slot-type vars [] other.variable y other.slot uy other.number found sort)

  mixed : (ty uy : TypeId) (p : Position) → IsSlotFor vars ty p → IsChildFor types a uy p → ⊥
  mixed ty uy p one other =
      slot-not_child one.slot other.child other.parent (cell-ends (variant_in other.along.ty other.has.index) other.parent other.has.here)
      (sym one.position ∙ other.position)

  -- the child's, where the parent has one type
  child-one : (ty uy : TypeId) (p : Position) → ((v w : VariantId) (q : Position) → length q < length p → IsCellOf types a v q → IsCellOf types a w q →
      v.ty ≡ w.ty) → IsChildFor types a ty p → IsChildFor types a uy p → ty ≡ uy
  child-one ty uy p parents one other =
      let first = variant_in one.along.ty one.has.index in
      let second = variant_in other.along.ty other.has.index in
      let (number, same) = children-apart one.child other.child one.parent other.parent (cell-ends first one.parent one.has.here)
      (cell-ends second other.parent other.has.here) (sym one.position ∙ other.position) in
      let less : length one.parent < length p = subst (λ w. length one.parent < length w) (sym one.position) (shorter one.child one.parent) in
      let typed : one.along.ty ≡ other.along.ty =
      parents first second one.parent less one.has.here (subst (λ q. IsCellOf types a second q) (sym same) other.has.here) in
      let (x, there, kind) = IsSomeAnd-at (field_at types one.along) (λ e. e.kind ≡ field.Data ty) one.kind in
      let (y, found, sort) = IsSomeAnd-at (field_at types other.along) (λ e. e.kind ≡ field.Data uy) other.kind in
      let (t, t_at, t_fields) = fielded types one.along x there in
      let u_at : slice_get types other.along.ty.0 ≡ Some t = ap (λ (k : TypeId). slice_get types k.0) (sym typed) ∙ t_at in
      same_Some ty uy
      (sym (child-type types one.along t x one.child ty one.number t_at there kind) ∙ ap (λ j. slice_get (child_types t) j) number
      ∙ child-type types other.along t y other.child uy other.number u_at found sort)

  one-type : (n : ℕ) (p : Position) → length p < n → (v w : VariantId) → IsCellOf types a v p → IsCellOf types a w p → v.ty ≡ w.ty
  one-type zero p short v w one other = absurd (omega arith)
  one-type (suc n) p short v w one other =
      elim (laid.placed v.ty p (cell-in v p one)) as (λ _. v.ty ≡ w.ty) [
        | inl in_slot ↦ elim (laid.placed w.ty p (cell-in w p other)) as (λ _. v.ty ≡ w.ty) [
          | inl also ↦ slot-one v.ty w.ty p in_slot also
          | inr child ↦ absurd (mixed v.ty w.ty p in_slot child)
        ]
        | inr child ↦ elim (laid.placed w.ty p (cell-in w p other)) as (λ _. v.ty ≡ w.ty) [
          | inl in_slot ↦ absurd (mixed w.ty v.ty p in_slot child)
          | inr also ↦ child-one v.ty w.ty p (λ x y q less here there. one-type n q (omega (arith, less, short)) x y here there) child also
        ]
      ]

  pub one-variant : (v w : VariantId) (p : Position) → IsCellOf types a v p → IsCellOf types a w p → v ≡ w
  one-variant v w p one other = laid.apart v w p (one-type (suc (length p)) p (omega arith) v w one other) one other

  pub slot-or_child : (v : VariantId) (i j : ℕ) (p : Position) → IsCellOf types a v p → slot_of i ≡ child_of j p → ⊥
  slot-or_child v i j p here e = slot-not_child i j p (cell-ends v p here) e

  pub one-parent : (v w : VariantId) (j k : ℕ) (p q : Position) → IsCellOf types a v p → IsCellOf types a w q → child_of j p ≡ child_of k q →
      (j ≡ k) × (p ≡ q)
  one-parent v w j k p q here there e = children-apart j k p q (cell-ends v p here) (cell-ends w q there) e
