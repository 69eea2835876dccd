-- What is laid out over the tables of small layouts.
use Rattle.std.proofs.Common.{◌≡◌, ◌↔◌, ◌⊎◌, ℕ, zero, suc, ◌<◌, inl, inr, IsTrue, IsSomeAnd, IfSome, Some, unwrap_or, refl, sym, ap, ◌∙◌, subst, arith}
use Rattle.gta_theory.specs.Assignments.{Position, Assignment}
use Rattle.ws2s_forms.specs.Places.{child_of, slot_of}
use Rattle.store_core.specs.declared.ids.TypeId.{TypeId}
use Rattle.store_core.specs.declared.ids.VariantId.{VariantId}
use Rattle.store_core.specs.declared.ids.FieldId.{FieldId}
use Rattle.store_core.specs.declared.kind.VarKind.TheVariants as var
use Rattle.store_core.specs.Tables.{var_at}
use Rattle.tree_encode.specs.Tracks.{var_track, slot_of_var, child_number}
use Rattle.tree_formula.specs.WellEncoded.{type_id, variant_in, field_in, var_id}
use Rattle.tree_formula.specs.Worked.{list_types, list_vars, split_types, split_vars}
use Rattle.tree_store.specs.Shapes.{IsCellOf, IsCellIn, HasFieldAt, IsTrueAt, IsSlotFor, IsChildFor, VarLaysOut, LaysOut}
use Rattle.tree_store.specs.Worked.{IsList, IsSplit}
use Rattle.tree_store.proofs.TablesLemmas.{cell-known}

-- ---- the list

module _ (a : Assignment) where
  -- its only cells are those of the type's one variant
  list-cell : (n i : ℕ) (p : Position) → IsCellOf list_types a (variant_in (type_id n) i) p → (n ≡ 0) × (i ≡ 0) × IsTrue (a 0 p)
  list-cell zero zero p here = (refl, refl, here)
  list-cell zero (suc i) p here =
      absurd (let known : suc i < 1 = cell-known list_types a (variant_in (type_id 0) (suc i)) p here in omega (arith, known))
  list-cell (suc n) i p here =
      absurd (let known : i < 0 = cell-known list_types a (variant_in (type_id (suc n)) i) p here in omega (arith, known))

  list-slot : (n i : ℕ) → slot_of_var list_vars (var_id n) ≡ Some i → i ≡ 0
  list-slot zero i is = cc
  list-slot (suc n) i is = cc

  list-child : (n k j : ℕ) → child_number list_types (field_in (type_id n) k) ≡ Some j → j ≡ 0
  list-child zero zero j is = cc
  list-child zero (suc k) j is = cc
  list-child (suc n) k j is = cc

  list-no_bool : (n k : ℕ) (p : Position) → IsTrueAt list_types a (field_in (type_id n) k) p → ⊥
  list-no_bool zero zero p on = on
  list-no_bool zero (suc k) p on = on
  list-no_bool (suc n) k p on = on

  list-there : LaysOut list_types list_vars a → IsList a
  list-there laid = record { placed = placed; named = named }
    where
      placed : (p : Position) → IsTrue (a 0 p) → (p ≡ slot_of 0) ⊎ ((q : Position) × IsTrue (a 0 q) × (p ≡ child_of 0 q))
      placed p on =
          elim (laid.placed (type_id 0) p (record { index = 0; here = on }))
          as (λ _. (p ≡ slot_of 0) ⊎ ((q : Position) × IsTrue (a 0 q) × (p ≡ child_of 0 q))) [
            | inl at ↦ inl (at.position ∙ ap (λ i. slot_of i) (list-slot at.variable.0 at.slot at.number))
            | inr at ↦ inr (
              at.parent,
              (list-cell at.along.ty.0 at.has.index at.parent at.has.here).2,
              at.position ∙ ap (λ j. child_of j at.parent) (list-child at.along.ty.0 at.along.index at.child at.number),
            )
          ]

      named : (p : Position) → IsTrue (a 1 p) ↔ ((p ≡ slot_of 0) × IsTrue (a 0 p))
      named p =
          let lays : VarLaysOut list_types a 0 1 (var.Data (type_id 0)) = laid.variables (var_id 0) in (
            (λ on. let both = (lays p).0 on in (both.0, (list-cell 0 both.1.index p both.1.here).2)),
            (λ both. (lays p).1 (both.0, record { index = 0; here = both.1 })),
          )

  list-back : IsList a → LaysOut list_types list_vars a
  list-back is = record { placed = placed; apart = apart; bools = bools; variables = λ v. variables v.0 }
    where
      placed : (ty : TypeId) (p : Position) → IsCellIn list_types a ty p → IsSlotFor list_vars ty p ⊎ IsChildFor list_types a ty p
      placed ty p cell =
          let (typed, first, on) = list-cell ty.0 cell.index p cell.here in
          subst (λ n. IsSlotFor list_vars (type_id n) p ⊎ IsChildFor list_types a (type_id n) p) (sym typed)
          (elim (is.placed p on) as (λ _. IsSlotFor list_vars (type_id 0) p ⊎ IsChildFor list_types a (type_id 0) p) [
            | inl at ↦ inl (record { variable = var_id 0; kind = refl; slot = 0; number = refl; position = at })
            | inr at ↦ inr (record {
              along = field_in (type_id 0) 0;
              kind = refl;
              child = 0;
              number = refl;
              parent = at.0;
              has = record { index = 0; has = refl; here = at.1 };
              position = at.2;
            })
          ])

      apart : (v w : VariantId) (p : Position) → v.ty ≡ w.ty → IsCellOf list_types a v p → IsCellOf list_types a w p → v ≡ w
      apart v w p same one other =
          let (v_typed, v_first, v_on) = list-cell v.ty.0 v.index p one in
          let (w_typed, w_first, w_on) = list-cell w.ty.0 w.index p other in
          λ i. record { ty = same i; index = (v_first ∙ sym w_first) i }

      bools : (f : FieldId) (p : Position) → IsTrueAt list_types a f p → HasFieldAt list_types a f p
      bools f p on = absurd (list-no_bool f.ty.0 f.index p on)

      variables : (n : ℕ) → IfSome (var_at list_vars (var_id n)) (λ entry. IfSome (var_track list_types list_vars (var_id n)) (λ x.
          VarLaysOut list_types a (unwrap_or (slot_of_var list_vars (var_id n)) 0) x.0 entry.kind))
      variables zero = λ p. (
        (λ on. let both = (is.named p).0 on in (both.0, record { index = 0; here = both.1 })),
        (λ both. (is.named p).1 (both.0, (list-cell 0 both.1.index p both.1.here).2)),
      )
      variables (suc n) = tt

-- ---- the type without places

module _ (a : Assignment) where
  no-slot : (n : ℕ) (ty : TypeId) (p : Position) → IsSomeAnd (var_at split_vars (var_id n)) (λ entry. entry.kind ≡ var.Data ty) → ⊥
  no-slot zero ty p kind = cc
  no-slot (suc n) ty p kind = kind

  no-child : (n k j : ℕ) → child_number split_types (field_in (type_id n) k) ≡ Some j → ⊥
  no-child zero zero j is = cc
  no-child zero (suc k) j is = cc
  no-child (suc n) k j is = cc

  no-cell : LaysOut split_types split_vars a → (ty : TypeId) (p : Position) → IsCellIn split_types a ty p → ⊥
  no-cell laid ty p cell = elim (laid.placed ty p cell) as (λ _. ⊥) [
    | inl at ↦ no-slot at.variable.0 ty p at.kind
    | inr at ↦ no-child at.along.ty.0 at.along.index at.child at.number
  ]

  split-there : LaysOut split_types split_vars a → IsSplit a
  split-there laid = record { nowhere = nowhere; truth = laid.variables (var_id 0) }
    where
      nowhere : (t : ℕ) (p : Position) → t < 3 → IsTrue (a t p) → ⊥
      nowhere zero p below on = no-cell laid (type_id 0) p (record { index = 0; here = on })
      nowhere (suc zero) p below on = no-cell laid (type_id 0) p (record { index = 1; here = on })
      nowhere (suc (suc zero)) p below on =
          let had = laid.bools (field_in (type_id 0) 0) p on in no-cell laid (type_id 0) p (record { index = had.index; here = had.here })
      nowhere (suc (suc (suc t))) p below on = absurd (omega arith)

  split-cell : IsSplit a → (n i : ℕ) (p : Position) → IsCellOf split_types a (variant_in (type_id n) i) p → ⊥
  split-cell is zero zero p here = is.nowhere 0 p (omega arith) here
  split-cell is zero (suc zero) p here = is.nowhere 1 p (omega arith) here
  split-cell is zero (suc (suc i)) p here =
      absurd (let known : suc (suc i) < 2 = cell-known split_types a (variant_in (type_id 0) (suc (suc i))) p here in omega (arith, known))
  split-cell is (suc n) i p here =
      absurd (let known : i < 0 = cell-known split_types a (variant_in (type_id (suc n)) i) p here in omega (arith, known))

  split-bool : IsSplit a → (n k : ℕ) (p : Position) → IsTrueAt split_types a (field_in (type_id n) k) p → ⊥
  split-bool is zero zero p on = is.nowhere 2 p (omega arith) on
  split-bool is zero (suc k) p on = on
  split-bool is (suc n) k p on = on

  split-back : IsSplit a → LaysOut split_types split_vars a
  split-back is = record {
    placed = λ ty p cell. absurd (split-cell is ty.0 cell.index p cell.here);
    apart = λ v w p same one other. absurd (split-cell is v.ty.0 v.index p one);
    bools = λ f p on. absurd (split-bool is f.ty.0 f.index p on);
    variables = λ v. variables v.0;
  }
    where
      variables : (n : ℕ) → IfSome (var_at split_vars (var_id n)) (λ entry. IfSome (var_track split_types split_vars (var_id n)) (λ x.
          VarLaysOut split_types a (unwrap_or (slot_of_var split_vars (var_id n)) 0) x.0 entry.kind))
      variables zero = is.truth
      variables (suc n) = tt

pub list-laid_out : (a : Assignment) → LaysOut list_types list_vars a ↔ IsList a
list-laid_out a = (list-there a, list-back a)

pub split-laid_out : (a : Assignment) → LaysOut split_types split_vars a ↔ IsSplit a
split-laid_out a = (split-there a, split-back a)
