-- Every store has one whose pointer fields are set.
use Rattle.std.proofs.Common.{◌≡◌, ◌↔◌, ℕ, zero, suc, ◌+◌, ◌<◌, ◌≤◌, List, [], ◌∷◌, ◌++◌, length, slice_get, Option, Some, None, IsSome, IsSomeAnd, option_map}
use Rattle.std.proofs.Common.{refl, sym, ap, ◌∙◌, subst, arith}
use Rattle.std.specs.Prelude.{is_some}
use Rattle.std.specs.FinMap.{keys}
use Rattle.store_core.specs.declared.ids.TypeId.{TypeId}
use Rattle.store_core.specs.declared.ids.FieldId.{FieldId}
use Rattle.store_core.specs.declared.ids.CellId.{CellId}
use Rattle.store_core.specs.declared.kind.FieldKind.{FieldKind}
use Rattle.store_core.specs.declared.kind.FieldKind.TheVariants as field
use Rattle.store_core.specs.declared.value.Value.{Value}
use Rattle.store_core.specs.declared.value.Value.TheVariants as value
use Rattle.store_core.specs.Tables.{TypeEntry, FieldEntry, fields_of, field_at}
use Rattle.store_core.specs.Stores.{StoreMap, CellEntry, cell_of, field_value, set_field}
use Rattle.routing_walks.specs.Destinations.{Dest, IsPointer}
use Rattle.routing_walks.specs.Gathering.{Gathers, Before, HasAll}
use Rattle.routing_walks.proofs.GatheringLemmas.{Gathers-none, Gathers-start, Gathers-next, Gathers-push, Gathers-alike, HasAll-gathered, HasAll-alike}
use Rattle.routing_walks.proofs.DecidedStores.{dests}
use Rattle.witness_store.specs.declared.finding.Pointing.{Pointing}
use Rattle.witness_store.specs.Pointers.{IsPointerField, DoCellsFit}
use Rattle.witness_store.specs.PointerFinding.{IsPointing}
use Rattle.witness_store.specs.Setting.{IsSetFrom}
use Rattle.witness_store.proofs.FindingLemmas.{pointing_found, PointingAt, PointingAt-some, PointingAt-none, PointingAt-all, PointingAt-dead, PointingOf}
use Rattle.witness_store.proofs.FindingLemmas.{PointingOf-cell, PointingOf-all}
use Rattle.witness_store.proofs.SettingLemmas.{only_listed, AreSetBefore, set_start, AreSetBefore-next, ArePointersSet-all}

held : (o : Option Value) → IsSome o → (x : Value) × (o ≡ Some x)
held None h = absurd (cc)
held (Some x) h = (x, refl)

present : {X : Type 0} (xs : List X) (k : ℕ) → k < length xs → (x : X) × (slice_get xs k ≡ Some x)
present [] k less = absurd (omega arith)
present (x ∷ xs) zero less = (x, refl)
present (x ∷ xs) (suc k) less = present xs k (omega arith)

module _ (types : List TypeEntry) (s : StoreMap) (fits : DoCellsFit types s) where
  -- the field of a cell has to hold this, or nothing
  record Decides (c : CellId) (f : FieldId) : Type 0 where
    to : Option Pointing
    is : (x : Pointing) → (to ≡ Some x) ↔ ((x.cell ≡ c) × (x.field ≡ f) × IsPointing types s x)

  decides_none : (c : CellId) (f : FieldId) → ((x : Pointing) → x.cell ≡ c → x.field ≡ f → IsPointing types s x → ⊥) → Decides c f
  decides_none c f no_such = record { to = None; is = λ x. ((λ e. absurd (cc)), (λ h. absurd (no_such x h.0 h.1 h.2))) }

  decides_held : (c : CellId) (f : FieldId) → IsPointerField types f → (o : Option Value) → field_value s c f ≡ o → Decides c f
  decides_held c f pointer None at =
      decides_none c f (λ x cell field is. lost (subst (λ d. IsSome (field_value s d f)) cell (subst (λ g. IsSome (field_value s x.cell g)) field is.has)))
    where
      lost : IsSome (field_value s c f) → ⊥
      lost some = let (x, there) = held (field_value s c f) some in none_some x (sym at ∙ there)
        where
          none_some : (x : Value) → None ≡ Some x → ⊥
          none_some x e = cc
  decides_held c f pointer (Some x) at =
      let list = dests types s c f in
      let only = only_listed (Dest types s c f) list.0 list.1 in
      record {
        to = Some (record { cell = c; field = f; to = only.0 });
        is = λ y. pointing_found types s c f only.0 y (record { kind = pointer; has = ap is_some at; to = only.1 });
      }

  not_pointer : (f : FieldId) (e : FieldEntry) (k : FieldKind) → field_at types f ≡ Some e → e.kind ≡ k → (IsPointer k → ⊥) → IsPointerField types f → ⊥
  not_pointer f e k there is never pointer = never (subst IsPointer is (subst (λ o. IsSomeAnd o (λ entry. IsPointer entry.kind)) there pointer))

  decides_kind : (c : CellId) (f : FieldId) (e : FieldEntry) → field_at types f ≡ Some e → (k : FieldKind) → e.kind ≡ k → Decides c f
  decides_kind c f e there field.Bool is =
      decides_none c f (λ x cell along pointing. not_pointer f e field.Bool there is (λ h. h) (subst (IsPointerField types) along pointing.kind))
  decides_kind c f e there (field.Data ty) is =
      decides_none c f (λ x cell along pointing. not_pointer f e (field.Data ty) there is (λ h. h) (subst (IsPointerField types) along pointing.kind))
  decides_kind c f e there (field.Pointer ty along) is =
      decides_held c f (subst (λ o. IsSomeAnd o (λ entry. IsPointer entry.kind)) (sym there) (subst IsPointer (sym is) tt)) (field_value s c f) refl

  decides : (c : CellId) (f : FieldId) → Decides c f
  decides c f = by (field_at types f) refl
    where
      by : (o : Option FieldEntry) → field_at types f ≡ o → Decides c f
      by None there = decides_none c f (λ x cell along pointing. subst (λ o. IsSomeAnd o (λ entry. IsPointer entry.kind)) there
          (subst (IsPointerField types) along pointing.kind))
      by (Some e) there = decides_kind c f e there e.kind refl

  -- ---- all pointer fields

  next_of : (n : ℕ) → n + 1 ≡ suc n
  next_of n = omega arith

  of_fields : (c : CellId) (ty : TypeId) (n : ℕ) (xs : List Pointing) → (ys : List Pointing) × Gathers xs ys (Before (PointingAt types s c ty) n)
  of_fields c ty zero xs = (xs, Gathers-start (PointingAt types s c ty) xs)
  of_fields c ty (suc n) xs = by (of_fields c ty n xs) (decides c (record { ty = ty; index = n }))
    where
      by : (ys : List Pointing) × Gathers xs ys (Before (PointingAt types s c ty) n) → Decides c (record { ty = ty; index = n }) →
          (ys : List Pointing) × Gathers xs ys (Before (PointingAt types s c ty) (suc n))
      by rest decided = go decided.to refl
        where
          go : (o : Option Pointing) → decided.to ≡ o → (ys : List Pointing) × Gathers xs ys (Before (PointingAt types s c ty) (suc n))
          go None is = (
            rest.0,
            subst (λ m. Gathers xs rest.0 (Before (PointingAt types s c ty) m)) (next_of n)
                (Gathers-next (PointingAt types s c ty) n xs rest.0 rest.0 rest.1
                (Gathers-none rest.0 (PointingAt types s c ty n) (PointingAt-none types s c ty n decided.to decided.is is))),
          )
          go (Some y) is = (
            rest.0 ++ y ∷ [],
            subst (λ m. Gathers xs (rest.0 ++ y ∷ []) (Before (PointingAt types s c ty) m)) (next_of n)
                (Gathers-next (PointingAt types s c ty) n xs rest.0 (rest.0 ++ y ∷ []) rest.1
                (Gathers-alike rest.0 (rest.0 ++ y ∷ []) (λ x. x ≡ y) (PointingAt types s c ty n) (Gathers-push rest.0 y)
                (PointingAt-some types s c ty n decided.to decided.is y is))),
          )

  of_cell : (c : CellId) (xs : List Pointing) → (ys : List Pointing) × Gathers xs ys (λ x. (x.cell ≡ c) × IsPointing types s x)
  of_cell c xs = by (cell_of s c) refl
    where
      by : (o : Option CellEntry) → cell_of s c ≡ o → (ys : List Pointing) × Gathers xs ys (λ x. (x.cell ≡ c) × IsPointing types s x)
      by None at = (
        xs,
        Gathers-none xs (λ x. (x.cell ≡ c) × IsPointing types s x)
            (PointingAt-dead types s c (ap (option_map (λ (cell : CellEntry). cell.variant.ty)) (sym at))),
      )
      by (Some cell) at =
          let ty = cell.variant.ty in
          let n = length (fields_of types ty) in
          let rest = of_fields c ty n xs in (
            rest.0,
            Gathers-alike xs rest.0 (Before (PointingAt types s c ty) n) (λ x. (x.cell ≡ c) × IsPointing types s x) rest.1
                (PointingAt-all types s c ty n (ap (option_map (λ (e : CellEntry). e.variant.ty)) (sym at)) (omega arith)),
          )

  of_cells : (n : ℕ) → (ys : List Pointing) × Gathers [] ys (Before (PointingOf types s) n)
  of_cells zero = ([], Gathers-start (PointingOf types s) [])
  of_cells (suc n) = by (of_cells n) (slice_get (keys s.cells) n) refl
    where
      none_some : (k : ℕ) → None ≡ Some k → ⊥
      none_some k e = cc

      by : (ys : List Pointing) × Gathers [] ys (Before (PointingOf types s) n) → (o : Option ℕ) → slice_get (keys s.cells) n ≡ o →
          (ys : List Pointing) × Gathers [] ys (Before (PointingOf types s) (suc n))
      by rest None at = (
        rest.0,
        subst (λ m. Gathers [] rest.0 (Before (PointingOf types s) m)) (next_of n)
            (Gathers-next (PointingOf types s) n [] rest.0 rest.0 rest.1
            (Gathers-none rest.0 (PointingOf types s n) (λ x h. none_some x.cell.0 (sym at ∙ h.at)))),
      )
      by rest (Some k) at =
          let c : CellId = record { 0 = k } in
          let more = of_cell c rest.0 in (
            more.0,
            subst (λ m. Gathers [] more.0 (Before (PointingOf types s) m)) (next_of n)
                (Gathers-next (PointingOf types s) n [] rest.0 more.0 rest.1
                (Gathers-alike rest.0 more.0 (λ x. (x.cell ≡ c) × IsPointing types s x) (PointingOf types s n) more.1
                (PointingOf-cell types s n c (ap (option_map (λ number. record { 0 = number })) (sym at))))),
          )

  all_pointings : (ys : List Pointing) × HasAll ys (IsPointing types s)
  all_pointings =
      let n = length (keys s.cells) in
      let rest = of_cells n in (
        rest.0,
        HasAll-alike rest.0 (Before (PointingOf types s) n) (IsPointing types s) (HasAll-gathered rest.0 (Before (PointingOf types s) n) rest.1)
            (PointingOf-all types s n (omega arith)),
      )

  set_first : (found : List Pointing) → HasAll found (IsPointing types s) → (n : ℕ) → n ≤ length found → (t : StoreMap) × AreSetBefore types s found n t
  set_first found all zero le = (s, set_start types s found fits)
  set_first found all (suc n) le =
      let rest = set_first found all n (omega arith) in
      let (x, at) = present found n (omega arith) in (
        set_field rest.0 x.cell x.field (value.Cell x.to),
        subst (λ m. AreSetBefore types s found m (set_field rest.0 x.cell x.field (value.Cell x.to))) (next_of n)
            (AreSetBefore-next types s found all n x at rest.0 rest.1),
      )

  pub set_store : (t : StoreMap) × IsSetFrom types s t
  set_store =
      let all = all_pointings in
      let rest = set_first all.0 all.1 (length all.0) (omega arith) in (
        rest.0,
        record {
          same = rest.1.kept;
          pointers = ArePointersSet-all types s all.0 fits all.1 (length all.0) (omega arith) rest.0 rest.1;
          fits = rest.1.fits;
          fresh = rest.1.fresh;
        },
      )
