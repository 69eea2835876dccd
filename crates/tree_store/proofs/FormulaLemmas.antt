-- The formula is satisfied exactly where a backbone is laid out.
use Rattle.std.proofs.Common.{◌≡◌, ℕ, ◌<◌, ◌≤◌, ◌+◌, take, ◌↔◌, ◌⊎◌, inl, inr, cond, nat_lt, IsTrue, IfSome, List, [], ◌∷◌, ◌++◌, length, flat_map, unwrap_or}
use Rattle.std.proofs.Common.{Some, None, Contains, sym, ap, subst, arith}
use Rattle.std.proofs.lemmas.Bool.{cases_order, lt-ltb, ltb-true}
use Rattle.std.proofs.lemmas.Option.{slice_get_within}
use Rattle.std.proofs.lemmas.List.Elements.{All-contains, Contains-append_left, Contains-append_right, Contains-append_cases}
use Rattle.gta_theory.specs.Assignments.{Position, Assignment, IsFinite}
use Rattle.gta_theory.proofs.ListsLemmas.{Contains-first, Contains-later, Contains-cases, Contains-flat_map, All-from_contains}
use Rattle.ws2s_core.specs.declared.track.Track.{Track}
use Rattle.ws2s_core.specs.declared.formula.Formula.{Formula}
use Rattle.ws2s_core.specs.Satisfaction.{WSat}
use Rattle.ws2s_forms.proofs.LawsLemmas.{law-and_list}
use Rattle.store_core.specs.declared.ids.TypeId.{TypeId}
use Rattle.store_core.specs.declared.ids.VariantId.{VariantId}
use Rattle.store_core.specs.declared.ids.FieldId.{FieldId}
use Rattle.store_core.specs.declared.ids.VarId.{VarId}
use Rattle.store_core.specs.Tables.{TypeEntry, FieldEntry, VarEntry, fields_of, field_at, var_at, variant_count}
use Rattle.store_core.proofs.FittingLemmas.{IfSome-from, IfSome-at, IsSomeAnd-at}
use Rattle.tree_encode.specs.declared.counting.Counted.TheVariants.{Bools}
use Rattle.tree_encode.specs.Counting.{is_counted, rank, variants_in, bools_in}
use Rattle.tree_encode.specs.Tracks.{of_bool, of_var, track_count, track_at, bool_track, var_track, slot_of_var}
use Rattle.tree_encode.proofs.TracksLemmas.{and_then-some}
use Rattle.tree_store.proofs.SpotsLemmas.{of-some}
use Rattle.tree_formula.specs.WellEncoded.{type_id, variant_in, field_in, var_id, types_in, variants_of, fields_in, vars_in, track_or_first, are_reached}
use Rattle.tree_formula.specs.WellEncoded.{is_had, field_part, type_parts, var_part, var_parts, are_apart, apart_pair, apart_from_later, apart_parts, parts}
use Rattle.tree_formula.specs.WellEncoded.{well_encoded}
use Rattle.tree_store.specs.Shapes.{IsCellOf, IsCellIn, HasFieldAt, IsTrueAt, IsSlotFor, IsChildFor, VarLaysOut, LaysOut}
use Rattle.tree_store.specs.Premises.{OwnersAreThere}
use Rattle.tree_store.proofs.ListsLemmas.{Contains-named, named-inside, flat_map-inside, Contains-one, cond-inside, listed-inside, Contains-listed}
use Rattle.tree_store.proofs.TablesLemmas.{number_of_var, cell-known, track-few, var-there, type-known, field-known}
use Rattle.tree_store.proofs.PlacesLemmas.{are_reached-means}
use Rattle.tree_store.proofs.WithinLemmas.{is_had-means}
use Rattle.tree_store.proofs.VarsLemmas.{var_part-means}
use Rattle.tree_store.proofs.VariantsLemmas.{are_apart-means}

-- a field with a track is there
bool-there : (types : List TypeEntry) (f : FieldId) (t : Track) → bool_track types f ≡ Some t → (entry : FieldEntry) × (field_at types f ≡ Some entry)
bool-there types f t is =
    let (entry, there, then) = and_then-some
    (λ (e : FieldEntry). cond (is_counted Bools e) (Some (track_at (variants_in types + (bools_in (take f.ty.0 types) + rank Bools types f)))) None)
    (field_at types f) t is in
    (entry, there)

module _ (types : List TypeEntry) (vars : List VarEntry) (owners : OwnersAreThere types) (a : Assignment) (next : ℕ)
    (few : track_count types vars ≤ next) (finite : IsFinite a) where
  abbrev of_types : List Formula
  of_types = flat_map (type_parts next types vars) (types_in types)

  abbrev of_vars : List Formula
  of_vars = flat_map (var_parts next types vars) (vars_in vars)

  abbrev of_variants : List Formula
  of_variants = flat_map (apart_parts next types) (types_in types)

  -- ---- each part is in the list

  type-listed : (ty : TypeId) → ty.0 < length types → (f : Formula) → Contains (type_parts next types vars ty) f → Contains (parts next types vars) f
  type-listed ty known f h =
      Contains-append_left of_types (of_vars ++ of_variants) f
      (Contains-flat_map (type_parts next types vars) (types_in types) ty f (Contains-named type_id (length types) ty.0 known) h)

  reached-listed : (ty : TypeId) → ty.0 < length types → Contains (parts next types vars) (are_reached next types vars ty)
  reached-listed ty known =
      type-listed ty known (are_reached next types vars ty)
      (Contains-first (are_reached next types vars ty) (flat_map (field_part next types) (fields_in types ty)))

  had-listed : (f : FieldId) (entry : FieldEntry) (t : Track) → field_at types f ≡ Some entry → bool_track types f ≡ Some t →
      Contains (parts next types vars) (is_had next types f t)
  had-listed f entry t there is =
      let (typed, inside) = field-known types f entry there in
      type-listed f.ty typed (is_had next types f t)
      (Contains-later (are_reached next types vars f.ty) (is_had next types f t) (flat_map (field_part next types) (fields_in types f.ty))
      (Contains-flat_map (field_part next types) (fields_in types f.ty) f (is_had next types f t)
      (Contains-named (field_in f.ty) (length (fields_of types f.ty)) f.index inside)
      (Contains-listed (λ b. is_had next types f b ∷ []) (bool_track types f) t (is_had next types f t) is (Contains-first (is_had next types f t) []))))

  var-listed : (v : VarId) (entry : VarEntry) → var_at vars v ≡ Some entry →
      Contains (parts next types vars) (var_part next types (unwrap_or (slot_of_var vars v) 0) (track_or_first (var_track types vars v)) entry.kind)
  var-listed v entry there =
      let part = λ (e : VarEntry). var_part next types (unwrap_or (slot_of_var vars v) 0) (track_or_first (var_track types vars v)) e.kind in
      Contains-append_right of_types (of_vars ++ of_variants) (part entry)
      (Contains-append_left of_vars of_variants (part entry)
      (Contains-flat_map (var_parts next types vars) (vars_in vars) v (part entry)
      (Contains-named var_id (length vars) v.0 (slice_get_within vars v.0 entry there))
      (Contains-listed (λ e. part e ∷ []) (var_at vars v) entry (part entry) there (Contains-first (part entry) []))))

  apart-listed : (v w : VariantId) → v.ty ≡ w.ty → v.index < variant_count types v.ty → w.index < variant_count types w.ty → v.index < w.index →
      Contains (parts next types vars) (are_apart next types v w)
  apart-listed v w same of_v of_w later =
      let f = are_apart next types v w in
      let pair : Contains (apart_pair next types v w) f =
      subst (λ b. Contains (cond b (f ∷ []) []) f) (sym (lt-ltb v.index w.index later)) (Contains-first f []) in
      let among : Contains (variants_of types v.ty) w =
      subst (λ ty. Contains (variants_of types ty) w) (sym same) (Contains-named (variant_in w.ty) (variant_count types w.ty) w.index of_w) in
      Contains-append_right of_types (of_vars ++ of_variants) f
      (Contains-append_right of_vars of_variants f
      (Contains-flat_map (apart_parts next types) (types_in types) v.ty f
      (Contains-named type_id (length types) v.ty.0 (type-known types v.ty v.index of_v))
      (Contains-flat_map (apart_from_later next types) (variants_of types v.ty) v f
      (Contains-named (variant_in v.ty) (variant_count types v.ty) v.index of_v)
      (Contains-flat_map (apart_pair next types v) (variants_of types v.ty) w f among pair))))

  -- ---- where all parts are satisfied

  module _ (each : (f : Formula) → Contains (parts next types vars) f → WSat f a) where
    is-placed : (ty : TypeId) (p : Position) → IsCellIn types a ty p → IsSlotFor vars ty p ⊎ IsChildFor types a ty p
    is-placed ty p cell =
        let known = type-known types ty cell.index (cell-known types a (variant_in ty cell.index) p cell.here) in
        (are_reached-means types vars owners a next few finite ty).0 (each (are_reached next types vars ty) (reached-listed ty known)) p cell

    is-apart : (v w : VariantId) (p : Position) → v.ty ≡ w.ty → IsCellOf types a v p → IsCellOf types a w p → v ≡ w
    is-apart v w p same one other =
        let of_v = cell-known types a v p one in
        let of_w = cell-known types a w p other in
        elim (cases_order v.index w.index) as (λ _. v ≡ w) [
          | inl index ↦ (λ i. record { ty = same i; index = index i })
          | inr differ ↦ elim differ as (λ _. v ≡ w) [
            | inl less ↦ absurd ((are_apart-means types vars a next few finite v w of_v of_w).0
                (each (are_apart next types v w) (apart-listed v w same of_v of_w less)) p one other)
            | inr more ↦ absurd ((are_apart-means types vars a next few finite w v of_w of_v).0
                (each (are_apart next types w v) (apart-listed w v (sym same) of_w of_v more)) p other one)
          ]
        ]

    bool-had : (f : FieldId) (p : Position) → IsTrueAt types a f p → HasFieldAt types a f p
    bool-had f p on =
        let (t, is, true_at) = IsSomeAnd-at (bool_track types f) (λ u. IsTrue (a u.0 p)) on in
        let (entry, there) = bool-there types f t is in
        (is_had-means types vars a next few finite t (track-few types vars (of_bool f) t is) f entry owners there).0
        (each (is_had next types f t) (had-listed f entry t there is)) p true_at

    var-laid : (v : VarId) → IfSome (var_at vars v) (λ entry. IfSome (var_track types vars v) (λ x.
        VarLaysOut types a (unwrap_or (slot_of_var vars v) 0) x.0 entry.kind))
    var-laid v =
        IfSome-from (var_at vars v) (λ entry. IfSome (var_track types vars v) (λ x. VarLaysOut types a (unwrap_or (slot_of_var vars v) 0) x.0 entry.kind))
        (λ entry there. IfSome-from (var_track types vars v) (λ x. VarLaysOut types a (unwrap_or (slot_of_var vars v) 0) x.0 entry.kind) (λ x is.
        (var_part-means types vars a next few finite x (track-few types vars (of_var v) x is) (unwrap_or (slot_of_var vars v) 0) entry.kind).0
        (subst (λ o. WSat (var_part next types (unwrap_or (slot_of_var vars v) 0) (track_or_first o) entry.kind) a) is
        (each (var_part next types (unwrap_or (slot_of_var vars v) 0) (track_or_first (var_track types vars v)) entry.kind) (var-listed v entry there)))))

    all-laid : LaysOut types vars a
    all-laid = record { placed = is-placed; apart = is-apart; bools = bool-had; variables = var-laid }

  -- ---- where a backbone is laid out

  module _ (laid : LaysOut types vars a) where
    type-holds : (ty : TypeId) (f : Formula) → Contains (type_parts next types vars ty) f → WSat f a
    type-holds ty f h =
        elim (Contains-cases (are_reached next types vars ty) f (flat_map (field_part next types) (fields_in types ty)) h) as (λ _. WSat f a) [
          | inl is ↦ subst (λ g. WSat g a) is ((are_reached-means types vars owners a next few finite ty).1 (laid.placed ty))
          | inr later ↦ (
              let (field, among, of_field) = flat_map-inside (field_part next types) (fields_in types ty) f later in
              let (t, is, at) = listed-inside (λ b. is_had next types field b ∷ []) (bool_track types field) f of_field in
              let (entry, there) = bool-there types field t is in
              subst (λ g. WSat g a) (Contains-one (is_had next types field t) f at)
              ((is_had-means types vars a next few finite t (track-few types vars (of_bool field) t is) field entry owners there).1
              (λ p on. laid.bools field p (of-some (λ u. IsTrue (a u.0 p)) (bool_track types field) t is on))))
        ]

    var-holds : (v : VarId) (f : Formula) → Contains (var_parts next types vars v) f → WSat f a
    var-holds v f h =
        let part = λ (e : VarEntry). var_part next types (unwrap_or (slot_of_var vars v) 0) (track_or_first (var_track types vars v)) e.kind in
        let (entry, there, at) = listed-inside (λ e. part e ∷ []) (var_at vars v) f h in
        let x = track_at (number_of_var types v) in
        let is = var-there types vars v entry there in
        let lays : VarLaysOut types a (unwrap_or (slot_of_var vars v) 0) x.0 entry.kind =
        IfSome-at (var_track types vars v) (λ y. VarLaysOut types a (unwrap_or (slot_of_var vars v) 0) y.0 entry.kind) x is
        (IfSome-at (var_at vars v) (λ e. IfSome (var_track types vars v) (λ y. VarLaysOut types a (unwrap_or (slot_of_var vars v) 0) y.0 e.kind)) entry there
        (laid.variables v)) in
        subst (λ g. WSat g a) (Contains-one (part entry) f at)
        (subst (λ o. WSat (var_part next types (unwrap_or (slot_of_var vars v) 0) (track_or_first o) entry.kind) a) (sym is)
        ((var_part-means types vars a next few finite x (track-few types vars (of_var v) x is) (unwrap_or (slot_of_var vars v) 0) entry.kind).1 lays))

    apart-holds : (ty : TypeId) (f : Formula) → Contains (apart_parts next types ty) f → WSat f a
    apart-holds ty f h =
        let (v, among, of_v) = flat_map-inside (apart_from_later next types) (variants_of types ty) f h in
        let (i, of_i, v_is) = named-inside (variant_in ty) (variant_count types ty) v among in
        let (w, also, of_w) = flat_map-inside (apart_pair next types v) (variants_of types v.ty) f of_v in
        let (j, of_j, w_is) = named-inside (variant_in v.ty) (variant_count types v.ty) w also in
        let (less, is) = cond-inside (nat_lt v.index w.index) (are_apart next types v w) f of_w in
        let below = ltb-true v.index w.index less in
        let v_known : v.index < variant_count types v.ty = subst (λ (u : VariantId). u.index < variant_count types u.ty) v_is of_i in
        let w_known : w.index < variant_count types w.ty = subst (λ (u : VariantId). u.index < variant_count types u.ty) w_is of_j in
        let same : v.ty ≡ w.ty = ap (λ (u : VariantId). u.ty) w_is in
        subst (λ g. WSat g a) is ((are_apart-means types vars a next few finite v w v_known w_known).1 (λ p one other.
        let index : v.index ≡ w.index = ap (λ (u : VariantId). u.index) (laid.apart v w p same one other) in
        let none : ⊥ = omega (arith, index, below) in none))

    each-holds : (f : Formula) → Contains (parts next types vars) f → WSat f a
    each-holds f h =
        elim (Contains-append_cases of_types (of_vars ++ of_variants) f h) as (λ _. WSat f a) [
          | inl first ↦ (let (ty, among, at) = flat_map-inside (type_parts next types vars) (types_in types) f first in type-holds ty f at)
          | inr later ↦ elim (Contains-append_cases of_vars of_variants f later) as (λ _. WSat f a) [
            | inl second ↦ (let (v, among, at) = flat_map-inside (var_parts next types vars) (vars_in vars) f second in var-holds v f at)
            | inr third ↦ (let (ty, among, at) = flat_map-inside (apart_parts next types) (types_in types) f third in apart-holds ty f at)
          ]
        ]

  pub well_encoded-means : WSat (well_encoded next types vars) a ↔ LaysOut types vars a
  well_encoded-means =
      let all = law-and_list next (parts next types vars) a in (
        (λ h. all-laid (λ f listed. All-contains (λ g. WSat g a) (parts next types vars) f (all.0 h) listed)),
        (λ laid. all.1 (All-from_contains (λ g. WSat g a) (parts next types vars) (each-holds laid))),
      )
