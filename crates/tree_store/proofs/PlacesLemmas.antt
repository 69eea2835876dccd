-- The places where a cell of a type may stand: slots, and children of cells.
use Rattle.std.proofs.Common.{◌≡◌, ℕ, suc, ◌<◌, ◌≤◌, ◌↔◌, ◌⊎◌, inl, inr, cond, ◌==◌, List, [], ◌∷◌, length, flat_map, Option, Some, None, Contains, refl, sym}
use Rattle.std.proofs.Common.{ap, ◌∙◌, subst, arith}
use Rattle.std.proofs.lemmas.Bool.{eqb-true, eq-eqb}
use Rattle.std.proofs.lemmas.Option.{slice_get_within}
use Rattle.std.proofs.lemmas.List.Elements.{Contains-append_left, Contains-append_right, Contains-append_cases}
use Rattle.gta_theory.specs.Assignments.{Position, Assignment, IsFinite}
use Rattle.gta_theory.proofs.ListsLemmas.{Contains-first, Contains-none, Contains-flat_map}
use Rattle.ws2s_core.specs.declared.formula.Formula.{Formula}
use Rattle.ws2s_core.specs.declared.formula.Formula.TheVariants.{And}
use Rattle.ws2s_core.specs.Satisfaction.{WSat}
use Rattle.ws2s_core.proofs.SatisfactionLemmas.{WSat-And}
use Rattle.ws2s_forms.specs.Forms.{or_list, imp, child, slot}
use Rattle.ws2s_forms.specs.Places.{with_position, child_of, slot_of}
use Rattle.ws2s_forms.proofs.PositionsLemmas.{IsOnly-same, IsOnly-along}
use Rattle.ws2s_forms.proofs.GoingLemmas.{WSat-go, WSat-slot}
use Rattle.ws2s_forms.proofs.LawsLemmas.{law-ex1, law-all1, law-imp, law-or_list}
use Rattle.store_core.specs.declared.ids.TypeId.{TypeId}
use Rattle.store_core.specs.declared.ids.FieldId.{FieldId}
use Rattle.store_core.specs.declared.kind.FieldKind.{FieldKind}
use Rattle.store_core.specs.declared.kind.FieldKind.TheVariants as field
use Rattle.store_core.specs.declared.kind.VarKind.{VarKind}
use Rattle.store_core.specs.declared.kind.VarKind.TheVariants as var
use Rattle.store_core.specs.Tables.{TypeEntry, FieldEntry, VarEntry, fields_of, field_at, var_at}
use Rattle.store_core.proofs.FittingLemmas.{IsSomeAnd-at}
use Rattle.tree_encode.specs.Tracks.{track_count, slot_of_var, child_number}
use Rattle.tree_store.proofs.SpotsLemmas.{of-some}
use Rattle.tree_formula.specs.WellEncoded.{type_id, field_in, var_id, types_in, fields_in, vars_in, is_live, has, at_slot, is_child, at_child, slot_places}
use Rattle.tree_formula.specs.WellEncoded.{child_places, places_below, places, are_reached}
use Rattle.tree_store.specs.Shapes.{IsCellIn, HasFieldAt, IsSlotFor, IsChildFor}
use Rattle.tree_store.specs.Premises.{OwnersAreThere}
use Rattle.tree_store.proofs.ListsLemmas.{Contains-named, flat_map-inside, cond-inside, listed-inside, Contains-listed}
use Rattle.tree_store.proofs.TablesLemmas.{field-known}
use Rattle.tree_store.proofs.StandingLemmas.{StandsOn, StandsOn-bound, StandsOn-further, StandsOn-still, has-means, is_live-means}

pub type-one : (target ty : TypeId) → target.0 ≡ ty.0 → target ≡ ty
type-one target ty e = ap (λ (n : ℕ). type_id n) e

-- ---- what the lists of places have

slot-inside : (next : ℕ) (vars : List VarEntry) (ty : TypeId) (x : ℕ) (kind : VarKind) (number : Option ℕ) (f : Formula) →
    Contains (at_slot next vars ty x kind number) f → (i : ℕ) × (kind ≡ var.Data ty) × (number ≡ Some i) × (slot next i x ≡ f)
slot-inside next vars ty x var.Bool number f h = absurd (Contains-none f h)
slot-inside next vars ty x (var.Data target) None f h = absurd (Contains-none f h)
slot-inside next vars ty x (var.Data target) (Some i) f h =
    let (same, is) = cond-inside (target.0 == ty.0) (slot next i x) f h in
    (i, ap (λ t. var.Data t) (type-one target ty (eqb-true target.0 ty.0 same)), refl, is)
slot-inside next vars ty x (var.Pointer target) number f h = absurd (Contains-none f h)
slot-inside next vars ty x (var.LogicSet target) number f h = absurd (Contains-none f h)
slot-inside next vars ty x var.LogicBool number f h = absurd (Contains-none f h)

Contains-slot : (next : ℕ) (vars : List VarEntry) (ty : TypeId) (x : ℕ) (kind : VarKind) (number : Option ℕ) (i : ℕ) → kind ≡ var.Data ty →
    number ≡ Some i → Contains (at_slot next vars ty x kind number) (slot next i x)
Contains-slot next vars ty x kind number i is numbered =
    subst (λ k. Contains (at_slot next vars ty x k number) (slot next i x)) (sym is)
    (subst (λ n. Contains (at_slot next vars ty x (var.Data ty) n) (slot next i x)) (sym numbered)
    (subst (λ b. Contains (cond b (slot next i x ∷ []) []) (slot next i x)) (sym (eq-eqb ty.0 ty.0 refl)) (Contains-first (slot next i x) [])))

child-inside : (next : ℕ) (types : List TypeEntry) (ty : TypeId) (x : ℕ) (along : FieldId) (kind : FieldKind) (number : Option ℕ) (f : Formula) →
    Contains (at_child next types ty x along kind number) f → (j : ℕ) × (kind ≡ field.Data ty) × (number ≡ Some j) × (is_child next types x along j ≡ f)
child-inside next types ty x along field.Bool number f h = absurd (Contains-none f h)
child-inside next types ty x along (field.Data target) None f h = absurd (Contains-none f h)
child-inside next types ty x along (field.Data target) (Some j) f h =
    let (same, is) = cond-inside (target.0 == ty.0) (is_child next types x along j) f h in
    (j, ap (λ t. field.Data t) (type-one target ty (eqb-true target.0 ty.0 same)), refl, is)
child-inside next types ty x along (field.Pointer target route) number f h = absurd (Contains-none f h)

Contains-child : (next : ℕ) (types : List TypeEntry) (ty : TypeId) (x : ℕ) (along : FieldId) (kind : FieldKind) (number : Option ℕ) (j : ℕ) →
    kind ≡ field.Data ty → number ≡ Some j → Contains (at_child next types ty x along kind number) (is_child next types x along j)
Contains-child next types ty x along kind number j is numbered =
    subst (λ k. Contains (at_child next types ty x along k number) (is_child next types x along j)) (sym is)
    (subst (λ n. Contains (at_child next types ty x along (field.Data ty) n) (is_child next types x along j)) (sym numbered)
    (subst (λ b. Contains (cond b (is_child next types x along j ∷ []) []) (is_child next types x along j)) (sym (eq-eqb ty.0 ty.0 refl))
    (Contains-first (is_child next types x along j) [])))

-- ---- one position in a place

module _ (types : List TypeEntry) (vars : List VarEntry) (owners : OwnersAreThere types) (a b : Assignment) (x : ℕ) (p : Position)
    (stands : StandsOn (track_count types vars) a b x p) (next : ℕ) (few : track_count types vars ≤ next) (below : x < next) where
  -- the child of a cell that has the field
  is_child-means : (along : FieldId) (entry : FieldEntry) (j : ℕ) → field_at types along ≡ Some entry →
      WSat (is_child next types x along j) b ↔ ((q : Position) × HasFieldAt types a along q × (p ≡ child_of j q))
  is_child-means along entry j there =
      let some = law-ex1 next (And (has (suc next) types along next) (child (suc next) j next x)) b in (
        (λ h.
            let (q, holds) = some.0 h in
            let both = (WSat-And (has (suc next) types along next) (child (suc next) j next x) (with_position b next q)).0 holds in
            let bound = StandsOn-further (track_count types vars) a b x p next q few stands in
            let still = StandsOn-still (track_count types vars) a b x p next q few stands below in
            let (u, at_u, at_child) = (WSat-go j (suc next) next x (with_position b next q) (omega arith) (omega (arith, below))).0 both.1 in
            let same : u ≡ q = IsOnly-same (with_position b next q next) u q at_u bound.only in (
              q,
              (has-means types vars a (with_position b next q) next q bound (suc next) along entry owners there).0 both.0,
              IsOnly-same (with_position b next q x) p (child_of j u) still.only at_child ∙ ap (λ w. child_of j w) same,
            )),
        (λ h.
            let q = h.0 in
            let bound = StandsOn-further (track_count types vars) a b x p next q few stands in
            let still = StandsOn-still (track_count types vars) a b x p next q few stands below in
            some.1 (
              q,
              (WSat-And (has (suc next) types along next) (child (suc next) j next x) (with_position b next q)).1 (
                (has-means types vars a (with_position b next q) next q bound (suc next) along entry owners there).1 h.1,
                (WSat-go j (suc next) next x (with_position b next q) (omega arith) (omega (arith, below))).1
                    (q, bound.only, IsOnly-along (with_position b next q x) p (child_of j q) h.2 still.only),
              ),
            )),
      )

  abbrev slots : TypeId → List Formula
  slots ty = flat_map (slot_places next vars ty x) (vars_in vars)

  abbrev children : TypeId → List Formula
  children ty = flat_map (places_below next types ty x) (types_in types)

  -- the slots
  slot-found : (ty : TypeId) (f : Formula) → Contains (slots ty) f → WSat f b → IsSlotFor vars ty p
  slot-found ty f listed holds =
      let (v, among, of_v) = flat_map-inside (slot_places next vars ty x) (vars_in vars) f listed in
      let (entry, there, at) = listed-inside (λ e. at_slot next vars ty x e.kind (slot_of_var vars v)) (var_at vars v) f of_v in
      let (i, kind, number, is) = slot-inside next vars ty x entry.kind (slot_of_var vars v) f at in
      record {
        variable = v;
        kind = of-some (λ e. e.kind ≡ var.Data ty) (var_at vars v) entry there kind;
        slot = i;
        number = number;
        position = IsOnly-same (b x) p (slot_of i) stands.only ((WSat-slot next i x b below).0 (subst (λ g. WSat g b) (sym is) holds));
      }

  slot-holds : (ty : TypeId) → IsSlotFor vars ty p → (f : Formula) × Contains (slots ty) f × WSat f b
  slot-holds ty h =
      let (entry, there, kind) = IsSomeAnd-at (var_at vars h.variable) (λ e. e.kind ≡ var.Data ty) h.kind in (
        slot next h.slot x,
        Contains-flat_map (slot_places next vars ty x) (vars_in vars) h.variable (slot next h.slot x)
            (Contains-named var_id (length vars) h.variable.0 (slice_get_within vars h.variable.0 entry there))
            (Contains-listed (λ e. at_slot next vars ty x e.kind (slot_of_var vars h.variable)) (var_at vars h.variable) entry (slot next h.slot x) there
            (Contains-slot next vars ty x entry.kind (slot_of_var vars h.variable) h.slot kind h.number)),
        (WSat-slot next h.slot x b below).1 (IsOnly-along (b x) p (slot_of h.slot) h.position stands.only),
      )

  -- the children
  child-found : (ty : TypeId) (f : Formula) → Contains (children ty) f → WSat f b → IsChildFor types a ty p
  child-found ty f listed holds =
      let (parent, among, of_parent) = flat_map-inside (places_below next types ty x) (types_in types) f listed in
      let (along, is_field, of_field) = flat_map-inside (child_places next types ty x) (fields_in types parent) f of_parent in
      let (entry, there, at) = listed-inside (λ e. at_child next types ty x along e.kind (child_number types along)) (field_at types along) f of_field in
      let (j, kind, number, is) = child-inside next types ty x along entry.kind (child_number types along) f at in
      let (q, has_it, position) = (is_child-means along entry j there).0 (subst (λ g. WSat g b) (sym is) holds) in
      record {
        along = along;
        kind = of-some (λ e. e.kind ≡ field.Data ty) (field_at types along) entry there kind;
        child = j;
        number = number;
        parent = q;
        has = has_it;
        position = position;
      }

  child-holds : (ty : TypeId) → IsChildFor types a ty p → (f : Formula) × Contains (children ty) f × WSat f b
  child-holds ty h =
      let (entry, there, kind) = IsSomeAnd-at (field_at types h.along) (λ e. e.kind ≡ field.Data ty) h.kind in
      let (typed, inside) = field-known types h.along entry there in
      let f = is_child next types x h.along h.child in (
        f,
        Contains-flat_map (places_below next types ty x) (types_in types) h.along.ty f (Contains-named type_id (length types) h.along.ty.0 typed)
            (Contains-flat_map (child_places next types ty x) (fields_in types h.along.ty) h.along f
            (Contains-named (field_in h.along.ty) (length (fields_of types h.along.ty)) h.along.index inside)
            (Contains-listed (λ e. at_child next types ty x h.along e.kind (child_number types h.along)) (field_at types h.along) entry f there
            (Contains-child next types ty x h.along entry.kind (child_number types h.along) h.child kind h.number))),
        (is_child-means h.along entry h.child there).1 (h.parent, h.has, h.position),
      )

  pub places-mean : (ty : TypeId) → WSat (or_list next (places next types vars ty x)) b ↔ (IsSlotFor vars ty p ⊎ IsChildFor types a ty p)
  places-mean ty =
      let some = law-or_list next (places next types vars ty x) b stands.finite in (
        (λ h.
            let (f, listed, holds) = some.0 h in
            elim (Contains-append_cases (slots ty) (children ty) f listed) as (λ _. IsSlotFor vars ty p ⊎ IsChildFor types a ty p) [
              | inl here ↦ inl (slot-found ty f here holds)
              | inr later ↦ inr (child-found ty f later holds)
            ]),
        (λ h. some.1 (elim h as (λ _. (f : Formula) × Contains (places next types vars ty x) f × WSat f b) [
          | inl in_slot ↦ (let (f, listed, holds) = slot-holds ty in_slot in (f, Contains-append_left (slots ty) (children ty) f listed, holds))
          | inr below_one ↦ (let (f, listed, holds) = child-holds ty below_one in (f, Contains-append_right (slots ty) (children ty) f listed, holds))
        ])),
      )

-- each cell of the type stands in a place
pub are_reached-means : (types : List TypeEntry) (vars : List VarEntry) (owners : OwnersAreThere types) (a : Assignment) (next : ℕ) →
    track_count types vars ≤ next → IsFinite a → (ty : TypeId) →
    WSat (are_reached next types vars ty) a ↔ ((p : Position) → IsCellIn types a ty p → IsSlotFor vars ty p ⊎ IsChildFor types a ty p)
are_reached-means types vars owners a next few finite ty = (
  (λ h p cell.
      (reached p).0 ((follows p).0 (each.0 h p) ((live p).1 cell))),
  (λ h. each.1 (λ p. (follows p).1 (λ cell. (reached p).1 (h p ((live p).0 cell))))),
)
  where
    bound : (p : Position) → StandsOn (track_count types vars) a (with_position a next p) next p
    bound p = StandsOn-bound (track_count types vars) a next p few finite

    live : (p : Position) → WSat (is_live (suc next) types ty next) (with_position a next p) ↔ IsCellIn types a ty p
    live p = is_live-means types vars a (with_position a next p) next p (bound p) (suc next) ty

    reached : (p : Position) → WSat (or_list (suc next) (places (suc next) types vars ty next)) (with_position a next p)
        ↔ (IsSlotFor vars ty p ⊎ IsChildFor types a ty p)
    reached p = places-mean types vars owners a (with_position a next p) next p (bound p) (suc next) (omega (arith, few)) (omega arith) ty

    finite_at : (p : Position) → IsFinite (with_position a next p)
    finite_at p = let stands = bound p in stands.finite

    follows : (p : Position) →
        WSat (imp (is_live (suc next) types ty next) (or_list (suc next) (places (suc next) types vars ty next))) (with_position a next p)
        ↔ (WSat (is_live (suc next) types ty next) (with_position a next p) →
        WSat (or_list (suc next) (places (suc next) types vars ty next)) (with_position a next p))
    follows p =
        law-imp (is_live (suc next) types ty next) (or_list (suc next) (places (suc next) types vars ty next)) (with_position a next p) (finite_at p)

    each : WSat (are_reached next types vars ty) a ↔ ((p : Position) →
        WSat (imp (is_live (suc next) types ty next) (or_list (suc next) (places (suc next) types vars ty next))) (with_position a next p))
    each = law-all1 next (imp (is_live (suc next) types ty next) (or_list (suc next) (places (suc next) types vars ty next))) a finite
