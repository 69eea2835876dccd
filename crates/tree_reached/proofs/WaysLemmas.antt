-- The ways to the cells of a type, and the places at their ends.
use Rattle.std.proofs.Common.{◌≡◌, ℕ, suc, ◌≤◌, Bool, true, false, cond, ◌==◌, max, List, [], ◌∷◌, ◌++◌, length, map, flat_map, fold}
use Rattle.std.proofs.Common.{Option, Some, None, Contains, IsSomeAnd, inl, inr, ◌⊎◌, refl, sym, ap, ap₂, ◌∙◌, subst, arith}
use Rattle.std.specs.Option.{option_map_or}
use Rattle.std.proofs.lemmas.Bool.{eqb-true, eq-eqb}
use Rattle.std.proofs.lemmas.List.{map-append}
use Rattle.std.proofs.lemmas.Option.{slice_get_within}
use Rattle.std.proofs.lemmas.List.Elements.{Contains-append_left, Contains-append_right, Contains-append_cases}
use Rattle.gta_theory.proofs.ListsLemmas.{Contains-first, Contains-none, Contains-cases, Contains-flat_map}
use Rattle.ws2s_core.specs.declared.formula.Formula.{Formula}
use Rattle.ws2s_forms.specs.Forms.{or_list, imp, all1}
use Rattle.store_core.specs.declared.ids.TypeId.{TypeId}
use Rattle.store_core.specs.declared.ids.FieldId.{FieldId}
use Rattle.store_core.specs.declared.ids.VarId.{VarId}
use Rattle.store_core.specs.declared.kind.FieldKind.{FieldKind}
use Rattle.store_core.specs.declared.kind.FieldKind.TheVariants as field
use Rattle.store_core.specs.declared.kind.VarKind.{VarKind}
use Rattle.store_core.specs.declared.kind.VarKind.TheVariants as var
use Rattle.store_core.specs.Tables.{TypeEntry, FieldEntry, VarEntry, fields_of, field_at, var_at}
use Rattle.store_core.proofs.FittingLemmas.{IsSomeAnd-at}
use Rattle.tree_encode.specs.Tracks.{slot_of_var, child_number}
use Rattle.tree_formula.specs.WellEncoded.{type_id, field_in, var_id, types_in, fields_in, vars_in, is_live, at_slot, at_child, slot_places}
use Rattle.tree_formula.specs.WellEncoded.{child_places, places_below, places, are_reached}
use Rattle.tree_store.proofs.SpotsLemmas.{of-some}
use Rattle.tree_store.proofs.ListsLemmas.{Contains-named, flat_map-inside, cond-inside, listed-inside, Contains-listed}
use Rattle.tree_store.proofs.PlacesLemmas.{type-one}
use Rattle.tree_store.proofs.TablesLemmas.{field-known}
use Rattle.tree_reached.specs.declared.ways.Way.{Way}
use Rattle.tree_reached.specs.ByField.{way, way_to_slot, way_to_child, ways_of_var, ways_of_field, ways_from, ways, last_number, place_of, are_at_ends}

-- ---- the places are those at the ends of the ways

map-flat : {X Y Z : Type 0} (g : Y → Z) (f : X → List Y) (h : X → List Z) → ((x : X) → h x ≡ map g (f x)) → (xs : List X) →
    flat_map h xs ≡ map g (flat_map f xs)
map-flat g f h each [] = refl
map-flat {Z} g f h each (x ∷ xs) =
    ap₂ (λ (ys zs : List Z). ys ++ zs) (each x) (map-flat g f h each xs) ∙ sym (map-append g (f x) (flat_map f xs))

cond-map : {Y Z : Type 0} (g : Y → Z) (b : Bool) (y : Y) → cond b (g y ∷ []) [] ≡ map g (cond b (y ∷ []) [])
cond-map g true y = refl
cond-map g false y = refl

slot-at : (next : ℕ) (types : List TypeEntry) (vars : List VarEntry) (ty : TypeId) (a : ℕ) (kind : VarKind) (number : Option ℕ) →
    at_slot next vars ty a kind number ≡ map (place_of next types a) (way_to_slot ty kind number)
slot-at next types vars ty a var.Bool number = refl
slot-at next types vars ty a (var.Data target) None = refl
slot-at next types vars ty a (var.Data target) (Some i) = cond-map (place_of next types a) (target.0 == ty.0) (way i None)
slot-at next types vars ty a (var.Pointer target) number = refl
slot-at next types vars ty a (var.LogicSet target) number = refl
slot-at next types vars ty a var.LogicBool number = refl

child-at : (next : ℕ) (types : List TypeEntry) (ty : TypeId) (a : ℕ) (f : FieldId) (kind : FieldKind) (number : Option ℕ) →
    at_child next types ty a f kind number ≡ map (place_of next types a) (way_to_child ty f kind number)
child-at next types ty a f field.Bool number = refl
child-at next types ty a f (field.Data target) None = refl
child-at next types ty a f (field.Data target) (Some j) = cond-map (place_of next types a) (target.0 == ty.0) (way j (Some f))
child-at next types ty a f (field.Pointer target route) number = refl

module _ (next : ℕ) (types : List TypeEntry) (vars : List VarEntry) (ty : TypeId) (a : ℕ) where
  at-slots : (v : VarId) → slot_places next vars ty a v ≡ map (place_of next types a) (ways_of_var vars ty v)
  at-slots v = by (var_at vars v)
    where
      by : (o : Option VarEntry) → option_map_or (λ (e : VarEntry). at_slot next vars ty a e.kind (slot_of_var vars v)) o []
          ≡ map (place_of next types a) (option_map_or (λ (e : VarEntry). way_to_slot ty e.kind (slot_of_var vars v)) o [])
      by None = refl
      by (Some e) = slot-at next types vars ty a e.kind (slot_of_var vars v)

  at-children : (f : FieldId) → child_places next types ty a f ≡ map (place_of next types a) (ways_of_field types ty f)
  at-children f = by (field_at types f)
    where
      by : (o : Option FieldEntry) → option_map_or (λ (e : FieldEntry). at_child next types ty a f e.kind (child_number types f)) o []
          ≡ map (place_of next types a) (option_map_or (λ (e : FieldEntry). way_to_child ty f e.kind (child_number types f)) o [])
      by None = refl
      by (Some e) = child-at next types ty a f e.kind (child_number types f)

  at-fields : (parent : TypeId) → places_below next types ty a parent ≡ map (place_of next types a) (ways_from types ty parent)
  at-fields parent = map-flat (place_of next types a) (ways_of_field types ty) (child_places next types ty a) at-children (fields_in types parent)

  at-ends : places next types vars ty a ≡ map (place_of next types a) (ways types vars ty)
  at-ends =
      ap₂ (λ (fs gs : List Formula). fs ++ gs)
      (map-flat (place_of next types a) (ways_of_var vars ty) (slot_places next vars ty a) at-slots (vars_in vars))
      (map-flat (place_of next types a) (ways_from types ty) (places_below next types ty a) at-fields (types_in types))
      ∙ sym (map-append (place_of next types a) (flat_map (ways_of_var vars ty) (vars_in vars)) (flat_map (ways_from types ty) (types_in types)))

pub reached-ends : (types : List TypeEntry) (vars : List VarEntry) (next : ℕ) (ty : TypeId) →
    are_reached next types vars ty ≡ are_at_ends next types ty (ways types vars ty)
reached-ends types vars next ty =
    ap (λ (fs : List Formula). all1 next (imp (is_live (suc next) types ty next) (or_list (suc next) fs))) (at-ends (suc next) types vars ty next)

-- ---- which ways there are

-- so many steps by 1 lead to the slot of a data variable of the type
pub record IsSlotNumber (vars : List VarEntry) (ty : TypeId) (k : ℕ) : Type 0 where
  pub variable : VarId
  pub kind : IsSomeAnd (var_at vars variable) (λ (e : VarEntry). e.kind ≡ var.Data ty)
  pub number : slot_of_var vars variable ≡ Some k

-- so many lead to the children by the field, which is a data field with the type as target
pub record IsChildNumber (types : List TypeEntry) (ty : TypeId) (f : FieldId) (k : ℕ) : Type 0 where
  pub kind : IsSomeAnd (field_at types f) (λ (e : FieldEntry). e.kind ≡ field.Data ty)
  pub number : child_number types f ≡ Some k

to-slot : (ty : TypeId) (kind : VarKind) (number : Option ℕ) (w : Way) → Contains (way_to_slot ty kind number) w →
    (i : ℕ) × (kind ≡ var.Data ty) × (number ≡ Some i) × (way i None ≡ w)
to-slot ty var.Bool number w h = absurd (Contains-none w h)
to-slot ty (var.Data target) None w h = absurd (Contains-none w h)
to-slot ty (var.Data target) (Some i) w h =
    let (same, is) = cond-inside (target.0 == ty.0) (way i None) w h in
    (i, ap (λ (t : TypeId). var.Data t) (type-one target ty (eqb-true target.0 ty.0 same)), refl, is)
to-slot ty (var.Pointer target) number w h = absurd (Contains-none w h)
to-slot ty (var.LogicSet target) number w h = absurd (Contains-none w h)
to-slot ty var.LogicBool number w h = absurd (Contains-none w h)

to-child : (ty : TypeId) (f : FieldId) (kind : FieldKind) (number : Option ℕ) (w : Way) → Contains (way_to_child ty f kind number) w →
    (j : ℕ) × (kind ≡ field.Data ty) × (number ≡ Some j) × (way j (Some f) ≡ w)
to-child ty f field.Bool number w h = absurd (Contains-none w h)
to-child ty f (field.Data target) None w h = absurd (Contains-none w h)
to-child ty f (field.Data target) (Some j) w h =
    let (same, is) = cond-inside (target.0 == ty.0) (way j (Some f)) w h in
    (j, ap (λ (t : TypeId). field.Data t) (type-one target ty (eqb-true target.0 ty.0 same)), refl, is)
to-child ty f (field.Pointer target route) number w h = absurd (Contains-none w h)

slot-way : (ty : TypeId) (kind : VarKind) (number : Option ℕ) (i : ℕ) → kind ≡ var.Data ty → number ≡ Some i →
    Contains (way_to_slot ty kind number) (way i None)
slot-way ty kind number i is numbered =
    subst (λ (k : VarKind). Contains (way_to_slot ty k number) (way i None)) (sym is)
    (subst (λ (n : Option ℕ). Contains (way_to_slot ty (var.Data ty) n) (way i None)) (sym numbered)
    (subst (λ (b : Bool). Contains (cond b (way i None ∷ []) []) (way i None)) (sym (eq-eqb ty.0 ty.0 refl)) (Contains-first (way i None) [])))

child-way : (ty : TypeId) (f : FieldId) (kind : FieldKind) (number : Option ℕ) (j : ℕ) → kind ≡ field.Data ty → number ≡ Some j →
    Contains (way_to_child ty f kind number) (way j (Some f))
child-way ty f kind number j is numbered =
    subst (λ (k : FieldKind). Contains (way_to_child ty f k number) (way j (Some f))) (sym is)
    (subst (λ (n : Option ℕ). Contains (way_to_child ty f (field.Data ty) n) (way j (Some f))) (sym numbered)
    (subst (λ (b : Bool). Contains (cond b (way j (Some f) ∷ []) []) (way j (Some f))) (sym (eq-eqb ty.0 ty.0 refl))
    (Contains-first (way j (Some f)) [])))

module _ (types : List TypeEntry) (vars : List VarEntry) (ty : TypeId) where
  abbrev to_slots : List Way
  to_slots = flat_map (ways_of_var vars ty) (vars_in vars)

  abbrev to_children : List Way
  to_children = flat_map (ways_from types ty) (types_in types)

  -- a way leads to a slot, or to children
  pub way-cases : (w : Way) → Contains (ways types vars ty) w →
      ((w.holder ≡ None) × IsSlotNumber vars ty w.number) ⊎ ((f : FieldId) × (w.holder ≡ Some f) × IsChildNumber types ty f w.number)
  way-cases w among =
      elim (Contains-append_cases to_slots to_children w among)
      as (λ _. ((w.holder ≡ None) × IsSlotNumber vars ty w.number) ⊎ ((f : FieldId) × (w.holder ≡ Some f) × IsChildNumber types ty f w.number)) [
        | inl here ↦
            (let (v, listed, of_v) = flat_map-inside (ways_of_var vars ty) (vars_in vars) w here in
            let (entry, there, at) = listed-inside (λ (e : VarEntry). way_to_slot ty e.kind (slot_of_var vars v)) (var_at vars v) w of_v in
            let (i, kind, number, is) = to-slot ty entry.kind (slot_of_var vars v) w at in
            inl (
              ap (λ (u : Way). u.holder) (sym is),
              record {
                variable = v;
                kind = of-some (λ (e : VarEntry). e.kind ≡ var.Data ty) (var_at vars v) entry there kind;
                number = number ∙ ap (λ (u : Way). Some u.number) is;
              },
            ))
        | inr later ↦
            (let (parent, listed, of_parent) = flat_map-inside (ways_from types ty) (types_in types) w later in
            let (f, is_field, of_field) = flat_map-inside (ways_of_field types ty) (fields_in types parent) w of_parent in
            let (entry, there, at) = listed-inside (λ (e : FieldEntry). way_to_child ty f e.kind (child_number types f)) (field_at types f) w of_field in
            let (j, kind, number, is) = to-child ty f entry.kind (child_number types f) w at in
            inr (
              f,
              ap (λ (u : Way). u.holder) (sym is),
              record {
                kind = of-some (λ (e : FieldEntry). e.kind ≡ field.Data ty) (field_at types f) entry there kind;
                number = number ∙ ap (λ (u : Way). Some u.number) is;
              },
            ))
      ]

  pub slot-listed : (k : ℕ) → IsSlotNumber vars ty k → Contains (ways types vars ty) (way k None)
  slot-listed k h =
      let (entry, there, kind) = IsSomeAnd-at (var_at vars h.variable) (λ (e : VarEntry). e.kind ≡ var.Data ty) h.kind in
      Contains-append_left to_slots to_children (way k None)
      (Contains-flat_map (ways_of_var vars ty) (vars_in vars) h.variable (way k None)
      (Contains-named var_id (length vars) h.variable.0 (slice_get_within vars h.variable.0 entry there))
      (Contains-listed (λ (e : VarEntry). way_to_slot ty e.kind (slot_of_var vars h.variable)) (var_at vars h.variable) entry (way k None) there
      (slot-way ty entry.kind (slot_of_var vars h.variable) k kind h.number)))

  pub child-listed : (f : FieldId) (k : ℕ) → IsChildNumber types ty f k → Contains (ways types vars ty) (way k (Some f))
  child-listed f k h =
      let (entry, there, kind) = IsSomeAnd-at (field_at types f) (λ (e : FieldEntry). e.kind ≡ field.Data ty) h.kind in
      let (typed, inside) = field-known types f entry there in
      Contains-append_right to_slots to_children (way k (Some f))
      (Contains-flat_map (ways_from types ty) (types_in types) f.ty (way k (Some f)) (Contains-named type_id (length types) f.ty.0 typed)
      (Contains-flat_map (ways_of_field types ty) (fields_in types f.ty) f (way k (Some f))
      (Contains-named (field_in f.ty) (length (fields_of types f.ty)) f.index inside)
      (Contains-listed (λ (e : FieldEntry). way_to_child ty f e.kind (child_number types f)) (field_at types f) entry (way k (Some f)) there
      (child-way ty f entry.kind (child_number types f) k kind h.number))))

-- ---- no way has more steps than the last number

greatest : (ws : List Way) (m : ℕ) → m ≤ fold (λ n (w : Way). max n w.number) m ws
greatest [] m = omega arith
greatest (w ∷ ws) m = omega (arith, greatest ws (max m w.number))

within : (ws : List Way) (m : ℕ) (w : Way) → Contains ws w → w.number ≤ fold (λ n (u : Way). max n u.number) m ws
within [] m w among = absurd (Contains-none w among)
within (u ∷ ws) m w among = elim (Contains-cases u w ws among) as (λ _. w.number ≤ fold (λ n (v : Way). max n v.number) (max m u.number) ws) [
  | inl is ↦
      (let same : u.number ≡ w.number = ap (λ (v : Way). v.number) is in omega (arith, same, greatest ws (max m u.number)))
  | inr later ↦ within ws (max m u.number) w later
]

pub number-within : (ws : List Way) (w : Way) → Contains ws w → w.number ≤ last_number ws
number-within ws w among = within ws 0 w among
