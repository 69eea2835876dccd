-- The twins are a backbone, on which the first has both others as destinations.
use Rattle.std.proofs.Common.{◌≡◌, ◌⊎◌, inl, inr, ◌<◌, ℕ, zero, suc, List, [], ◌∷◌, map, slice_get, Option, Some, None, IsSome, IsSomeAnd, IfSome}
use Rattle.std.proofs.Common.{refl, sym, ap, ◌∙◌, subst, arith, Bool, true, false, cond, nat_eq}
use Rattle.std.specs.Option.{option_and_then}
use Rattle.std.specs.List.{AllByRecursion}
use Rattle.std.specs.Ordering.{nat_cmp, eq_by_cmp}
use Rattle.std.specs.FinMap.{get, find, get-from_sorted, entries-from_sorted}
use Rattle.std.proofs.lemmas.Bool.{false≢true, cases_eq}
use Rattle.std.proofs.lemmas.Bool.Decides.{nat_tests}
use Rattle.store_core.specs.declared.ids.FieldId.{FieldId}
use Rattle.store_core.specs.declared.ids.VarId.{VarId}
use Rattle.store_core.specs.declared.ids.CellId.{CellId}
use Rattle.store_core.specs.declared.kind.Route.TheVariants as route
use Rattle.store_core.specs.declared.value.Value.{Value}
use Rattle.store_core.specs.declared.value.Value.TheVariants as value
use Rattle.store_core.specs.Tables.{field_at, fields_of}
use Rattle.store_core.specs.Stores.{CellEntry, IsLive, cell_of, field_of, field_value, CellFits, Fits}
use Rattle.store_core.proofs.FittingLemmas.{IfSome-from, IsSomeAnd-at}
use Rattle.routing_walks.specs.declared.fault.Place.{Place}
use Rattle.routing_walks.specs.declared.fault.Place.TheVariants as place
use Rattle.routing_walks.specs.Walks.{DataAlone, Leads, IsParent, IsOfType, Walk, Chain, stay, go}
use Rattle.routing_walks.specs.Destinations.{Dest, IsPointer}
use Rattle.routing_walks.specs.WellFormed.{value_at, NamesDead, Names, IsBackbone}
use Rattle.routing_walks.specs.Reaching.{IsInSomeTree}
use Rattle.routing_walks.proofs.WalkLemmas.{Walk-Or, Walk-Down}
use Rattle.routing_walks.proofs.LiveLemmas.{IsLive-field_value}
use Rattle.routing_walks.proofs.FaultLemmas.{backbone_from}
use Rattle.routing_walks.specs.Refuting.{Refutes}
use Rattle.routing_walks.specs.Twins.{twin_type, twin_types, twin_field, twin_vars, twin_cell, twin_store}

abbrev first : CellId
first = record { 0 = 1 }

abbrev left : CellId
left = record { 0 = 2 }

abbrev right : CellId
right = record { 0 = 3 }

abbrev twins : List (ℕ × CellEntry)
twins = (1, twin_cell (Some left) (Some right)) ∷ (2, twin_cell None None) ∷ (3, twin_cell None None) ∷ []

at : (n : ℕ) → get twin_store.cells n ≡ find nat_cmp n twins
at n = get-from_sorted nat_cmp twins n tt

at_first : cell_of twin_store first ≡ Some (twin_cell (Some left) (Some right))
at_first = at 1

at_left : cell_of twin_store left ≡ Some (twin_cell None None)
at_left = at 2

at_right : cell_of twin_store right ≡ Some (twin_cell None None)
at_right = at 3

-- a cell is the first, the left or the right one, or it is dead
data Which (c : CellId) : Type 0 where
  is_first : c ≡ first → Which c
  is_left : c ≡ left → Which c
  is_right : c ≡ right → Which c
  is_dead : cell_of twin_store c ≡ None → Which c

differs : (x y : ℕ) → (x ≡ y → ⊥) → eq_by_cmp nat_cmp x y ≡ false
differs x y ne = grind (arith, nat_tests)

cell_is : (c : CellId) (n : ℕ) → c.0 ≡ n → c ≡ record { 0 = n }
cell_is c n e = ap (λ (k : ℕ). record { 0 = k }) e

which : (c : CellId) → Which c
which c = elim (cases_eq c.0 1) [
  | inl e ↦ is_first (cell_is c 1 e)
  | inr not_one ↦ elim (cases_eq c.0 2) [
    | inl e ↦ is_left (cell_is c 2 e)
    | inr not_two ↦ elim (cases_eq c.0 3) [
      | inl e ↦ is_right (cell_is c 3 e)
      | inr not_three ↦ is_dead (at c.0
          ∙ ap (λ b. cond b (Some (twin_cell (Some left) (Some right))) (find nat_cmp c.0 ((2, twin_cell None None) ∷ (3, twin_cell None None) ∷ [])))
          (differs c.0 1 not_one)
          ∙ ap (λ b. cond b (Some (twin_cell None None)) (find nat_cmp c.0 ((3, twin_cell None None) ∷ []))) (differs c.0 2 not_two)
          ∙ ap (λ b. cond b (Some (twin_cell None None)) None) (differs c.0 3 not_three))
    ]
  ]
]

not_live : (c : CellId) → cell_of twin_store c ≡ None → IsLive twin_store c → ⊥
not_live c dead live = false≢true (subst IsSome dead live)

-- ---- fitting

null_fits : CellFits twin_types twin_store (twin_cell None None)
null_fits = record { variant = omega arith; values = ((refl, tt), ((refl, tt), ((refl, tt), tt))) }

of_twin : (c : CellId) (cell : CellEntry) → cell_of twin_store c ≡ Some cell → cell.variant.ty ≡ twin_type → IsOfType twin_store twin_type c
of_twin c cell is ty = subst (λ o. IsSomeAnd o (λ (e : CellEntry). e.variant.ty ≡ twin_type)) (sym is) ty

fits_twin : (c : CellId) (cell : CellEntry) → cell_of twin_store c ≡ Some cell → cell.variant.ty ≡ twin_type
    → IfSome (cell_of twin_store c) (λ e. e.variant.ty ≡ twin_type)
fits_twin c cell is ty = subst (λ o. IfSome o (λ (e : CellEntry). e.variant.ty ≡ twin_type)) (sym is) ty

first_fits : CellFits twin_types twin_store (twin_cell (Some left) (Some right))
first_fits = record {
  variant = omega arith;
  values = ((refl, fits_twin left _ at_left refl), ((refl, fits_twin right _ at_right refl), ((refl, tt), tt)));
}

twins_fit : Fits twin_types twin_vars twin_store
twins_fit = record {
  cells = λ c. elim (which c) [
    | is_first e ↦ subst (λ x. IfSome (cell_of twin_store x) (CellFits twin_types twin_store)) (sym e)
        (subst (λ o. IfSome o (CellFits twin_types twin_store)) (sym at_first) first_fits)
    | is_left e ↦ subst (λ x. IfSome (cell_of twin_store x) (CellFits twin_types twin_store)) (sym e)
        (subst (λ o. IfSome o (CellFits twin_types twin_store)) (sym at_left) null_fits)
    | is_right e ↦ subst (λ x. IfSome (cell_of twin_store x) (CellFits twin_types twin_store)) (sym e)
        (subst (λ o. IfSome o (CellFits twin_types twin_store)) (sym at_right) null_fits)
    | is_dead e ↦ subst (λ o. IfSome o (CellFits twin_types twin_store)) (sym e) tt
  ];
  values = (fits_twin first _ at_first refl, tt);
  above = subst (λ es. AllByRecursion (λ n. n < 4) (map (λ (e : ℕ × CellEntry). e.0) es)) (sym (entries-from_sorted nat_cmp twins tt))
      (omega arith, (omega arith, (omega arith, tt)));
}

-- ---- what names a cell

data Naming (p : Place) (c : CellId) : Type 0 where
  by_var : p ≡ place.Var (record { 0 = 0 }) → c ≡ first → Naming p c
  by_left : p ≡ place.Field first (record { ty = twin_type; index = 0 }) → c ≡ left → Naming p c
  by_right : p ≡ place.Field first (record { ty = twin_type; index = 1 }) → c ≡ right → Naming p c

tested : (b : Bool) (o : Option Value) (x : Value) → cond b o None ≡ Some x → (b ≡ true) × (o ≡ Some x)
tested true o x e = (refl, e)
tested false o x e = absurd (cc)

null_slot : (i : ℕ) (c : CellId) → option_and_then (λ (v : Option Value). v) (slice_get (twin_cell None None).values i) ≡ Some (value.Cell (Some c)) → ⊥
null_slot zero c e = cc
null_slot (suc zero) c e = cc
null_slot (suc (suc zero)) c e = cc
null_slot (suc (suc (suc i))) c e = cc

first_slot : (i : ℕ) (c : CellId) → option_and_then (λ (v : Option Value). v) (slice_get (twin_cell (Some left) (Some right)).values i)
    ≡ Some (value.Cell (Some c)) →
    ((i ≡ 0) × (c ≡ left)) ⊎ ((i ≡ 1) × (c ≡ right))
first_slot zero c e = inl (refl, cc)
first_slot (suc zero) c e = inr (refl, cc)
first_slot (suc (suc zero)) c e = absurd (cc)
first_slot (suc (suc (suc i))) c e = absurd (cc)

same_number : (x y : ℕ) → nat_eq x y ≡ true → x ≡ y
same_number x y e = grind (arith, nat_tests)

null_names : (a : CellId) (f : FieldId) (c : CellId) → cell_of twin_store a ≡ Some (twin_cell None None)
    → field_value twin_store a f ≡ Some (value.Cell (Some c)) → ⊥
null_names a f c is e = null_slot f.index c (tested (nat_eq 0 f.ty.0) _ _
    (subst (λ o. option_and_then (λ cell. field_of cell f) o ≡ Some (value.Cell (Some c))) is e)).1

field_id : (f : FieldId) (i : ℕ) → 0 ≡ f.ty.0 → f.index ≡ i → f ≡ record { ty = twin_type; index = i }
field_id f i ty index = ap (λ (n : ℕ). record { ty = record { 0 = n }; index = f.index }) (sym ty) ∙ ap (λ (n : ℕ). record { ty = twin_type; index = n }) index

first_names : (f : FieldId) (c : CellId) → field_value twin_store first f ≡ Some (value.Cell (Some c)) → Naming (place.Field first f) c
first_names f c e =
    let h = tested (nat_eq 0 f.ty.0) _ _ (subst (λ o. option_and_then (λ cell. field_of cell f) o ≡ Some (value.Cell (Some c))) at_first e) in
    elim (first_slot f.index c h.1) [
      | inl k ↦ by_left (ap (λ x. place.Field first x) (field_id f 0 (same_number 0 f.ty.0 h.0) k.0)) k.1
      | inr k ↦ by_right (ap (λ x. place.Field first x) (field_id f 1 (same_number 0 f.ty.0 h.0) k.0)) k.1
    ]

var_names : (v : VarId) (n : ℕ) → v.0 ≡ n → (c : CellId) → slice_get twin_store.vars n ≡ Some (value.Cell (Some c)) → Naming (place.Var v) c
var_names v zero e c h = by_var (ap (λ (k : ℕ). place.Var (record { 0 = k })) e) (cc)
var_names v (suc n) e c h = absurd (cc)

naming : (p : Place) (c : CellId) → value_at twin_store p ≡ Some (value.Cell (Some c)) → Naming p c
naming (place.Var v) c h = var_names v v.0 refl c h
naming (place.Field a f) c h = elim (which a) [
  | is_first e ↦ subst (λ x. Naming (place.Field x f) c) (sym e) (first_names f c (subst (λ x. field_value twin_store x f ≡ Some (value.Cell (Some c))) e h))
  | is_left e ↦ absurd (null_names a f c (ap (cell_of twin_store) e ∙ at_left) h)
  | is_right e ↦ absurd (null_names a f c (ap (cell_of twin_store) e ∙ at_right) h)
  | is_dead e ↦ absurd (not_live a e (IsLive-field_value twin_store a f _ h))
]

-- ---- the backbone

same_cell : (c : CellId) (n m : ℕ) → c ≡ record { 0 = n } → c ≡ record { 0 = m } → n ≡ m
same_cell c n m h k = ap (λ (x : CellId). x.0) (sym h ∙ k)

named_once : (p q : Place) (c : CellId) → Naming p c → Naming q c → p ≡ q
named_once p q c (by_var e h) (by_var e' k) = e ∙ sym e'
named_once p q c (by_var e h) (by_left e' k) = let n = same_cell c 1 2 h k in absurd (omega (arith, n))
named_once p q c (by_var e h) (by_right e' k) = let n = same_cell c 1 3 h k in absurd (omega (arith, n))
named_once p q c (by_left e h) (by_var e' k) = let n = same_cell c 2 1 h k in absurd (omega (arith, n))
named_once p q c (by_left e h) (by_left e' k) = e ∙ sym e'
named_once p q c (by_left e h) (by_right e' k) = let n = same_cell c 2 3 h k in absurd (omega (arith, n))
named_once p q c (by_right e h) (by_var e' k) = let n = same_cell c 3 1 h k in absurd (omega (arith, n))
named_once p q c (by_right e h) (by_left e' k) = let n = same_cell c 3 2 h k in absurd (omega (arith, n))
named_once p q c (by_right e h) (by_right e' k) = e ∙ sym e'

lives : (c : CellId) (cell : CellEntry) → cell_of twin_store c ≡ Some cell → IsLive twin_store c
lives c cell e = subst IsSome (sym e) refl

named_live : (p : Place) (c : CellId) → Naming p c → IsLive twin_store c
named_live p c (by_var e h) = subst (IsLive twin_store) (sym h) (lives first _ at_first)
named_live p c (by_left e h) = subst (IsLive twin_store) (sym h) (lives left _ at_left)
named_live p c (by_right e h) = subst (IsLive twin_store) (sym h) (lives right _ at_right)

none_dead : (p : Place) (x : Value) → value_at twin_store p ≡ Some x → NamesDead twin_store x → ⊥
none_dead p (value.Bool b) h dead = dead
none_dead p (value.Cell None) h dead = dead
none_dead p (value.Cell (Some d)) h dead = not_live d dead (named_live p d (naming p d h))
none_dead p (value.Cells cells) h dead = dead

leads_left : Leads twin_types twin_store DataAlone (record { ty = twin_type; index = 0 }) first left
leads_left = record {
  kind = tt;
  value = ap (λ o. option_and_then (λ cell. field_of cell (record { ty = twin_type; index = 0 })) o) at_first;
  live = lives left _ at_left;
}

leads_right : Leads twin_types twin_store DataAlone (record { ty = twin_type; index = 1 }) first right
leads_right = record {
  kind = tt;
  value = ap (λ o. option_and_then (λ cell. field_of cell (record { ty = twin_type; index = 1 })) o) at_first;
  live = lives right _ at_right;
}

root_named : Names twin_types twin_vars twin_store (place.Var (record { 0 = 0 })) first
root_named = record { place = tt; value = refl }

in_tree : (c : CellId) → Chain twin_store (IsParent twin_types twin_store) first c → IsInSomeTree twin_types twin_vars twin_store c
in_tree c path = record { var = record { 0 = 0 }; in_tree = record { root = first; named = root_named; path = path } }

reached : (c : CellId) → IsLive twin_store c → IsInSomeTree twin_types twin_vars twin_store c
reached c live = elim (which c) [
  | is_first e ↦ subst (IsInSomeTree twin_types twin_vars twin_store) (sym e) (in_tree first (stay first (lives first _ at_first)))
  | is_left e ↦ subst (IsInSomeTree twin_types twin_vars twin_store) (sym e)
      (in_tree left (go first left left (record { field = record { ty = twin_type; index = 0 }; leads = leads_left }) (stay left (lives left _ at_left))))
  | is_right e ↦ subst (IsInSomeTree twin_types twin_vars twin_store) (sym e)
      (in_tree right (go first right right (record { field = record { ty = twin_type; index = 1 }; leads = leads_right })
      (stay right (lives right _ at_right))))
  | is_dead e ↦ absurd (not_live c e live)
]

twins_backbone : IsBackbone twin_types twin_vars twin_store
twins_backbone = backbone_from twin_types twin_vars twin_store twins_fit
    (λ p h. let x = IsSomeAnd-at (value_at twin_store p) _ h in none_dead p x.0 x.1 x.2)
    (λ c h. h.apart (named_once h.one h.other c (naming h.one c h.by_one.value) (naming h.other c h.by_other.value)))
    reached

-- ---- the two destinations

ends_walk : (c : CellId) (cell : CellEntry) → cell_of twin_store c ≡ Some cell → cell.variant.ty ≡ twin_type →
    Walk twin_types twin_store DataAlone (route.Or (route.Down (108 ∷ [])) (route.Down (114 ∷ []))) first c → Dest twin_types twin_store first twin_field c
ends_walk c cell is ty w = record { walk = w; of_target = of_twin c cell is ty }

to_left : Dest twin_types twin_store first twin_field left
to_left = ends_walk left _ at_left refl ((Walk-Or twin_types twin_store DataAlone (route.Down (108 ∷ [])) (route.Down (114 ∷ [])) first left).1
    (inl ((Walk-Down twin_types twin_store DataAlone (108 ∷ []) first left).1
    (record { field = record { ty = twin_type; index = 0 }; named = refl; leads = leads_left }))))

to_right : Dest twin_types twin_store first twin_field right
to_right = ends_walk right _ at_right refl ((Walk-Or twin_types twin_store DataAlone (route.Down (108 ∷ [])) (route.Down (114 ∷ [])) first right).1
    (inr ((Walk-Down twin_types twin_store DataAlone (114 ∷ []) first right).1
    (record { field = record { ty = twin_type; index = 1 }; named = refl; leads = leads_right }))))

pointer_slot : (i : ℕ) (x : Value) (left right : Option CellId) → IsSomeAnd (slice_get (fields_of twin_types twin_type) i) (λ entry. IsPointer entry.kind) →
    option_and_then (λ (v : Option Value). v) (slice_get (twin_cell left right).values i) ≡ Some x → x ≡ value.Cell None
pointer_slot zero x left right pointer e = absurd pointer
pointer_slot (suc zero) x left right pointer e = absurd pointer
pointer_slot (suc (suc zero)) x left right pointer e = cc
pointer_slot (suc (suc (suc i))) x left right pointer e = cc

pointer_null : (c : CellId) (f : FieldId) (x : Value) (left right : Option CellId) → cell_of twin_store c ≡ Some (twin_cell left right) →
    IsSomeAnd (field_at twin_types f) (λ entry. IsPointer entry.kind) → field_value twin_store c f ≡ Some x → x ≡ value.Cell None
pointer_null c f x left right is pointer e =
    let h = tested (nat_eq 0 f.ty.0) _ _ (subst (λ o. option_and_then (λ cell. field_of cell f) o ≡ Some x) is e) in
    pointer_slot f.index x left right
    (subst (λ n. IsSomeAnd (slice_get (fields_of twin_types (record { 0 = n })) f.index) (λ entry. IsPointer entry.kind))
    (sym (same_number 0 f.ty.0 h.0)) pointer) h.1

pointers_null : (c : CellId) (f : FieldId) → IsSomeAnd (field_at twin_types f) (λ entry. IsPointer entry.kind) →
    IfSome (field_value twin_store c f) (λ x. x ≡ value.Cell None)
pointers_null c f pointer = IfSome-from (field_value twin_store c f) _ (λ x e. elim (which c) [
  | is_first k ↦ pointer_null c f x (Some left) (Some right) (ap (cell_of twin_store) k ∙ at_first) pointer e
  | is_left k ↦ pointer_null c f x None None (ap (cell_of twin_store) k ∙ at_left) pointer e
  | is_right k ↦ pointer_null c f x None None (ap (cell_of twin_store) k ∙ at_right) pointer e
  | is_dead k ↦ absurd (not_live c k (IsLive-field_value twin_store c f _ e))
])

pub twins_refute : Refutes twin_types twin_vars twin_store twin_field
twins_refute = record {
  fits = twins_fit;
  backbone = twins_backbone;
  nulls = pointers_null;
  cell = first;
  has = subst (λ o. IsSomeAnd (option_and_then (λ cell. field_of cell twin_field) o) (λ x. Unit {0})) (sym at_first) tt;
  one = left;
  other = right;
  apart = λ e. let n : 2 ≡ 3 = ap (λ (x : CellId). x.0) e in omega (arith, n);
  to_one = to_left;
  to_other = to_right;
}
