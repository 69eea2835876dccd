-- Which fields are listed, and finite sets of positions where cells stand.
use Rattle.std.proofs.Common.{◌≡◌, ◌⊎◌, inl, inr, ◌+◌, ◌&&◌, ◌||◌, Bool, true, false, cond, IsTrue, List, [], ◌∷◌, length, Option, Some, None, Contains, refl}
use Rattle.std.proofs.Common.{sym, ap, ◌∙◌, subst, arith}
use Rattle.std.specs.Prelude.{filter}
use Rattle.std.specs.Option.{option_map_or}
use Rattle.std.proofs.lemmas.Bool.{false≢true, and_parts, and_from, or_cases}
use Rattle.gta_theory.specs.Assignments.{Position, PositionSet, IsFiniteSet, is_same_position}
use Rattle.gta_theory.proofs.ListsLemmas.{Contains-first, Contains-later, Contains-cases, Contains-flat_map}
use Rattle.ws2s_core.proofs.ExamplesLemmas.{same_position-true, same_position-refl}
use Rattle.ws2s_forms.proofs.PositionsLemmas.{IsFiniteSet-just}
use Rattle.store_core.specs.declared.ids.CellId.{CellId}
use Rattle.store_core.specs.declared.ids.FieldId.{FieldId}
use Rattle.store_core.specs.Tables.{TypeEntry, FieldEntry, field_at, fields_of}
use Rattle.routing_walks.proofs.DecidedLemmas.{in_none}
use Rattle.tree_formula.specs.WellEncoded.{type_id, field_in, types_in, fields_in}
use Rattle.tree_store.proofs.ListsLemmas.{Contains-named, flat_map-inside}
use Rattle.tree_store.proofs.TablesLemmas.{field-known}
use Rattle.graph_view.specs.Fields.{fields_in_where, fields_where}
use Rattle.graph_view.specs.After.{Standing, IsAt}

-- ---- fields of which something is so

pub in_filter : {X : Type 0} (test : X → Bool) (xs : List X) (x : X) → Contains xs x → test x ≡ true → Contains (filter test xs) x
in_filter test [] x h is = absurd (in_none x h)
in_filter {X} test (y ∷ xs) x h is = by (λ later. in_filter test xs x later is) (test y) refl (Contains-cases y x xs h)
  where
    by : (Contains xs x → Contains (filter test xs) x) → (t : Bool) → test y ≡ t → (y ≡ x) ⊎ Contains xs x →
        Contains (cond t (y ∷ filter test xs) (filter test xs)) x
    by rest true at_y (inl same) = subst (λ (z : X). Contains (y ∷ filter test xs) z) same (Contains-first y (filter test xs))
    by rest true at_y (inr later) = Contains-later y x (filter test xs) (rest later)
    by rest false at_y (inl same) = absurd (false≢true (sym at_y ∙ ap test same ∙ is))
    by rest false at_y (inr later) = rest later

pub filter-inside : {X : Type 0} (test : X → Bool) (xs : List X) (x : X) → Contains (filter test xs) x → Contains xs x × (test x ≡ true)
filter-inside test [] x h = absurd (in_none x h)
filter-inside {X} test (y ∷ xs) x h = by (λ inside. filter-inside test xs x inside) (test y) refl h
  where
    by : (Contains (filter test xs) x → Contains xs x × (test x ≡ true)) → (t : Bool) → test y ≡ t → Contains (cond t (y ∷ filter test xs) (filter test xs)) x →
        Contains (y ∷ xs) x × (test x ≡ true)
    by more true at_y inside = elim (Contains-cases y x (filter test xs) inside) as (λ _. Contains (y ∷ xs) x × (test x ≡ true)) [
      | inl same ↦ (subst (λ (z : X). Contains (y ∷ xs) z) same (Contains-first y xs), sym (ap test same) ∙ at_y)
      | inr later ↦ (let rest = more later in (Contains-later y x xs rest.0, rest.1))
    ]
    by more false at_y inside = (let rest = more inside in (Contains-later y x xs rest.0, rest.1))

pub entry-of : (o : Option FieldEntry) (is : FieldEntry → Bool) → option_map_or is o false ≡ true → (entry : FieldEntry) × (o ≡ Some entry) × (is entry ≡ true)
entry-of None is h = absurd (false≢true h)
entry-of (Some entry) is h = (entry, refl, h)

pub field-listed : (types : List TypeEntry) (is : FieldEntry → Bool) (f : FieldId) (entry : FieldEntry) → field_at types f ≡ Some entry → is entry ≡ true →
    Contains (fields_where types is) f
field-listed types is f entry there so =
    let (typed, inside) = field-known types f entry there in
    Contains-flat_map (fields_in_where types is) (types_in types) f.ty f (Contains-named type_id (length types) f.ty.0 typed)
    (in_filter (λ g. option_map_or is (field_at types g) false) (fields_in types f.ty) f
    (Contains-named (field_in f.ty) (length (fields_of types f.ty)) f.index inside) (ap (λ o. option_map_or is o false) there ∙ so))

pub listed-field : (types : List TypeEntry) (is : FieldEntry → Bool) (f : FieldId) → Contains (fields_where types is) f →
    (entry : FieldEntry) × (field_at types f ≡ Some entry) × (is entry ≡ true)
listed-field types is f h =
    let (ty, among, at) = flat_map-inside (fields_in_where types is) (types_in types) f h in
    let (inside, so) = filter-inside (λ g. option_map_or is (field_at types g) false) (fields_in types ty) f at in
    entry-of (field_at types f) is so

-- ---- the positions of cells

-- where cells stand of which this is so
abbrev pub places_of : (CellId → Bool) → Standing → PositionSet
places_of test [] u = false
places_of test (pair ∷ at) u = (test pair.0 && is_same_position pair.1 u) || places_of test at u

pub on-place : (test : CellId → Bool) (at : Standing) (u : Position) → IsTrue (places_of test at u) → (c : CellId) × IsAt at c u × (test c ≡ true)
on-place test [] u h = absurd (false≢true h)
on-place test (pair ∷ at) u h =
    elim (or_cases (test pair.0 && is_same_position pair.1 u) (places_of test at u) h) as (λ _. (c : CellId) × IsAt (pair ∷ at) c u × (test c ≡ true)) [
      | inl here ↦ (
          let (so, same) = and_parts (test pair.0) (is_same_position pair.1 u) here in
          let at_u = same_position-true pair.1 u same in
          (pair.0, subst (λ w. Contains (pair ∷ at) (pair.0, w)) at_u (Contains-first pair at), so))
      | inr later ↦ (let (c, there, so) = on-place test at u later in (c, Contains-later pair (c, u) at there, so))
    ]

or-left : (x y : Bool) → x ≡ true → (x || y) ≡ true
or-left true y e = refl
or-left false y e = absurd (false≢true e)

or-right : (x y : Bool) → y ≡ true → (x || y) ≡ true
or-right true y e = refl
or-right false y e = e

pub place-on : (test : CellId → Bool) (at : Standing) (c : CellId) (u : Position) → IsAt at c u → test c ≡ true → IsTrue (places_of test at u)
place-on test [] c u h so = absurd (in_none (c, u) h)
place-on test (pair ∷ at) c u h so = elim (Contains-cases pair (c, u) at h) as (λ _. IsTrue (places_of test (pair ∷ at) u)) [
  | inl same ↦ or-left (test pair.0 && is_same_position pair.1 u) (places_of test at u)
      (and_from (test pair.0) (is_same_position pair.1 u) (ap (λ (w : CellId × Position). test w.0) same ∙ so)
      (ap (λ (w : CellId × Position). is_same_position w.1 u) same ∙ same_position-refl u))
  | inr later ↦ or-right (test pair.0 && is_same_position pair.1 u) (places_of test at u) (place-on test at c u later so)
]

or-none : (x y : Bool) → x ≡ false → y ≡ false → (x || y) ≡ false
or-none true y e k = e
or-none false y e k = k

and-none : (x y : Bool) → y ≡ false → (x && y) ≡ false
and-none true y e = e
and-none false y e = refl

pub places-finite : (test : CellId → Bool) (at : Standing) → IsFiniteSet (places_of test at)
places-finite test [] = (0, λ p deep. refl)
places-finite test (pair ∷ at) =
    let here = IsFiniteSet-just pair.1 in
    let rest = places-finite test at in (
      here.0 + rest.0,
      λ p deep. or-none (test pair.0 && is_same_position pair.1 p) (places_of test at p)
          (and-none (test pair.0) (is_same_position pair.1 p) (here.1 p (omega (arith, deep)))) (rest.1 p (omega (arith, deep))),
    )
