-- The list of a store's places.
use Rattle.std.proofs.Common.{◌≡◌, ◌⊎◌, ◌↔◌, ℕ, zero, suc, ◌+◌, ◌<◌, ◌≤◌, Bool, true, false, cond, nat_eq, List, [], ◌∷◌, ◌++◌, length, get_or}
use Rattle.std.proofs.Common.{slice_get, Option, Some, None, IsSome, IfSome, refl, sym, ap, ◌∙◌, subst, arith, inl, inr}
use Rattle.std.specs.Prelude.{option_map}
use Rattle.std.specs.Option.{option_and_then}
use Rattle.std.proofs.lemmas.Bool.{cases_order, cases_eq, cases_lt, ne_eqb, false≢true}
use Rattle.std.proofs.lemmas.List.{get_or_default}
use Rattle.std.proofs.lemmas.List.Elements.{Contains-push, Contains-push_cases, Contains-append_left, Contains-get_or}
use Rattle.std.proofs.lemmas.List.Quantifiers.{all_pairs_push}
use Rattle.std.proofs.lemmas.Option.{same_Some, slice_get_within}
use Rattle.std.specs.Prelude.{Contains}
use Rattle.std.specs.FinMap.{keys}
use Rattle.store_core.specs.declared.ids.TypeId.{TypeId}
use Rattle.store_core.specs.declared.ids.FieldId.{FieldId}
use Rattle.store_core.specs.declared.ids.CellId.{CellId}
use Rattle.store_core.specs.declared.value.Value.{Value}
use Rattle.store_core.specs.Tables.{TypeEntry, FieldEntry, VarEntry, fields_of}
use Rattle.store_core.specs.Stores.{StoreMap, CellEntry, cell_of, field_of, SlotsFit, CellFits, VarsFit}
use Rattle.routing_walks.specs.declared.fault.Place.{Place}
use Rattle.routing_walks.specs.declared.fault.Place.TheVariants as place
use Rattle.routing_walks.specs.WellFormed.{ComesBefore, IsFirstPlace, IsThere}
use Rattle.routing_walks.proofs.KeyLemmas.{keys-rise, key_of_live}
use Rattle.routing_expr.specs.Places.{ArePlaces, IsListing, IsFieldOf, IsFieldBelow, IsVarBelow, IsOfFirst, ComesBeforeCell}

pub not_itself : (p : Place) → ComesBefore p p → ⊥
not_itself (place.Var v) h = omega arith
not_itself (place.Field c f) h = elim h [ inl lt ↦ omega arith | inr both ↦ omega arith ]

pub not_back : (p q : Place) → ComesBefore p q → ComesBefore q p → ⊥
not_back (place.Var v) (place.Var w) h k = omega arith
not_back (place.Var v) (place.Field d g) h k = k
not_back (place.Field c f) (place.Var w) h k = h
not_back (place.Field c f) (place.Field d g) h k = elim h [
  | inl lt ↦ elim k [ inl mt ↦ omega arith | inr also ↦ omega arith ]
  | inr both ↦ elim k [ inl mt ↦ omega arith | inr also ↦ omega arith ]
]

-- the first of the list of which something is so is the first place of which it is so
pub first_place : (s : StoreMap) (places : List Place) (IsSo : Place → Type 0) → ((p : Place) → IsSo p → IsThere s p) →
    ArePlaces s places → (i : ℕ) (e : Place) → i < length places
    → ((k : ℕ) (d : Place) → k < i → IsSo (get_or places k d) → ⊥) → IsSo (get_or places i e) → IsFirstPlace IsSo (get_or places i e)
first_place s places IsSo there are i e within none here = record { here = here; before = before }
  where
    before : (q : Place) → ComesBefore q (get_or places i e) → IsSo q → ⊥
    before q lt so = let stands = are.complete q (there q so) in
        elim (cases_order stands.0 i) [
          | inl same ↦ not_itself q (subst (λ p. ComesBefore q p) (get_or_default places i e q within ∙ ap (λ k. get_or places k q) (sym same) ∙ stands.2) lt)
          | inr (inl less) ↦ none stands.0 q less (subst IsSo (sym stands.2) so)
          | inr (inr more) ↦ not_back q (get_or places i e) lt
              (subst (λ p. ComesBefore (get_or places i e) p) stands.2
              (subst (λ p. ComesBefore p (get_or places stands.0 q)) (get_or_default places i q e within) (are.in_order i stands.0 q more stands.1)))
        ]

-- the same list, by what comes to the same
pub listing_alike : (P Q : Place → Type 0) (places : List Place) → ((p : Place) → P p ↔ Q p) → IsListing P places → IsListing Q places
listing_alike P Q places alike h = record {
  members = λ p. (λ m. (alike p).0 ((h.members p).0 m), λ q. (h.members p).1 ((alike p).1 q));
  in_order = h.in_order;
}

-- ---- the fields of a cell

field_id : (f g : FieldId) → f.ty.0 ≡ g.ty.0 → f.index ≡ g.index → f ≡ g
field_id f g e h = ap (λ (n : ℕ). record { ty = record { 0 = n }; index = f.index }) e ∙ ap (λ (n : ℕ). record { ty = g.ty; index = n }) h

-- a field that a cell has is one of its type
pub typed : (o : Option CellEntry) (f : FieldId) (ty : TypeId) → IsSome (option_and_then (λ cell. field_of cell f) o) →
    option_map (λ (cell : CellEntry). cell.variant.ty) o ≡ Some ty → f.ty.0 ≡ ty.0
typed None f ty there of = absurd (false≢true there)
typed (Some cell) f ty there of =
    elim (cases_eq cell.variant.ty.0 f.ty.0) [
      | inl same ↦ let is : cell.variant.ty ≡ ty = cc in sym same ∙ ap (λ (t : TypeId). t.0) is
      | inr apart ↦ absurd (false≢true (subst (λ t. IsSome (cond t (option_and_then (λ v. v) (slice_get cell.values f.index)) None))
          (ne_eqb cell.variant.ty.0 f.ty.0 apart) there))
    ]

untyped : (o : Option CellEntry) (f : FieldId) → IsSome (option_and_then (λ cell. field_of cell f) o) →
    option_map (λ (cell : CellEntry). cell.variant.ty) o ≡ None → ⊥
untyped None f there of = absurd (false≢true there)
untyped (Some cell) f there of = cc

-- a cell without a type has no field
pub no_field : (s : StoreMap) (c : CellId) → option_map (λ (cell : CellEntry). cell.variant.ty) (cell_of s c) ≡ None →
    (p : Place) → IsFieldOf c p → IsThere s p → ⊥
no_field s c of (place.Var v) is there = absurd is
no_field s c of (place.Field d g) is there = untyped (cell_of s c) g (subst (λ e. IsThere s (place.Field e g)) is there) of

-- a field with this number is the one of the cell's type
pub the_field : (s : StoreMap) (c : CellId) (ty : TypeId) (n : ℕ) → option_map (λ (cell : CellEntry). cell.variant.ty)
    (cell_of s c) ≡ Some ty → (d : CellId) (g : FieldId)
    → d ≡ c → g.index ≡ n → IsThere s (place.Field d g) → place.Field d g ≡ place.Field c (record { ty = ty; index = n })
the_field s c ty n of d g is at there =
    ap (λ e. place.Field e g) is ∙ ap (λ f. place.Field c f)
    (field_id g (record { ty = ty; index = n }) (typed (cell_of s c) g ty (subst (λ e. IsThere s (place.Field e g)) is there) of) at)

-- one field more
pub fields_step : (s : StoreMap) (c : CellId) (ty : TypeId) (n : ℕ) (Old : Place → Type 0) →
    option_map (λ (cell : CellEntry). cell.variant.ty) (cell_of s c) ≡ Some ty → (p : Place)
    → ((Old p ⊎ (IsFieldBelow c n p × IsThere s p)) ⊎ ((p ≡ place.Field c (record { ty = ty; index = n })) × IsThere s p)) ↔
    (Old p ⊎ (IsFieldBelow c (n + 1) p × IsThere s p))
fields_step s c ty n Old of p = (forth, back)
  where
    forth : ((Old p ⊎ (IsFieldBelow c n p × IsThere s p)) ⊎ ((p ≡ place.Field c (record { ty = ty; index = n })) × IsThere s p)) →
        (Old p ⊎ (IsFieldBelow c (n + 1) p × IsThere s p))
    forth (inl (inl old)) = inl old
    forth (inl (inr below)) = inr (wider p below.0, below.1)
      where
        wider : (p : Place) → IsFieldBelow c n p → IsFieldBelow c (n + 1) p
        wider (place.Var v) h = absurd h
        wider (place.Field d g) h = (h.0, omega (arith, h.1))
    forth (inr is) = inr (subst (λ q. IsFieldBelow c (n + 1) q) (sym is.0) (refl, omega arith), is.1)

    new : (p : Place) → IsFieldBelow c (n + 1) p → IsThere s p → IsFieldBelow c n p ⊎ (p ≡ place.Field c (record { ty = ty; index = n }))
    new (place.Var v) h there = absurd h
    new (place.Field d g) h there = elim (cases_lt g.index n) [
      | inl less ↦ inl (h.0, less)
      | inr more ↦ inr (the_field s c ty n of d g h.0 (omega (arith, h.1)) there)
    ]

    back : (Old p ⊎ (IsFieldBelow c (n + 1) p × IsThere s p)) →
        ((Old p ⊎ (IsFieldBelow c n p × IsThere s p)) ⊎ ((p ≡ place.Field c (record { ty = ty; index = n })) × IsThere s p))
    back (inl old) = inl (inl old)
    back (inr below) = elim (new p below.0 below.1) [ inl h ↦ inl (inr (h, below.1)) | inr is ↦ inr (is, below.1) ]

slots_length : (s : StoreMap) (index : ℕ) (fs : List FieldEntry) (xs : List (Option Value)) → SlotsFit s index fs xs → length fs ≡ length xs
slots_length s index [] [] h = refl
slots_length s index [] (x ∷ xs) h = absurd h
slots_length s index (f ∷ fs) [] h = absurd h
slots_length s index (f ∷ fs) (x ∷ xs) h = ap suc (slots_length s index fs xs h.1)

flat_within : (xs : List (Option Value)) (i : ℕ) → IsSome (option_and_then (λ v. v) (slice_get xs i)) → i < length xs
flat_within [] i h = absurd (false≢true h)
flat_within (x ∷ xs) zero h = omega arith
flat_within (x ∷ xs) (suc i) h = let rest = flat_within xs i h in omega arith

inside : (b : Bool) (xs : List (Option Value)) (i : ℕ) → IsSome (cond b (option_and_then (λ v. v) (slice_get xs i)) None) → i < length xs
inside true xs i h = flat_within xs i h
inside false xs i h = absurd (false≢true h)

-- a field that a fitting cell has is one of its type's
field_within : (types : List TypeEntry) (s : StoreMap) (o : Option CellEntry) (f : FieldId) (ty : TypeId) →
    IfSome o (CellFits types s) → option_map (λ (cell : CellEntry). cell.variant.ty) o ≡ Some ty
    → IsSome (option_and_then (λ cell. field_of cell f) o) → f.index < length (fields_of types ty)
field_within types s None f ty fits of there = absurd (false≢true there)
field_within types s (Some cell) f ty fits of there =
    let is : cell.variant.ty ≡ ty = cc in
    subst (λ t. f.index < length (fields_of types t)) is
    (subst (λ n. f.index < n) (sym (slots_length s cell.variant.index (fields_of types cell.variant.ty) cell.values fits.values))
    (inside (nat_eq cell.variant.ty.0 f.ty.0) cell.values f.index there))

-- all fields of the cell
pub fields_all : (types : List TypeEntry) (s : StoreMap) (c : CellId) (ty : TypeId) (n : ℕ) (Old : Place → Type 0) → IfSome (cell_of s c) (CellFits types s)
    → option_map (λ (cell : CellEntry). cell.variant.ty) (cell_of s c) ≡ Some ty → length (fields_of types ty) ≤ n → (p : Place)
    → (Old p ⊎ (IsFieldBelow c n p × IsThere s p)) ↔ (Old p ⊎ (IsFieldOf c p × IsThere s p))
fields_all types s c ty n Old fits of all p = (forth, back)
  where
    wider : (p : Place) → IsFieldBelow c n p → IsFieldOf c p
    wider (place.Var v) h = h
    wider (place.Field d g) h = h.0

    below : (p : Place) → IsFieldOf c p → IsThere s p → IsFieldBelow c n p
    below (place.Var v) h there = h
    below (place.Field d g) h there = (h, omega (arith, field_within types s (cell_of s c) g ty fits of (subst (λ e. IsThere s (place.Field e g)) h there)))

    forth : (Old p ⊎ (IsFieldBelow c n p × IsThere s p)) → (Old p ⊎ (IsFieldOf c p × IsThere s p))
    forth (inl old) = inl old
    forth (inr h) = inr (wider p h.0, h.1)

    back : (Old p ⊎ (IsFieldOf c p × IsThere s p)) → (Old p ⊎ (IsFieldBelow c n p × IsThere s p))
    back (inl old) = inl old
    back (inr h) = inr (below p h.0 h.1, h.1)

-- what comes before the cell comes before its fields, as do its fields with lower numbers
pub before_field : (c : CellId) (f : FieldId) (p : Place) → ComesBeforeCell c p ⊎ IsFieldBelow c f.index p → ComesBefore p (place.Field c f)
before_field c f (place.Var v) h = tt
before_field c f (place.Field d g) (inl less) = inl less
before_field c f (place.Field d g) (inr both) = inr (ap (λ (e : CellId). e.0) both.0, both.1)

-- ---- the variables

-- one variable more, with the next number
pub vars_step : (places : List Place) (n : ℕ) (p : Place) → p ≡ place.Var (record { 0 = n }) → IsListing (IsVarBelow n) places →
    IsListing (IsVarBelow (n + 1)) (places ++ p ∷ [])
vars_step places n p is h = record {
  members = λ q. (λ m. forth q (Contains-push_cases places p q m), λ b. back q b);
  in_order = all_pairs_push ComesBefore places p h.in_order
      (λ k d within. subst (λ q. ComesBefore (get_or places k d) q) (sym is)
      (before (get_or places k d) ((h.members (get_or places k d)).0 (Contains-get_or places k d within))));
}
  where
    wider : (q : Place) → IsVarBelow n q → IsVarBelow (n + 1) q
    wider (place.Var v) b = omega arith
    wider (place.Field d g) b = absurd b

    forth : (q : Place) → Contains places q ⊎ (p ≡ q) → IsVarBelow (n + 1) q
    forth q (inl old) = wider q ((h.members q).0 old)
    forth q (inr same) = subst (IsVarBelow (n + 1)) (sym is ∙ same) (omega arith)

    new : (q : Place) → IsVarBelow (n + 1) q → IsVarBelow n q ⊎ (p ≡ q)
    new (place.Var v) b = elim (cases_lt v.0 n) [
      | inl less ↦ inl less
      | inr more ↦ let same : n ≡ v.0 = omega arith in
          inr (is ∙ ap (λ (m : ℕ). place.Var (record { 0 = m })) same)
    ]
    new (place.Field d g) b = absurd b

    back : (q : Place) → IsVarBelow (n + 1) q → Contains (places ++ p ∷ []) q
    back q b = elim (new q b) [
      | inl old ↦ Contains-append_left places (p ∷ []) q ((h.members q).1 old)
      | inr same ↦ subst (λ r. Contains (places ++ p ∷ []) r) same (Contains-push places p)
    ]

    before : (q : Place) → IsVarBelow n q → ComesBefore q (place.Var (record { 0 = n }))
    before (place.Var v) b = b
    before (place.Field d g) b = absurd b

-- as many values as variables
vars_length : (s : StoreMap) (vars : List VarEntry) (xs : List Value) → VarsFit s vars xs → length vars ≡ length xs
vars_length s [] [] h = refl
vars_length s [] (x ∷ xs) h = absurd h
vars_length s (v ∷ vars) [] h = absurd h
vars_length s (v ∷ vars) (x ∷ xs) h = ap suc (vars_length s vars xs h.1)

within : (xs : List Value) (i : ℕ) → IsSome (slice_get xs i) → i < length xs
within [] i h = absurd (false≢true h)
within (x ∷ xs) zero h = omega arith
within (x ∷ xs) (suc i) h = let rest = within xs i h in omega arith

known : (xs : List Value) (i : ℕ) → i < length xs → IsSome (slice_get xs i)
known [] i h = absurd (omega arith)
known (x ∷ xs) zero h = refl
known (x ∷ xs) (suc i) h = known xs i (omega arith)

-- the variables are the places of no cell
pub vars_all : (s : StoreMap) (vars : List VarEntry) (n : ℕ) → VarsFit s vars s.vars → n ≡ length vars → (p : Place) →
    IsVarBelow n p ↔ (IsOfFirst s 0 p × IsThere s p)
vars_all s vars n fits all (place.Var v) = (
  λ b. (tt, known s.vars v.0 (omega (arith, vars_length s vars s.vars fits))),
  λ h. let w = within s.vars v.0 h.1 in omega (arith, vars_length s vars s.vars fits),
)
vars_all s vars n fits all (place.Field d g) = (λ b. absurd b, λ h. absurd (omega (arith, h.0.1)))

-- ---- the cells

-- one cell more
pub cells_step : (s : StoreMap) (n : ℕ) (c : CellId) → slice_get (keys s.cells) n ≡ Some c.0 → (p : Place)
    → ((IsOfFirst s n p × IsThere s p) ⊎ (IsFieldOf c p × IsThere s p)) ↔ (IsOfFirst s (n + 1) p × IsThere s p)
cells_step s n c at (place.Var v) = (λ h. elim h [ inl old ↦ (tt, old.1) | inr new ↦ absurd new.0 ], λ h. inl (tt, h.1))
cells_step s n c at (place.Field d g) = (
  λ h. elim h [
    | inl old ↦ ((old.0.0, omega (arith, old.0.1), old.0.2), old.1)
    | inr new ↦ ((n, omega arith, at ∙ ap (λ (e : CellId). Some e.0) (sym new.0)), new.1)
  ],
  λ h. elim (cases_lt h.0.0 n) [
    | inl less ↦ inl ((h.0.0, less, h.0.2), h.1)
    | inr more ↦
        let here : h.0.0 ≡ n = omega (arith, h.0.1) in
        let same : d.0 ≡ c.0 = same_Some d.0 c.0 (sym h.0.2 ∙ ap (λ k. slice_get (keys s.cells) k) here ∙ at) in
        inr (ap (λ (m : ℕ). record { 0 = m }) same, h.1)
  ],
)

-- the places of the first cells come before the next one
pub before_cell : (s : StoreMap) (n : ℕ) (c : CellId) → slice_get (keys s.cells) n ≡ Some c.0 → (p : Place) → IsOfFirst s n p → ComesBeforeCell c p
before_cell s n c at (place.Var v) h = tt
before_cell s n c at (place.Field d g) h = keys-rise s h.0 n d.0 c.0 h.1 h.2 at

there_live : (o : Option CellEntry) (f : FieldId) → IsSome (option_and_then (λ cell. field_of cell f) o) → IsSome o
there_live None f h = absurd (false≢true h)
there_live (Some cell) f h = refl

-- all places
pub places_all : (s : StoreMap) (places : List Place) (n : ℕ) → length (keys s.cells) ≤ n →
    IsListing (λ p. IsOfFirst s n p × IsThere s p) places → ArePlaces s places
places_all s places n all h = record { complete = λ p there. (h.members p).1 (first p there, there); in_order = h.in_order }
  where
    first : (p : Place) → IsThere s p → IsOfFirst s n p
    first (place.Var v) there = tt
    first (place.Field d g) there = let at = key_of_live s d (there_live (cell_of s d) g there) in
        (at.0, omega (arith, slice_get_within (keys s.cells) at.0 d.0 at.1), at.1)
