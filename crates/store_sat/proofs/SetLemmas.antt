-- Some set, and each set, of live cells.
use Rattle.std.proofs.Common.{◌≡◌, ◌↔◌, ◌⊎◌, inl, inr, ◌<◌, ◌≤◌, ℕ, zero, suc, List, []}
use Rattle.std.proofs.Common.{◌∷◌, ◌++◌, slice_get, Some, refl, sym, ap, ◌∙◌, subst, arith, append_assoc, append-nil}
use Rattle.std.specs.List.{AllByRecursion}
use Rattle.std.specs.FinMap.{keys}
use Rattle.store_core.specs.declared.ids.TypeId.{TypeId}
use Rattle.store_core.specs.declared.ids.CellId.{CellId}
use Rattle.store_core.specs.CellLists.{AreRising}
use Rattle.store_core.specs.Stores.{StoreMap, cell_of}
use Rattle.store_core.proofs.Growing.{AllByRecursion-push}
use Rattle.routing_walks.specs.Walks.{IsOfType}
use Rattle.routing_walks.proofs.KeyLemmas.{key_of_live, keys-rise}
use Rattle.routing_walks.proofs.LiveLemmas.{IsSome-and}
use Rattle.store_logic.specs.Satisfaction.{IsSetOf}
use Rattle.store_sat.specs.Tasks.{numbered, SomeSet, EachSet}
use Rattle.store_sat.specs.Steps.{StayRising}

-- ---- rising numbers

abbrev Rise : List ℕ → Type 0
Rise [] = Unit {0}
Rise (n ∷ numbers) = AllByRecursion (λ m. n < m) numbers × Rise numbers

above_all : (n : ℕ) (ks : List ℕ) → ((k a : ℕ) → slice_get ks k ≡ Some a → n < a) → AllByRecursion (λ m. n < m) ks
above_all n [] above = tt
above_all n (k ∷ ks) above = (above 0 k refl, above_all n ks (λ j a at. above (suc j) a at))

rise_from : (ks : List ℕ) → ((i j a b : ℕ) → i < j → slice_get ks i ≡ Some a → slice_get ks j ≡ Some b → a < b) → Rise ks
rise_from [] rise = tt
rise_from (k ∷ ks) rise = (
  above_all k ks (λ j a at. rise 0 (suc j) k a (omega arith) refl at),
  rise_from ks (λ i j a b less at_i at_j. rise (suc i) (suc j) a b (omega (arith, less)) at_i at_j),
)

pub keys_rise : (s : StoreMap) → Rise (keys s.cells)
keys_rise s = rise_from (keys s.cells) (keys-rise s)

abbrev AreBelow : List CellId → ℕ → Type 0
AreBelow chosen n = AllByRecursion (λ d. d.0 < n) chosen

below_too : (chosen : List CellId) (n : ℕ) (numbers : List ℕ) → AllByRecursion (λ m. n < m) numbers → AllByRecursion (AreBelow chosen) numbers →
    AllByRecursion (AreBelow (chosen ++ numbered n ∷ [])) numbers
below_too chosen n [] above below = tt
below_too chosen n (m ∷ numbers) above below =
    (AllByRecursion-push (λ (d : CellId). d.0 < m) chosen (numbered n) below.0 above.0, below_too chosen n numbers above.1 below.1)

stay : (chosen : List CellId) (numbers : List ℕ) → Rise numbers → AllByRecursion (AreBelow chosen) numbers → StayRising chosen numbers
stay chosen [] rise below = tt
stay chosen (n ∷ numbers) rise below = (
  below.0,
  stay chosen numbers rise.1 below.1,
  stay (chosen ++ numbered n ∷ []) numbers rise.1 (below_too chosen n numbers rise.0 below.1),
)

none_below : (numbers : List ℕ) → AllByRecursion (AreBelow []) numbers
none_below [] = tt
none_below (n ∷ numbers) = (tt, none_below numbers)

pub StayRising-none : (s : StoreMap) → StayRising [] (keys s.cells)
StayRising-none s = stay [] (keys s.cells) (keys_rise s) (none_below (keys s.cells))

-- ---- choices

module _ (s : StoreMap) (ty : TypeId) where
  -- the set has some cells of the type with these numbers
  abbrev IsChoice : List ℕ → List CellId → Type 0
  IsChoice [] set = set ≡ []
  IsChoice (n ∷ numbers) set =
      IsChoice numbers set ⊎ ((others : List CellId) × (set ≡ numbered n ∷ others) × IsOfType s ty (numbered n) × IsChoice numbers others)

  module _ (Is : List CellId → Type 0) where
    some_from : (chosen : List CellId) (numbers : List ℕ) → SomeSet s ty Is chosen numbers →
        (set : List CellId) × IsChoice numbers set × Is (chosen ++ set)
    some_from chosen [] h = ([], refl, subst Is (sym (append-nil chosen)) h)
    some_from chosen (n ∷ numbers) (inl h) = let r = some_from chosen numbers h in (r.0, inl r.1, r.2)
    some_from chosen (n ∷ numbers) (inr h) = let r = some_from (chosen ++ numbered n ∷ []) numbers h.1 in
        (numbered n ∷ r.0, inr (r.0, refl, h.0, r.1), subst Is (append_assoc chosen (numbered n ∷ []) r.0) r.2)

    some_to : (chosen : List CellId) (numbers : List ℕ) (set : List CellId) → IsChoice numbers set → Is (chosen ++ set) → SomeSet s ty Is chosen numbers
    some_to chosen [] set none is = subst Is (ap (λ xs. chosen ++ xs) none ∙ append-nil chosen) is
    some_to chosen (n ∷ numbers) set (inl c) is = inl (some_to chosen numbers set c is)
    some_to chosen (n ∷ numbers) set (inr c) is = inr (
      c.2,
      some_to (chosen ++ numbered n ∷ []) numbers c.0 c.3
          (subst Is (ap (λ xs. chosen ++ xs) c.1 ∙ sym (append_assoc chosen (numbered n ∷ []) c.0)) is),
    )

    each_from : (chosen : List CellId) (numbers : List ℕ) → ((set : List CellId) → IsChoice numbers set → Is (chosen ++ set)) → EachSet s ty Is chosen numbers
    each_from chosen [] h = subst Is (append-nil chosen) (h [] refl)
    each_from chosen (n ∷ numbers) h = (
      each_from chosen numbers (λ set c. h set (inl c)),
      λ of. each_from (chosen ++ numbered n ∷ []) numbers
          (λ set c. subst Is (sym (append_assoc chosen (numbered n ∷ []) set)) (h (numbered n ∷ set) (inr (set, refl, of, c)))),
    )

    each_to : (chosen : List CellId) (numbers : List ℕ) → EachSet s ty Is chosen numbers → (set : List CellId) → IsChoice numbers set → Is (chosen ++ set)
    each_to chosen [] h set none = subst Is (sym (ap (λ xs. chosen ++ xs) none ∙ append-nil chosen)) h
    each_to chosen (n ∷ numbers) h set (inl c) = each_to chosen numbers h.0 set c
    each_to chosen (n ∷ numbers) h set (inr c) =
        subst Is (sym (ap (λ xs. chosen ++ xs) c.1 ∙ sym (append_assoc chosen (numbered n ∷ []) c.0)))
        (each_to (chosen ++ numbered n ∷ []) numbers (h.1 c.2) c.0 c.3)

  -- ---- choices and sets

  choice_all : (P : ℕ → Type 0) (numbers : List ℕ) → AllByRecursion P numbers → (set : List CellId) → IsChoice numbers set → AllByRecursion (λ c. P c.0) set
  choice_all P [] all set none = subst (AllByRecursion (λ (c : CellId). P c.0)) (sym none) tt
  choice_all P (n ∷ numbers) all set (inl c) = choice_all P numbers all.1 set c
  choice_all P (n ∷ numbers) all set (inr c) = subst (AllByRecursion (λ (c : CellId). P c.0)) (sym c.1) (all.0, choice_all P numbers all.1 c.0 c.3)

  choice_rising : (numbers : List ℕ) → Rise numbers → (set : List CellId) → IsChoice numbers set → AreRising set
  choice_rising [] rise set none = subst AreRising (sym none) tt
  choice_rising (n ∷ numbers) rise set (inl c) = choice_rising numbers rise.1 set c
  choice_rising (n ∷ numbers) rise set (inr c) =
      subst AreRising (sym c.1) (choice_all (λ m. n < m) numbers rise.0 c.0 c.3, choice_rising numbers rise.1 c.0 c.3)

  choice_members : (numbers : List ℕ) (set : List CellId) → IsChoice numbers set → AllByRecursion (IsOfType s ty) set
  choice_members [] set none = subst (AllByRecursion (IsOfType s ty)) (sym none) tt
  choice_members (n ∷ numbers) set (inl c) = choice_members numbers set c
  choice_members (n ∷ numbers) set (inr c) = subst (AllByRecursion (IsOfType s ty)) (sym c.1) (c.2, choice_members numbers c.0 c.3)

  -- the cell has one of these numbers
  abbrev IsAmong : List ℕ → CellId → Type 0
  IsAmong [] c = ⊥
  IsAmong (n ∷ numbers) c = (n ≡ c.0) ⊎ IsAmong numbers c

  among_at : (numbers : List ℕ) (j : ℕ) (c : CellId) → slice_get numbers j ≡ Some c.0 → IsAmong numbers c
  among_at [] j c at = absurd (cc)
  among_at (n ∷ numbers) zero c at = inl (cc)
  among_at (n ∷ numbers) (suc j) c at = inr (among_at numbers j c at)

  among_above : (n : ℕ) (numbers : List ℕ) (c : CellId) → AllByRecursion (λ m. n < m) numbers → IsAmong numbers c → n < c.0
  among_above n [] c above h = absurd h
  among_above n (m ∷ numbers) c above (inl same) = omega (arith, above.0, same)
  among_above n (m ∷ numbers) c above (inr h) = among_above n numbers c above.1 h

  -- those above the first number are among the others
  narrowed : (n : ℕ) (numbers : List ℕ) (k : ℕ) → n ≤ k → (set : List CellId) → AllByRecursion (λ c. k < c.0) set →
      AllByRecursion (IsAmong (n ∷ numbers)) set → AllByRecursion (IsAmong numbers) set
  narrowed n numbers k le [] above among = tt
  narrowed n numbers k le (c ∷ set) above among = (first among.0, narrowed n numbers k le set above.1 among.1)
    where
      first : IsAmong (n ∷ numbers) c → IsAmong numbers c
      first (inl same) = absurd (omega (arith, same, le, above.0))
      first (inr h) = h

  choice_none : (numbers : List ℕ) → IsChoice numbers []
  choice_none [] = refl
  choice_none (n ∷ numbers) = inl (choice_none numbers)

  choice_of : (numbers : List ℕ) → Rise numbers → (set : List CellId) → AreRising set → AllByRecursion (IsOfType s ty) set →
      AllByRecursion (IsAmong numbers) set → IsChoice numbers set
  choice_of numbers rise [] rising of among = choice_none numbers
  choice_of [] rise (c ∷ set) rising of among = absurd among.0
  choice_of (n ∷ numbers) rise (c ∷ set) rising of among = elim among.0 [
    | inl same ↦ inr (
      set,
      ap (λ (k : ℕ). numbered k ∷ set) (sym same),
      subst (λ (k : ℕ). IsOfType s ty (numbered k)) (sym same) of.0,
      choice_of numbers rise.1 set rising.1 of.1 (narrowed n numbers c.0 (omega (arith, same)) set rising.0 among.1),
    )
    | inr later ↦ let above : n < c.0 = among_above n numbers c rise.0 later in
        inl (choice_of numbers rise.1 (c ∷ set) rising of (later, narrowed n numbers c.0 (omega (arith, above)) set rising.0 among.1))
  ]

  all_among : (set : List CellId) → AllByRecursion (IsOfType s ty) set → AllByRecursion (IsAmong (keys s.cells)) set
  all_among [] of = tt
  all_among (c ∷ set) of =
      let key = key_of_live s c (IsSome-and (cell_of s c) _ of.0) in (among_at (keys s.cells) key.0 c key.1, all_among set of.1)

  set_from : (set : List CellId) → IsChoice (keys s.cells) set → IsSetOf s ty set
  set_from set c = record { rising = choice_rising (keys s.cells) (keys_rise s) set c; members = choice_members (keys s.cells) set c }

  set_to : (set : List CellId) → IsSetOf s ty set → IsChoice (keys s.cells) set
  set_to set h = choice_of (keys s.cells) (keys_rise s) set h.rising h.members (all_among set h.members)

  module _ (Is : List CellId → Type 0) where
    pub SomeSet-all : SomeSet s ty Is [] (keys s.cells) ↔ ((set : List CellId) × IsSetOf s ty set × Is set)
    SomeSet-all = (
      λ h. let r = some_from Is [] (keys s.cells) h in (r.0, set_from r.0 r.1, r.2),
      λ h. some_to Is [] (keys s.cells) h.0 (set_to h.0 h.1) h.2,
    )

    pub EachSet-all : EachSet s ty Is [] (keys s.cells) ↔ ((set : List CellId) → IsSetOf s ty set → Is set)
    EachSet-all = (
      λ h set is. each_to Is [] (keys s.cells) h set (set_to set is),
      λ h. each_from Is [] (keys s.cells) (λ set c. h set (set_from set c)),
    )
