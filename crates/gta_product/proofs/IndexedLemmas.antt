-- Where pairs are found.
use Rattle.std.proofs.Common.{◌≡◌, ◌≢◌, ℕ, ◌<◌, ◌≤◌, ◌^◌, List, [], ◌∷◌, ◌++◌, length, Option, Some, None, slice_get, sym, ◌∙◌, ap, inl, inr, arith}
use Rattle.std.specs.Prelude.{IfNone}
use Rattle.std.specs.HashMap.{Updates}
use Rattle.std.proofs.lemmas.Bool.{cases_Bool, cases_lt}
use Rattle.gta_product.specs.Numbers.{is_pair, number_in}
use Rattle.gta_product.specs.Indexed.{Places, place_for, AreIndexed}
use Rattle.gta_product.proofs.NumbersLemmas.{is_pair-true, cases_option, some-none, number_in-get, get-snoc, AreNumbers-comes}

-- the place of a pair that isn't there may be said
pub AreIndexed-noted : (pairs : List (ℕ × ℕ)) (old new : Places) (pair : ℕ × ℕ) (place : ℕ) → number_in pairs pair ≡ None →
    Updates is_pair old new pair (Some place) → AreIndexed pairs old → AreIndexed pairs new
AreIndexed-noted pairs old new pair place none updates indexed = record {
  numbers = indexed.numbers;
  late = λ k q past there. elim (cases_Bool (is_pair pair q)) [
    | inl same ↦ absurd (some-none (number_in pairs pair) k
        (ap (number_in pairs) (is_pair-true pair q same) ∙ indexed.numbers.found k q there) none)
    | inr apart ↦ updates.2 q apart ∙ indexed.late k q past there
  ];
}

-- a pair that neither look finds isn't there
pub number-none : (pairs : List (ℕ × ℕ)) (places : Places) (pair : ℕ × ℕ) → AreIndexed pairs places →
    ((k : ℕ) → k < 8 → slice_get pairs k ≢ Some pair) → ((k : ℕ) → place_for places pair ≡ Some k → slice_get pairs k ≢ Some pair) →
    number_in pairs pair ≡ None
number-none pairs places pair indexed early late = elim (cases_option (number_in pairs pair)) [
  | inl none ↦ none
  | inr some ↦
      let there = number_in-get pairs pair some.0 some.1 in
      elim (cases_lt some.0 8) [
        | inl few ↦ absurd (early some.0 few there)
        | inr past ↦ absurd (late some.0 (indexed.late some.0 pair past there) there)
      ]
]

-- a pair comes whose place is said
pub AreIndexed-comes : (pairs : List (ℕ × ℕ)) (places : Places) (pair : ℕ × ℕ) → AreIndexed pairs places → number_in pairs pair ≡ None →
    length pairs < 2 ^ 31 → (8 ≤ length pairs → place_for places pair ≡ Some (length pairs)) → AreIndexed (pairs ++ pair ∷ []) places
AreIndexed-comes pairs places pair indexed none room noted = record {
  numbers = AreNumbers-comes pairs pair indexed.numbers none room;
  late = λ k q past there. elim (get-snoc pairs pair q k there) [
    | inl before ↦ indexed.late k q past before
    | inr last ↦ ap (place_for places) last.1 ∙ noted (let at = last.0 in omega arith)
        ∙ ap (λ (n : ℕ). let o : Option ℕ = Some n in o) (sym last.0)
  ];
}

-- what is so where nothing is found
pub IfNone-map : (found : Option ℕ) (P Q : Type 0) → (P → Q) → IfNone found P → IfNone found Q
IfNone-map None P Q so is = so is
IfNone-map (Some place) P Q so is = is
