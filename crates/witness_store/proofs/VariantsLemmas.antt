-- The variants of all types, one after the other.
use Rattle.std.proofs.Common.{◌≡◌, ℕ, zero, suc, ◌+◌, ◌<◌, true, cond, nat_lt, inl, inr, List, [], ◌∷◌, ◌++◌, length, take, slice_get, Some, None, refl, sym}
use Rattle.std.proofs.Common.{ap, ◌∙◌, subst, arith, append_assoc, append-nil, length-append}
use Rattle.std.specs.Option.{option_map_or}
use Rattle.store_core.specs.declared.ids.VariantId.{VariantId}
use Rattle.store_core.specs.Tables.{TypeEntry, count_of_variants, variant_count}
use Rattle.std.proofs.lemmas.List.Sums.{sum_by-cons}
use Rattle.std.proofs.lemmas.Bool.Decides.{nat_tests}
use Rattle.std.proofs.lemmas.Option.{same_Some}
use Rattle.tree_encode.specs.Counting.{variants_in}
use Rattle.tree_encode.specs.Tracks.{variants_at, variants_from, track_at, variant_track}
use Rattle.witness_store.proofs.ListsLemmas.{appended, present}

abbrev variant_at : ℕ → ℕ → VariantId
variant_at ty i = record { ty = record { 0 = ty }; index = i }

-- one variant more of a type
pub variants_at-more : (ty i n : ℕ) → variants_at ty i (suc n) ≡ variants_at ty i n ++ variant_at ty (i + n) ∷ []
variants_at-more ty i zero = let number : i ≡ i + 0 = omega arith in ap (λ k. variant_at ty k ∷ []) number
variants_at-more ty i (suc n) =
    let number : suc i + n ≡ i + suc n = omega arith in
    ap (λ l. variant_at ty i ∷ l) (variants_at-more ty (suc i) n ∙ ap (λ k. variants_at ty (suc i) n ++ variant_at ty k ∷ []) number)

-- one type more
variants_from-more : (m : ℕ) (types : List TypeEntry) (k : ℕ) (t : TypeEntry) → slice_get types k ≡ Some t →
    variants_from m (take (suc k) types) ≡ variants_from m (take k types) ++ variants_at (m + k) 0 (count_of_variants t)
variants_from-more m [] k t at = absurd (cc)
variants_from-more m (s ∷ types) zero t at =
    let same : s ≡ t = cc in
    let number : m ≡ m + 0 = omega arith in
    append-nil (variants_at m 0 (count_of_variants s)) ∙ ap (λ (u : TypeEntry). variants_at m 0 (count_of_variants u)) same
    ∙ ap (λ j. variants_at j 0 (count_of_variants t)) number
variants_from-more m (s ∷ types) (suc k) t at =
    let number : suc m + k ≡ m + suc k = omega arith in
    ap (λ l. variants_at m 0 (count_of_variants s) ++ l) (variants_from-more (suc m) types k t at
    ∙ ap (λ j. variants_from (suc m) (take k types) ++ variants_at j 0 (count_of_variants t)) number)
    ∙ sym (append_assoc (variants_at m 0 (count_of_variants s)) (variants_from (suc m) (take k types)) (variants_at (m + suc k) 0 (count_of_variants t)))

pub variants-next : (types : List TypeEntry) (k : ℕ) → k < length types →
    variants_from 0 (take (k + 1) types) ≡ variants_from 0 (take k types) ++ variants_at k 0 (variant_count types (record { 0 = k }))
variants-next types k less =
    let (t, at) = present types k less in
    let one : k + 1 ≡ suc k = omega arith in
    let none : 0 + k ≡ k = omega arith in
    ap (λ j. variants_from 0 (take j types)) one ∙ variants_from-more 0 types k t at
    ∙ ap (λ j. variants_from 0 (take k types) ++ variants_at j 0 (count_of_variants t)) none
    ∙ ap (λ o. variants_from 0 (take k types) ++ variants_at k 0 (option_map_or count_of_variants o 0)) (sym at)

pub more-variants : (ty n : ℕ) (old now : List VariantId) → now ≡ old ++ variants_at ty 0 n →
    now ++ variant_at ty n ∷ [] ≡ old ++ variants_at ty 0 (n + 1)
more-variants ty n old now is =
    let one : n + 1 ≡ suc n = omega arith in
    let none : 0 + n ≡ n = omega arith in
    ap (λ l. l ++ variant_at ty n ∷ []) is ∙ append_assoc old (variants_at ty 0 n) (variant_at ty n ∷ [])
    ∙ ap (λ k. old ++ (variants_at ty 0 n ++ variant_at ty k ∷ [])) (sym none)
    ∙ ap (λ l. old ++ l) (sym (variants_at-more ty 0 n)) ∙ ap (λ k. old ++ variants_at ty 0 k) (sym one)

-- ---- the track of a variant that is listed

record IsListedAt (ty i n k : ℕ) (v : VariantId) : Type 0 where
  inside : k < n
  is : v ≡ variant_at ty (i + k)

listed-at : (ty i n k : ℕ) (v : VariantId) → slice_get (variants_at ty i n) k ≡ Some v → IsListedAt ty i n k v
listed-at ty i zero k v at = absurd (cc)
listed-at ty i (suc n) zero v at =
    let number : i ≡ i + 0 = omega arith in
    record { inside = omega arith; is = sym (same_Some (variant_at ty i) v at) ∙ ap (variant_at ty) number }
listed-at ty i (suc n) (suc k) v at =
    let rest = listed-at ty (suc i) n k v at in
    let less = rest.inside in
    let number : suc i + k ≡ i + suc k = omega arith in
    record { inside = omega arith; is = rest.is ∙ ap (variant_at ty) number }

pub length-variants_at : (ty i n : ℕ) → length (variants_at ty i n) ≡ n
length-variants_at ty i zero = refl
length-variants_at ty i (suc n) = ap (λ m. suc m) (length-variants_at ty (suc i) n)

record IsListed (m : ℕ) (types : List TypeEntry) (k : ℕ) (v : VariantId) : Type 0 where
  type : ℕ
  entry : TypeEntry
  there : slice_get types type ≡ Some entry
  number : v.ty.0 ≡ m + type
  inside : v.index < count_of_variants entry
  place : k ≡ variants_in (take type types) + v.index

listed : (m : ℕ) (types : List TypeEntry) (k : ℕ) (v : VariantId) → slice_get (variants_from m types) k ≡ Some v → IsListed m types k v
listed m [] k v at = absurd (cc)
listed m (t ∷ types) k v at = elim (appended (variants_at m 0 (count_of_variants t)) (variants_from (suc m) types) k v at) [
  | inl front ↦
      let h = listed-at m 0 (count_of_variants t) k v front in
      let less = h.inside in
      let index : v.index ≡ 0 + k = ap (λ (w : VariantId). w.index) h.is in
      let type_is : v.ty.0 ≡ m = ap (λ (w : VariantId). w.ty.0) h.is in
      record { type = 0; entry = t; there = refl; number = omega arith; inside = omega arith; place = omega arith }
  | inr back ↦
      let rest = listed (suc m) types back.0 v back.2 in
      let long = length-variants_at m 0 (count_of_variants t) in
      let is = back.1 in
      let number = rest.number in
      let place = rest.place in
      let more = sum_by-cons count_of_variants t (take rest.type types) in
      record { type = suc rest.type; entry = rest.entry; there = rest.there; number = omega arith; inside = rest.inside; place = omega arith }
]

-- the place of a variant in the list is the number of its track
pub listed-track : (types : List TypeEntry) (k : ℕ) (v : VariantId) → slice_get (variants_from 0 types) k ≡ Some v → variant_track types v ≡ Some (track_at k)
listed-track types k v at =
    let h = listed 0 types k v at in
    let type : v.ty.0 ≡ h.type = (let e = h.number in omega arith) in
    let entry : slice_get types v.ty.0 ≡ Some h.entry = ap (slice_get types) type ∙ h.there in
    let known : v.index < variant_count types v.ty = subst (λ o. v.index < option_map_or count_of_variants o 0) (sym entry) h.inside in
    let place : variants_in (take v.ty.0 types) + v.index ≡ k = ap (λ n. variants_in (take n types) + v.index) type ∙ sym h.place in
    ap (λ b. cond b (Some (track_at (variants_in (take v.ty.0 types) + v.index))) None) (true-lt v.index (variant_count types v.ty) known)
    ∙ ap (λ n. Some (track_at n)) place
  where
    true-lt : (i n : ℕ) → i < n → nat_lt i n ≡ true
    true-lt i n less = grind (arith, nat_tests)

pub length-variants_from : (m : ℕ) (types : List TypeEntry) → length (variants_from m types) ≡ variants_in types
length-variants_from m [] = refl
length-variants_from m (t ∷ types) =
    let both = length-append (variants_at m 0 (count_of_variants t)) (variants_from (suc m) types) in
    let one = length-variants_at m 0 (count_of_variants t) in
    let rest = length-variants_from (suc m) types in
    let sum = sum_by-cons count_of_variants t types in omega arith
