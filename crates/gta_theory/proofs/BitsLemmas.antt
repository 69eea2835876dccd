-- On sets of numbers below a bound, as lists of bits: two with the same members are the same list.
use Rattle.std.proofs.Common.{◌≡◌, ◌≢◌, ℕ, zero, suc, ◌<◌, Bool, true, false, cond, eqb, IsTrue, ◌↔◌, ◌⊎◌, inl, inr, List, [], ◌∷◌, map}
use Rattle.std.proofs.Common.{length, drop, slice_index_or, Contains, flat_map, refl, sym, ap, ◌∙◌, arith, eq-eqb, ne_eqb, eqb-true}
use Rattle.std.specs.Bool.{one_answer}
use Rattle.std.proofs.lemmas.Bool.{eqb-false, false≢true}
use Rattle.std.proofs.lemmas.List.Elements.{All-contains, All-map}
use Rattle.gta_theory.proofs.ListsLemmas.{Contains-first, Contains-later, Contains-cases, Contains-none, All-from_contains, Contains-map}
use Rattle.gta_theory.proofs.ListsLemmas.{Contains-flat_map, All-flat_map}

-- the bit of a number, where the last bit is that of 0
pub member : List Bool → ℕ → Bool
member [] q = false
member (b ∷ bs) q = cond (eqb q (length bs)) b (member bs q)

-- the numbers below n that pass
pub bits : ℕ → (ℕ → Bool) → List Bool
bits zero test = []
bits (suc n) test = test n ∷ bits n test

pub length-bits : (n : ℕ) (test : ℕ → Bool) → length (bits n test) ≡ n
unfolding bits
length-bits zero test = refl
length-bits (suc n) test = ap suc (length-bits n test)

pub member-bits : (n : ℕ) (test : ℕ → Bool) (q : ℕ) → q < n → member (bits n test) q ≡ test q
unfolding member bits
member-bits zero test q below = absurd (omega arith)
member-bits (suc n) test q below = choose (eqb q (length (bits n test))) refl (member-bits n test q)
  where
    choose : (b : Bool) → eqb q (length (bits n test)) ≡ b → (q < n → member (bits n test) q ≡ test q) →
        cond b (test n) (member (bits n test) q) ≡ test q
    choose true is rest = ap test (sym (eqb-true q (length (bits n test)) is ∙ length-bits n test))
    choose false is rest =
        let other : q ≢ n = λ same. eqb-false q (length (bits n test)) is (same ∙ sym (length-bits n test)) in
        rest (omega arith)

-- a member is below the length
pub member-below : (bs : List Bool) (q : ℕ) → IsTrue (member bs q) → q < length bs
unfolding member
member-below [] q is = absurd (false≢true is)
member-below (b ∷ bs) q is = choose (eqb q (length bs)) refl is (member-below bs q)
  where
    choose : (c : Bool) → eqb q (length bs) ≡ c → IsTrue (cond c b (member bs q)) → (IsTrue (member bs q) → q < length bs) →
        q < suc (length bs)
    choose true here is rest = omega (arith, eqb-true q (length bs) here)
    choose false here is rest = omega (arith, rest is)

member-last : (b : Bool) (bs : List Bool) → member (b ∷ bs) (length bs) ≡ b
unfolding member
member-last b bs = λ i. cond (eq-eqb (length bs) (length bs) refl i) b (member bs (length bs))

member-early : (b : Bool) (bs : List Bool) (q : ℕ) → q < length bs → member (b ∷ bs) q ≡ member bs q
unfolding member
member-early b bs q below =
    let other : q ≢ length bs = λ same. absurd (omega arith) in
    λ i. cond (ne_eqb q (length bs) other i) b (member bs q)

-- lists of one length with the same members are the same
pub bits-same : (xs ys : List Bool) → length xs ≡ length ys → ((q : ℕ) → IsTrue (member xs q) ↔ IsTrue (member ys q)) → xs ≡ ys
bits-same [] [] long same = refl
bits-same [] (y ∷ ys) long same = absurd (omega (arith, long))
bits-same (x ∷ xs) [] long same = absurd (omega (arith, long))
bits-same (x ∷ xs) (y ∷ ys) long same =
    let long' : length xs ≡ length ys = omega (arith, long) in
    let answers : (q : ℕ) → member (x ∷ xs) q ≡ member (y ∷ ys) q
    = λ q. one_answer (member (x ∷ xs) q) (member (y ∷ ys) q) ((λ is. is), (λ is. is)) ((same q).1, (same q).0) in
    let first : x ≡ y = sym (member-last x xs) ∙ answers (length xs) ∙ ap (member (y ∷ ys)) long' ∙ member-last y ys in
    let rest : xs ≡ ys = bits-same xs ys long' (λ q. (
      (λ is.
          let below = member-below xs q is in
          sym (sym (member-early x xs q below) ∙ answers q ∙ member-early y ys q (omega (arith, below, long'))) ∙ is),
      (λ is.
          let below = member-below ys q is in
          (sym (member-early x xs q (omega (arith, below, long'))) ∙ answers q ∙ member-early y ys q below) ∙ is),
    )) in
    λ i. first i ∷ rest i

-- two lists of bits are the same or not
decide-bool : (b c : Bool) → (b ≡ c) ⊎ (b ≢ c)
decide-bool true true = inl refl
decide-bool true false = inr (λ same. false≢true (sym same))
decide-bool false true = inr false≢true
decide-bool false false = inl refl

pub decide-bits : (xs ys : List Bool) → (xs ≡ ys) ⊎ (xs ≢ ys)
decide-bits [] [] = inl refl
decide-bits [] (y ∷ ys) = inr (λ same. absurd (omega (arith, ap length same)))
decide-bits (x ∷ xs) [] = inr (λ same. absurd (omega (arith, ap length same)))
decide-bits (x ∷ xs) (y ∷ ys) = elim (decide-bool x y) as (λ _. ((x ∷ xs) ≡ (y ∷ ys)) ⊎ ((x ∷ xs) ≢ (y ∷ ys))) [
  | inr differ ↦ inr (λ same. differ (ap (λ zs. slice_index_or zs 0 true) same))
  | inl first ↦ elim (decide-bits xs ys) as (λ _. ((x ∷ xs) ≡ (y ∷ ys)) ⊎ ((x ∷ xs) ≢ (y ∷ ys))) [
    | inr differ ↦ inr (λ same. differ (ap (drop 1) same))
    | inl rest ↦ inl (λ i. first i ∷ rest i)
  ]
]

-- all lists of n bits
pub bit-lists : ℕ → List (List Bool)
bit-lists zero = [] ∷ []
bit-lists (suc n) = flat_map (λ b. map (λ bs. b ∷ bs) (bit-lists n)) (true ∷ false ∷ [])

pub Contains-bit-lists : (n : ℕ) (bs : List Bool) → length bs ≡ n → Contains (bit-lists n) bs
unfolding bit-lists
Contains-bit-lists zero [] long = Contains-first [] []
Contains-bit-lists zero (b ∷ bs) long = absurd (omega (arith, long))
Contains-bit-lists (suc n) [] long = absurd (omega (arith, long))
Contains-bit-lists (suc n) (b ∷ bs) long =
    Contains-flat_map (λ b. map (λ bs. b ∷ bs) (bit-lists n)) (true ∷ false ∷ []) b (b ∷ bs) (both b)
    (Contains-map (λ bs. b ∷ bs) (bit-lists n) bs (Contains-bit-lists n bs (omega (arith, long))))
  where
    both : (b : Bool) → Contains (true ∷ false ∷ []) b
    both true = Contains-first true (false ∷ [])
    both false = Contains-later true false (false ∷ []) (Contains-first false [])

pub bit-lists-length : (n : ℕ) (bs : List Bool) → Contains (bit-lists n) bs → length bs ≡ n
unfolding bit-lists
bit-lists-length zero bs h = elim (Contains-cases [] bs [] h) as (λ _. length bs ≡ 0) [
  | inl is ↦ ap length (sym is)
  | inr later ↦ absurd (Contains-none bs later)
]
bit-lists-length (suc n) bs h =
    All-contains (λ bs. length bs ≡ suc n) (flat_map (λ b. map (λ bs. b ∷ bs) (bit-lists n)) (true ∷ false ∷ [])) bs
    (All-flat_map (λ bs. length bs ≡ suc n) (λ b. map (λ bs. b ∷ bs) (bit-lists n)) (true ∷ false ∷ []) (λ b in_both.
    All-map (λ bs. length bs ≡ suc n) (λ bs. b ∷ bs) (bit-lists n)
    (All-from_contains (λ bs. length (b ∷ bs) ≡ suc n) (bit-lists n) (λ bs inside. ap suc (bit-lists-length n bs inside))))) h
