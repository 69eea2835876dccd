-- Lists in rising order with the same states are the same.
use Rattle.std.proofs.Common.{◌≡◌, ℕ, suc, ◌+◌, ◌<◌, Bool, false, ◌||◌, if◌then◌else◌, List, [], ◌∷◌, length, Contains, nat_lt, nat_eq, slice_index}
use Rattle.std.proofs.Common.{refl, sym, ◌∙◌, ap, subst, inl, inr, arith, ◌⊎◌}
use Rattle.std.specs.Prelude.{IsTrue}
use Rattle.std.specs.List.Sorted.{IsStrictlyIncreasing}
use Rattle.std.proofs.lemmas.Bool.{cases_Bool, eqb-true, eq-eqb, false≢true, ltb-true, ltb-false}
use Rattle.bdd_walk.proofs.ContainsLemmas.{Contains-first, Contains-later, Contains-cases, Contains-none}
use Rattle.bdd_walk.specs.Sets.{put, set_of, has_state}

-- all states of the list are later
pub Above : ℕ → List ℕ → Type 0
Above n [] = Unit {0}
Above n (x ∷ xs) = (n < x) × Above n xs

-- each state is before all that follow
pub Rises : List ℕ → Type 0
Rises [] = Unit {0}
Rises (x ∷ xs) = Above x xs × Rises xs

above-in : (n : ℕ) (xs : List ℕ) (q : ℕ) → Above n xs → Contains xs q → n < q
unfolding Above
above-in n [] q above there = absurd (Contains-none q there)
above-in n (x ∷ xs) q above there = elim (Contains-cases x q xs there) [
  | inl is ↦ subst (λ (m : ℕ). n < m) is above.0
  | inr later ↦ above-in n xs q above.1 later
]

above-less : (m n : ℕ) (xs : List ℕ) → m < n → Above n xs → Above m xs
unfolding Above
above-less m n [] less above = tt
above-less m n (x ∷ xs) less above = (omega (arith, above.0), above-less m n xs less above.1)

-- what a rising list has tells which it is
pub rises-same : (xs ys : List ℕ) → Rises xs → Rises ys → ((q : ℕ) → Contains xs q → Contains ys q) → ((q : ℕ) → Contains ys q → Contains xs q) → xs ≡ ys
unfolding Rises
rises-same [] [] up_x up_y there back = refl
rises-same [] (y ∷ ys) up_x up_y there back = absurd (Contains-none y (back y (Contains-first y ys)))
rises-same (x ∷ xs) [] up_x up_y there back = absurd (Contains-none x (there x (Contains-first x xs)))
rises-same (x ∷ xs) (y ∷ ys) up_x up_y there back =
    ap (λ (n : ℕ). n ∷ xs) first ∙ ap (λ (ns : List ℕ). y ∷ ns) (rises-same xs ys up_x.1 up_y.1 there_later back_later)
  where
    first : x ≡ y
    first = elim (Contains-cases y x ys (there x (Contains-first x xs))) [
      | inl is ↦ sym is
      | inr later ↦ elim (Contains-cases x y xs (back y (Contains-first y ys))) [
        | inl is ↦ is
        | inr other ↦ absurd (let a : y < x = above-in y ys x up_y.0 later in let b : x < y = above-in x xs y up_x.0 other in omega (arith, a, b))
      ]
    ]

    there_later : (q : ℕ) → Contains xs q → Contains ys q
    there_later q in_x = elim (Contains-cases y q ys (there q (Contains-later x q xs in_x))) [
      | inl is ↦ absurd (let a : x < q = above-in x xs q up_x.0 in_x in omega (arith, a, first, is))
      | inr later ↦ later
    ]

    back_later : (q : ℕ) → Contains ys q → Contains xs q
    back_later q in_y = elim (Contains-cases x q xs (back q (Contains-later y q ys in_y))) [
      | inl is ↦ absurd (let a : y < q = above-in y ys q up_y.0 in_y in omega (arith, a, first, is))
      | inr later ↦ later
    ]

-- a state put in
above-put : (n q : ℕ) (xs : List ℕ) → n < q → Above n xs → Above n (put q xs)
unfolding Above
above-put n q [] less above = (less, tt)
above-put n q (x ∷ xs) less above = elim (cases_Bool (nat_lt q x)) [
  | inl before ↦ subst (λ (b : Bool). Above n (if b then q ∷ x ∷ xs else (if nat_lt x q then x ∷ put q xs else x ∷ xs))) (sym before) (less, above)
  | inr other ↦ subst (λ (b : Bool). Above n (if b then q ∷ x ∷ xs else (if nat_lt x q then x ∷ put q xs else x ∷ xs))) (sym other)
      (elim (cases_Bool (nat_lt x q)) [
        | inl after ↦ subst (λ (b : Bool). Above n (if b then x ∷ put q xs else x ∷ xs)) (sym after) (above.0, above-put n q xs less above.1)
        | inr equal ↦ subst (λ (b : Bool). Above n (if b then x ∷ put q xs else x ∷ xs)) (sym equal) above
      ])
]

rises-put : (q : ℕ) (xs : List ℕ) → Rises xs → Rises (put q xs)
unfolding Rises Above
rises-put q [] up = (tt, tt)
rises-put q (x ∷ xs) up = elim (cases_Bool (nat_lt q x)) [
  | inl before ↦ subst (λ (b : Bool). Rises (if b then q ∷ x ∷ xs else (if nat_lt x q then x ∷ put q xs else x ∷ xs))) (sym before)
      ((ltb-true q x before, above-less q x xs (ltb-true q x before) up.0), up)
  | inr other ↦ subst (λ (b : Bool). Rises (if b then q ∷ x ∷ xs else (if nat_lt x q then x ∷ put q xs else x ∷ xs))) (sym other)
      (elim (cases_Bool (nat_lt x q)) [
        | inl after ↦ subst (λ (b : Bool). Rises (if b then x ∷ put q xs else x ∷ xs)) (sym after)
            (above-put x q xs (ltb-true x q after) up.0, rises-put q xs up.1)
        | inr equal ↦ subst (λ (b : Bool). Rises (if b then x ∷ put q xs else x ∷ xs)) (sym equal) up
      ])
]

pub rises-set_of : (xs : List ℕ) → Rises (set_of xs)
unfolding Rises
rises-set_of [] = tt
rises-set_of (x ∷ xs) = rises-put x (set_of xs) (rises-set_of xs)

equal-numbers : (q x : ℕ) → nat_lt q x ≡ false → nat_lt x q ≡ false → x ≡ q
equal-numbers q x other equal = omega (arith, ltb-false q x other, ltb-false x q equal)

-- what the set has
put-has : (q : ℕ) (xs : List ℕ) → Contains (put q xs) q
put-has q [] = Contains-first q []
put-has q (x ∷ xs) = elim (cases_Bool (nat_lt q x)) [
  | inl before ↦ subst (λ (b : Bool). Contains (if b then q ∷ x ∷ xs else (if nat_lt x q then x ∷ put q xs else x ∷ xs)) q) (sym before)
      (Contains-first q (x ∷ xs))
  | inr other ↦ subst (λ (b : Bool). Contains (if b then q ∷ x ∷ xs else (if nat_lt x q then x ∷ put q xs else x ∷ xs)) q) (sym other)
      (elim (cases_Bool (nat_lt x q)) [
        | inl after ↦ subst (λ (b : Bool). Contains (if b then x ∷ put q xs else x ∷ xs) q) (sym after) (Contains-later x q (put q xs) (put-has q xs))
        | inr equal ↦ subst (λ (b : Bool). Contains (if b then x ∷ put q xs else x ∷ xs) q) (sym equal)
            (subst (λ (n : ℕ). Contains (x ∷ xs) n) (equal-numbers q x other equal) (Contains-first x xs))
      ])
]

put-keeps : (q p : ℕ) (xs : List ℕ) → Contains xs p → Contains (put q xs) p
put-keeps q p [] there = absurd (Contains-none p there)
put-keeps q p (x ∷ xs) there = elim (cases_Bool (nat_lt q x)) [
  | inl before ↦ subst (λ (b : Bool). Contains (if b then q ∷ x ∷ xs else (if nat_lt x q then x ∷ put q xs else x ∷ xs)) p) (sym before)
      (Contains-later q p (x ∷ xs) there)
  | inr other ↦ subst (λ (b : Bool). Contains (if b then q ∷ x ∷ xs else (if nat_lt x q then x ∷ put q xs else x ∷ xs)) p) (sym other)
      (elim (cases_Bool (nat_lt x q)) [
        | inl after ↦ subst (λ (b : Bool). Contains (if b then x ∷ put q xs else x ∷ xs) p) (sym after)
            (elim (Contains-cases x p xs there) [
              | inl is ↦ subst (λ (n : ℕ). Contains (x ∷ put q xs) n) is (Contains-first x (put q xs))
              | inr later ↦ Contains-later x p (put q xs) (put-keeps q p xs later)
            ])
        | inr equal ↦ subst (λ (b : Bool). Contains (if b then x ∷ put q xs else x ∷ xs) p) (sym equal) there
      ])
]

put-only : (q p : ℕ) (xs : List ℕ) → Contains (put q xs) p → (q ≡ p) ⊎ Contains xs p
put-only q p [] there = elim (Contains-cases q p [] there) [ inl is ↦ inl is | inr later ↦ inr later ]
put-only q p (x ∷ xs) there = elim (cases_Bool (nat_lt q x)) [
  | inl before ↦ Contains-cases q p (x ∷ xs)
      (subst (λ (b : Bool). Contains (if b then q ∷ x ∷ xs else (if nat_lt x q then x ∷ put q xs else x ∷ xs)) p) before there)
  | inr other ↦
      (let rest = subst (λ (b : Bool). Contains (if b then q ∷ x ∷ xs else (if nat_lt x q then x ∷ put q xs else x ∷ xs)) p) other there in
      elim (cases_Bool (nat_lt x q)) [
        | inl after ↦
            elim (Contains-cases x p (put q xs) (subst (λ (b : Bool). Contains (if b then x ∷ put q xs else x ∷ xs) p) after rest)) [
              | inl is ↦ inr (subst (λ (n : ℕ). Contains (x ∷ xs) n) is (Contains-first x xs))
              | inr later ↦ elim (put-only q p xs later) [ inl is ↦ inl is | inr old ↦ inr (Contains-later x p xs old) ]
            ]
        | inr equal ↦ inr (subst (λ (b : Bool). Contains (if b then x ∷ put q xs else x ∷ xs) p) equal rest)
      ])
]

pub set_of-has : (xs : List ℕ) (q : ℕ) → Contains xs q → Contains (set_of xs) q
set_of-has [] q there = absurd (Contains-none q there)
set_of-has (x ∷ xs) q there = elim (Contains-cases x q xs there) [
  | inl is ↦ subst (λ (n : ℕ). Contains (put x (set_of xs)) n) is (put-has x (set_of xs))
  | inr later ↦ put-keeps x q (set_of xs) (set_of-has xs q later)
]

pub set_of-only : (xs : List ℕ) (q : ℕ) → Contains (set_of xs) q → Contains xs q
set_of-only [] q there = absurd (Contains-none q there)
set_of-only (x ∷ xs) q there = elim (put-only x q (set_of xs) there) [
  | inl is ↦ subst (λ (n : ℕ). Contains (x ∷ xs) n) is (Contains-first x xs)
  | inr later ↦ Contains-later x q xs (set_of-only xs q later)
]

-- lists with the same states have the same set
pub set_of-same : (xs ys : List ℕ) → ((q : ℕ) → Contains xs q → Contains ys q) → ((q : ℕ) → Contains ys q → Contains xs q) → set_of xs ≡ set_of ys
set_of-same xs ys there back = rises-same (set_of xs) (set_of ys) (rises-set_of xs) (rises-set_of ys)
    (λ q is. set_of-has ys q (there q (set_of-only xs q is)))
    (λ q is. set_of-has xs q (back q (set_of-only ys q is)))

-- a rising list with those states is the set
pub set_of-is : (xs ys : List ℕ) → Rises ys → ((q : ℕ) → Contains xs q → Contains ys q) → ((q : ℕ) → Contains ys q → Contains xs q) → ys ≡ set_of xs
set_of-is xs ys up there back = rises-same ys (set_of xs) up (rises-set_of xs)
    (λ q is. set_of-has xs q (back q is)) (λ q is. there q (set_of-only xs q is))

pub set_of-twice : (xs : List ℕ) → set_of (set_of xs) ≡ set_of xs
set_of-twice xs = set_of-same (set_of xs) xs (set_of-only xs) (set_of-has xs)

-- sets with the same states are the same
pub sets-same : (xs ys : List ℕ) → set_of xs ≡ xs → set_of ys ≡ ys → ((q : ℕ) → Contains xs q → Contains ys q) → ((q : ℕ) → Contains ys q → Contains xs q)
    → xs ≡ ys
sets-same xs ys set_x set_y there back = sym set_x ∙ set_of-same xs ys there back ∙ set_y

-- rising, place by place
rises-above : (x : ℕ) (xs : List ℕ) → ((k : ℕ) → k + 1 < length (x ∷ xs) → slice_index (x ∷ xs) k < slice_index (x ∷ xs) (k + 1)) → Above x xs
unfolding Above
rises-above x [] up = tt
rises-above x (y ∷ ys) up =
    let less : x < y = up 0 (omega arith) in (
      less,
      above-less x y ys less (rises-above y ys (λ k within.
          let next : suc k + 1 ≡ suc (k + 1) = omega arith in
          subst (λ (n : ℕ). slice_index (x ∷ y ∷ ys) (suc k) < slice_index (x ∷ y ∷ ys) n) next (up (suc k) (omega arith)))),
    )

pub Rises-increasing : (xs : List ℕ) → IsStrictlyIncreasing xs → Rises xs
unfolding Rises
Rises-increasing [] up = tt
Rises-increasing (x ∷ xs) up = (
  rises-above x xs up,
  Rises-increasing xs (λ k within.
      let next : suc k + 1 ≡ suc (k + 1) = omega arith in
      subst (λ (n : ℕ). slice_index (x ∷ xs) (suc k) < slice_index (x ∷ xs) n) next (up (suc k) (omega arith))),
)

-- the test of a state
pub has_state-true : (xs : List ℕ) (q : ℕ) → Contains xs q → IsTrue (has_state xs q)
has_state-true [] q there = absurd (Contains-none q there)
has_state-true (x ∷ xs) q there = elim (Contains-cases x q xs there) [
  | inl is ↦ ap (λ (b : Bool). b || has_state xs q) (eq-eqb q x (sym is))
  | inr later ↦ elim (cases_Bool (nat_eq q x)) [
    | inl same ↦ ap (λ (b : Bool). b || has_state xs q) same
    | inr other ↦ ap (λ (b : Bool). b || has_state xs q) other ∙ has_state-true xs q later
  ]
]

pub Contains-has_state : (xs : List ℕ) (q : ℕ) → IsTrue (has_state xs q) → Contains xs q
Contains-has_state [] q is = absurd (false≢true is)
Contains-has_state (x ∷ xs) q is = elim (cases_Bool (nat_eq q x)) [
  | inl same ↦ subst (λ (n : ℕ). Contains (x ∷ xs) n) (sym (eqb-true q x same)) (Contains-first x xs)
  | inr other ↦ Contains-later x q xs (Contains-has_state xs q (sym (ap (λ (b : Bool). b || has_state xs q) other) ∙ is))
]
