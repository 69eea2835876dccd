-- On lists: what they contain, the numbers below a bound, pairs, and the place of an element.
use Rattle.std.proofs.Common.{◌≡◌, ◌≢◌, ℕ, zero, suc, ◌<◌, Bool, true, false, ◌⊎◌, inl, inr, List, [], ◌∷◌, map, length, slice_index_or}
use Rattle.std.proofs.Common.{nat_lt, All, Contains, AllPairs, flat_map, refl, sym, ap, subst, arith}
use Rattle.std.proofs.lemmas.Bool.{cases_eq, ltb-true, ltb-false}
use Rattle.std.proofs.lemmas.List.Elements.{All-nil, All-cons, All-append, All-map, All-contains, Contains-get_or, Contains-append_left}
use Rattle.std.proofs.lemmas.List.Elements.{Contains-append_right}

-- lists: first elements and later ones
pub Contains-first : {X : Type 0} (x : X) (xs : List X) → Contains (x ∷ xs) x
Contains-first x xs = (0, omega arith, refl)

pub Contains-later : {X : Type 0} (x y : X) (xs : List X) → Contains xs y → Contains (x ∷ xs) y
Contains-later x y xs h = (suc h.0, omega (arith, h.1), h.2)

pub Contains-cases : {X : Type 0} (x y : X) (xs : List X) → Contains (x ∷ xs) y → (x ≡ y) ⊎ Contains xs y
Contains-cases x y xs (zero, inside, is) = inl is
Contains-cases x y xs (suc k, inside, is) = inr (k, omega arith, is)

pub Contains-none : {X : Type 0} (y : X) → Contains [] y → ⊥
Contains-none y h = absurd (omega (arith, h.1))

pub All-from_contains : {X : Type 0} (P : X → Type 0) (xs : List X) → ((x : X) → Contains xs x → P x) → All P xs
All-from_contains P xs h k d inside = h _ (Contains-get_or xs k d inside)

pub Contains-map : {X Y : Type 0} (f : X → Y) (xs : List X) (x : X) → Contains xs x → Contains (map f xs) (f x)
Contains-map f [] x h = absurd (Contains-none x h)
Contains-map f (z ∷ xs) x h = elim (Contains-cases z x xs h) as (λ _. Contains (map f (z ∷ xs)) (f x)) [
  | inl is ↦ subst (λ y. Contains (map f (z ∷ xs)) (f y)) is (Contains-first (f z) (map f xs))
  | inr later ↦ Contains-later (f z) (f x) (map f xs) (Contains-map f xs x later)
]

-- what a list of images contains is an image
pub Contains-mapped : {X Y : Type 0} (f : X → Y) (xs : List X) (y : Y) → Contains (map f xs) y → (x : X) × Contains xs x × (f x ≡ y)
Contains-mapped f [] y h = absurd (Contains-none y h)
Contains-mapped {X} f (x ∷ xs) y h = elim (Contains-cases (f x) y (map f xs) h) as (λ _. (z : X) × Contains (x ∷ xs) z × (f z ≡ y)) [
  | inl is ↦ (x, Contains-first x xs, is)
  | inr later ↦ (let z = Contains-mapped f xs y later in (z.0, Contains-later x z.0 xs z.1, z.2))
]

pub Contains-flat_map : {X Y : Type 0} (f : X → List Y) (xs : List X) (x : X) (y : Y) → Contains xs x → Contains (f x) y →
    Contains (flat_map f xs) y
Contains-flat_map f [] x y h in_f = absurd (Contains-none x h)
Contains-flat_map f (z ∷ xs) x y h in_f = elim (Contains-cases z x xs h) as (λ _. Contains (flat_map f (z ∷ xs)) y) [
  | inl is ↦ Contains-append_left (f z) (flat_map f xs) y (subst (λ w. Contains (f w) y) (sym is) in_f)
  | inr later ↦ Contains-append_right (f z) (flat_map f xs) y (Contains-flat_map f xs x y later in_f)
]

pub All-flat_map : {X Y : Type 0} (P : Y → Type 0) (f : X → List Y) (xs : List X) → ((x : X) → Contains xs x → All P (f x)) →
    All P (flat_map f xs)
All-flat_map P f [] h = All-nil P
All-flat_map P f (z ∷ xs) h = All-append P (f z) (flat_map f xs) (h z (Contains-first z xs))
    (All-flat_map P f xs (λ x later. h x (Contains-later z x xs later)))

-- the numbers below n, from the last on
pub numbers : ℕ → List ℕ
numbers zero = []
numbers (suc n) = n ∷ numbers n

pub Contains-numbers : (n k : ℕ) → k < n → Contains (numbers n) k
unfolding numbers
Contains-numbers zero k below = absurd (omega arith)
Contains-numbers (suc n) k below = elim (cases_eq n k) as (λ _. Contains (n ∷ numbers n) k) [
  | inl is ↦ subst (Contains (n ∷ numbers n)) is (Contains-first n (numbers n))
  | inr other ↦ Contains-later n k (numbers n) (Contains-numbers n k (omega arith))
]

pub numbers-below : (n k : ℕ) → Contains (numbers n) k → k < n
unfolding numbers
numbers-below zero k h = absurd (Contains-none k h)
numbers-below (suc n) k h = elim (Contains-cases n k (numbers n) h) as (λ _. k < suc n) [
  | inl is ↦ omega arith
  | inr later ↦ omega (arith, numbers-below n k later)
]

-- a thing is in a list, or apart from all in it
module _ {X : Type 0} (Apart : X → X → Type 0) (Fine : X → Type 0)
    (compare : (x y : X) → Fine x → Fine y → (x ≡ y) ⊎ Apart x y) where
  pub find : (x : X) (ys : List X) → Fine x → All Fine ys → Contains ys x ⊎ All (Apart x) ys
  find x [] fine all = inr (All-nil (Apart x))
  find x (y ∷ ys) fine all = elim (compare x y fine (All-contains Fine (y ∷ ys) y all (Contains-first y ys)))
      as (λ _. Contains (y ∷ ys) x ⊎ All (Apart x) (y ∷ ys)) [
        | inl is ↦ inl (subst (Contains (y ∷ ys)) (sym is) (Contains-first y ys))
        | inr apart ↦ elim (find x ys fine (All-from_contains Fine ys (λ z later. All-contains Fine (y ∷ ys) z all (Contains-later y z ys later))))
            as (λ _. Contains (y ∷ ys) x ⊎ All (Apart x) (y ∷ ys)) [
              | inl later ↦ inl (Contains-later y x ys later)
              | inr all_apart ↦ inr (All-cons (Apart x) y ys apart all_apart)
            ]
      ]

-- two pairs are the same or not
pub compare-pairs : {Q R : Type 0} → ((p q : Q) → (p ≡ q) ⊎ (p ≢ q)) → ((x y : R) → (x ≡ y) ⊎ (x ≢ y)) →
    (x y : Q × R) → (x ≡ y) ⊎ (x ≢ y)
compare-pairs decide decide_other x y = elim (decide x.0 y.0) as (λ _. (x ≡ y) ⊎ (x ≢ y)) [
  | inr differ ↦ inr (λ same. differ (ap (λ z. z.0) same))
  | inl one ↦ elim (decide_other x.1 y.1) as (λ _. (x ≡ y) ⊎ (x ≢ y)) [
    | inr differ ↦ inr (λ same. differ (ap (λ z. z.1) same))
    | inl other ↦ inl (λ i. (one i, other i))
  ]
]

-- all pairs of two lists
pub all-pairs : {Q R : Type 0} → List Q → List R → List (Q × R)
all-pairs xs ys = flat_map (λ x. map (λ y. (x, y)) ys) xs

pub Contains-all-pairs : {Q R : Type 0} (xs : List Q) (ys : List R) (x : Q) (y : R) → Contains xs x → Contains ys y →
    Contains (all-pairs xs ys) (x, y)
unfolding all-pairs
Contains-all-pairs xs ys x y in_x in_y = Contains-flat_map (λ x. map (λ y. (x, y)) ys) xs x (x, y) in_x (Contains-map (λ y. (x, y)) ys y in_y)

pub all-pairs-inside : {Q R : Type 0} (xs : List Q) (ys : List R) (z : Q × R) → Contains (all-pairs xs ys) z → Contains xs z.0 × Contains ys z.1
unfolding all-pairs
all-pairs-inside xs ys z h =
    All-contains (λ z. Contains xs z.0 × Contains ys z.1) (flat_map (λ x. map (λ y. (x, y)) ys) xs) z
    (All-flat_map (λ z. Contains xs z.0 × Contains ys z.1) (λ x. map (λ y. (x, y)) ys) xs (λ x in_x.
    All-map (λ z. Contains xs z.0 × Contains ys z.1) (λ y. (x, y)) ys
    (All-from_contains (λ y. Contains xs x × Contains ys y) ys (λ y in_y. (in_x, in_y))))) h

-- the place of an element
module _ {Q : Type 0} (decide : (p q : Q) → (p ≡ q) ⊎ (p ≢ q)) where
  pub place : List Q → Q → ℕ
  place [] q = 0
  place (x ∷ xs) q = elim (decide x q) as (λ _. ℕ) [
    | inl is ↦ 0
    | inr other ↦ suc (place xs q)
  ]

  pub place-is : (xs : List Q) (q d : Q) → Contains xs q → (place xs q < length xs) × (slice_index_or xs (place xs q) d ≡ q)
  unfolding place
  place-is [] q d h = absurd (Contains-none q h)
  place-is (x ∷ xs) q d h = choose (decide x q)
      (λ other. place-is xs q d (elim (Contains-cases x q xs h) as (λ _. Contains xs q) [
        | inl is ↦ absurd (other is)
        | inr later ↦ later
      ]))
    where
      choose : (c : (x ≡ q) ⊎ (x ≢ q)) → (x ≢ q → (place xs q < length xs) × (slice_index_or xs (place xs q) d ≡ q)) →
          (elim c as (λ _. ℕ) [ inl is ↦ 0 | inr other ↦ suc (place xs q) ] < suc (length xs))
          × (slice_index_or (x ∷ xs) (elim c as (λ _. ℕ) [ inl is ↦ 0 | inr other ↦ suc (place xs q) ]) d ≡ q)
      choose (inl is) rest = (omega arith, is)
      choose (inr other) rest = let r = rest other in (omega (arith, r.0), r.1)

-- elements at two places of a list without repeats are two
pub place-once : {Q : Type 0} (xs : List Q) → AllPairs (λ x y. x ≢ y) xs → (i j : ℕ) (d : Q) → i < length xs → j < length xs →
    slice_index_or xs i d ≡ slice_index_or xs j d → i ≡ j
place-once xs once i j d in_i in_j same = choose (nat_lt i j) (nat_lt j i) refl refl
  where
    choose : (b c : Bool) → nat_lt i j ≡ b → nat_lt j i ≡ c → i ≡ j
    choose true c less other = absurd (once i j d (ltb-true i j less) in_j same)
    choose false true less other = absurd (once j i d (ltb-true j i other) in_i (sym same))
    choose false false less other = omega (arith, ltb-false i j less, ltb-false j i other)
