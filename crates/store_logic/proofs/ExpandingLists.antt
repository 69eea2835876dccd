-- On lists that are appended: what stands at a place, and what holds of each element.
use Rattle.std.proofs.Common.{◌≡◌, ℕ, zero, suc, ◌+◌, ◌<◌, List, [], ◌∷◌, ◌++◌, length, flat_map, Some}
use Rattle.std.proofs.Common.{slice_get, refl, ap, ◌∙◌, subst, arith}
use Rattle.std.specs.List.{AllByRecursion}

-- ---- places

pub slice_get-first : {X : Type 0} (xs ys : List X) (k : ℕ) → k < length xs → slice_get (xs ++ ys) k ≡ slice_get xs k
slice_get-first [] ys k inside = absurd (omega arith)
slice_get-first (x ∷ xs) ys zero inside = refl
slice_get-first (x ∷ xs) ys (suc k) inside = slice_get-first xs ys k (omega arith)

pub slice_get-later : {X : Type 0} (xs ys : List X) (k n : ℕ) → n ≡ k + length xs → slice_get (xs ++ ys) n ≡ slice_get ys k
slice_get-later [] ys k n is = let same : n ≡ k = omega arith in ap (slice_get ys) same
slice_get-later (x ∷ xs) ys k n is =
    let next : n ≡ suc (k + length xs) = omega arith in
    ap (slice_get (x ∷ (xs ++ ys))) next ∙ slice_get-later xs ys k (k + length xs) refl

pub slice_get-seam : {X : Type 0} (xs : List X) (y : X) (ys : List X) → slice_get (xs ++ y ∷ ys) (length xs) ≡ Some y
slice_get-seam xs y ys = slice_get-later xs (y ∷ ys) 0 (length xs) (omega arith)

-- ---- empty lists

pub append-empty : {X : Type 0} (xs ys : List X) → xs ≡ [] → ys ≡ [] → xs ++ ys ≡ []
append-empty xs ys first second = ap (λ l. l ++ ys) first ∙ second

pub first-empty : {X : Type 0} (xs ys : List X) → xs ++ ys ≡ [] → xs ≡ []
first-empty [] ys h = refl
first-empty (x ∷ xs) ys h = absurd cc

pub second-empty : {X : Type 0} (xs ys : List X) → xs ++ ys ≡ [] → ys ≡ []
second-empty [] ys h = h
second-empty (x ∷ xs) ys h = absurd cc

-- ---- each element

module _ {X : Type 0} (P : X → Type 0) where
  pub all-first : (xs ys : List X) → AllByRecursion P (xs ++ ys) → AllByRecursion P xs
  all-first [] ys h = tt
  all-first (x ∷ xs) ys h = (h.0, all-first xs ys h.1)

  pub all-second : (xs ys : List X) → AllByRecursion P (xs ++ ys) → AllByRecursion P ys
  all-second [] ys h = h
  all-second (x ∷ xs) ys h = all-second xs ys h.1

  pub all-append : (xs ys : List X) → AllByRecursion P xs → AllByRecursion P ys → AllByRecursion P (xs ++ ys)
  all-append [] ys h k = k
  all-append (x ∷ xs) ys h k = (h.0, all-append xs ys h.1 k)

  -- and of each element of the list that one of them gives
  pub all-at : {Y : Type 0} (f : Y → List X) (ys : List Y) (k : ℕ) (y : Y) → slice_get ys k ≡ Some y → AllByRecursion P (flat_map f ys) →
      AllByRecursion P (f y)
  all-at f [] k y at h = absurd cc
  all-at f (z ∷ ys) zero y at h = let same : z ≡ y = cc in subst (λ w. AllByRecursion P (f w)) same (all-first (f z) (flat_map f ys) h)
  all-at f (z ∷ ys) (suc k) y at h = all-at f ys k y at (all-second (f z) (flat_map f ys) h)
