-- On lists: what stands in two lists one after the other, in the first elements, and in the rest.
use Rattle.std.proofs.Common.{◌≡◌, ◌⊎◌, ℕ, zero, suc, ◌+◌, ◌<◌, true, false, eqb, inl, inr, List, [], ◌∷◌, ◌++◌, length, map, take, drop, slice_get, get_or}
use Rattle.std.proofs.Common.{Some, refl, sym, ap, ◌∙◌, arith, eqb-true, ne_eqb}
use Rattle.std.specs.List.{list_any}
use Rattle.std.proofs.lemmas.List.Folds.{Any-from_list_any}
use Rattle.std.proofs.lemmas.Map.Keys.{IsDistinct-from_apart}
use Rattle.std.proofs.lemmas.Map.Steps.{length-le_from_distinct_below}
use Rattle.std.proofs.lemmas.Option.{slice_get-get_or, same_Some}

pub appended : {X : Type 0} (xs ys : List X) (i : ℕ) (x : X) → slice_get (xs ++ ys) i ≡ Some x →
    (slice_get xs i ≡ Some x) ⊎ ((k : ℕ) × (i ≡ length xs + k) × (slice_get ys k ≡ Some x))
appended [] ys i x at = inr (i, omega arith, at)
appended (y ∷ xs) ys zero x at = inl at
appended (y ∷ xs) ys (suc i) x at = elim (appended xs ys i x at) [
  | inl front ↦ inl front
  | inr back ↦ inr (back.0, (let e : i ≡ length xs + back.0 = back.1 in omega arith), back.2)
]

pub present : {X : Type 0} (xs : List X) (k : ℕ) → k < length xs → (x : X) × (slice_get xs k ≡ Some x)
present [] k less = absurd (omega arith)
present (x ∷ xs) zero less = (x, refl)
present (x ∷ xs) (suc k) less = present xs k (omega arith)

pub take-next : {X : Type 0} (xs : List X) (i : ℕ) (x : X) → slice_get xs i ≡ Some x → take (i + 1) xs ≡ take i xs ++ x ∷ []
take-next [] i x at = absurd (cc)
take-next (y ∷ xs) zero x at = ap (λ z. z ∷ []) (same_Some y x at)
take-next (y ∷ xs) (suc i) x at = let n : suc i + 1 ≡ suc (i + 1) = omega arith in ap (λ m. take m (y ∷ xs)) n ∙ ap (λ l. y ∷ l) (take-next xs i x at)

pub length-front : {X : Type 0} (xs : List X) (i : ℕ) (x : X) → slice_get xs i ≡ Some x → length (take i xs) ≡ i
length-front [] i x at = absurd (cc)
length-front (y ∷ xs) zero x at = refl
length-front (y ∷ xs) (suc i) x at = ap suc (length-front xs i x at)

pub take-whole : {X : Type 0} (xs : List X) → take (length xs) xs ≡ xs
take-whole [] = refl
take-whole (x ∷ xs) = ap (λ l. x ∷ l) (take-whole xs)

pub drop-here : {X : Type 0} (xs : List X) (i : ℕ) (x : X) → slice_get xs i ≡ Some x → drop i xs ≡ x ∷ drop (i + 1) xs
drop-here [] i x at = absurd (cc)
drop-here (y ∷ xs) zero x at = ap (λ z. z ∷ xs) (same_Some y x at)
drop-here (y ∷ xs) (suc i) x at = let n : suc i + 1 ≡ suc (i + 1) = omega arith in drop-here xs i x at ∙ ap (λ m. x ∷ drop m (y ∷ xs)) (sym n)

pub drop-past : {X : Type 0} (xs : List X) (i : ℕ) → length xs < suc i → drop i xs ≡ []
drop-past [] zero past = refl
drop-past [] (suc i) past = refl
drop-past (x ∷ xs) zero past = absurd (omega arith)
drop-past (x ∷ xs) (suc i) past = drop-past xs i (omega arith)

pub mapped-at : {X Y : Type 0} (f : X → Y) (xs : List X) (k : ℕ) (y : Y) → slice_get (map f xs) k ≡ Some y → (x : X) × (slice_get xs k ≡ Some x) × (f x ≡ y)
mapped-at f [] k y at = absurd (cc)
mapped-at f (x ∷ xs) zero y at = (x, refl, same_Some (f x) y at)
mapped-at f (x ∷ xs) (suc k) y at = mapped-at f xs k y at

-- numbers below n, no two of them equal, are at most n
pub few-numbers : (xs : List ℕ) (n : ℕ) → ((i j : ℕ) (x : ℕ) → slice_get xs i ≡ Some x → slice_get xs j ≡ Some x → i ≡ j) →
    ((i : ℕ) (x : ℕ) → slice_get xs i ≡ Some x → x < n) → length xs < suc n
few-numbers xs n apart below =
    let le = length-le_from_distinct_below xs n (IsDistinct-from_apart eqb xs distinct) each in omega arith
  where
    distinct : (i j : ℕ) (d : ℕ) → i < j → j < length xs → eqb (get_or xs i d) (get_or xs j d) ≡ false
    distinct i j d less inside =
        let in_i : i < length xs = omega arith in
        ne_eqb (get_or xs i d) (get_or xs j d) (λ same.
        let both : i ≡ j = apart i j (get_or xs j d) (slice_get-get_or xs i d in_i ∙ ap (λ x. Some x) same) (slice_get-get_or xs j d inside) in absurd
        (omega arith))

    each : (q : ℕ) → list_any (eqb q) xs ≡ true → q < n
    each q found =
        let (k, x, inside, at, test) = Any-from_list_any (eqb q) xs found in
        let same : q ≡ x = eqb-true q x test in
        let less = below k x (slice_get-get_or xs k x inside ∙ ap (λ z. Some z) at) in omega arith
