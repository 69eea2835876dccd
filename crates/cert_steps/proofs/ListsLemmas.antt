-- Lists read from lines, with one more at their ends.
use Rattle.std.proofs.Common.{◌≡◌, inl, inr, ℕ, ◌+◌, List, [], ◌∷◌, ◌++◌, length, map, slice_get, Some}
use Rattle.std.proofs.Common.{refl, ap, sym, ◌∙◌, subst, arith, append_assoc, append-nil, length-append}
use Rattle.std.specs.List.{flat_map}
use Rattle.gta_theory.proofs.ListedLemmas.{slice_get-push}

pub one-more : {X : Type 0} (xs : List X) (x : X) (n : ℕ) → length xs ≡ n → length (xs ++ x ∷ []) ≡ n + 1
one-more xs x n is = let h = length-append xs (x ∷ []) in omega (arith, is, h)

pub map-push : {X Y : Type 0} (f : X → Y) (xs : List X) (x : X) → map f (xs ++ x ∷ []) ≡ map f xs ++ f x ∷ []
map-push f [] x = refl
map-push f (y ∷ ys) x = ap (λ l. f y ∷ l) (map-push f ys x)

pub flat-push : {X Y : Type 0} (f : X → List Y) (xs : List X) (x : X) → flat_map f (xs ++ x ∷ []) ≡ flat_map f xs ++ f x
flat-push f [] x = append-nil (f x)
flat-push f (y ∷ ys) x = ap (λ l. f y ++ l) (flat-push f ys x) ∙ sym (append_assoc (f y) (flat_map f ys) (f x))

-- one more line of a form is read
pub read-more : {X Y : Type 0} (f : X → Y) (all : List Y) (xs : List X) (x : X) (left rest : List Y) → all ≡ map f xs ++ left →
    left ≡ f x ∷ rest → all ≡ map f (xs ++ x ∷ []) ++ rest
read-more f all xs x left rest read next =
    read ∙ ap (λ l. map f xs ++ l) next ∙ sym (append_assoc (map f xs) (f x ∷ []) rest)
    ∙ ap (λ l. l ++ rest) (sym (map-push f xs x))

-- one more group of lines is read
pub read-group : {X Y : Type 0} (f : X → List Y) (all : List Y) (xs : List X) (x : X) (left rest : List Y) → all ≡ flat_map f xs ++ left →
    left ≡ f x ++ rest → all ≡ flat_map f (xs ++ x ∷ []) ++ rest
read-group f all xs x left rest read next =
    read ∙ ap (λ l. flat_map f xs ++ l) next ∙ sym (append_assoc (flat_map f xs) (f x) rest)
    ∙ ap (λ l. l ++ rest) (sym (flat-push f xs x))

-- what comes behind a list, group by group
pub behind-group : {X Y : Type 0} (f : X → List Y) (old mid new : List Y) (xs : List X) (x : X) → mid ≡ old ++ flat_map f xs → new ≡ mid ++ f x →
    new ≡ old ++ flat_map f (xs ++ x ∷ [])
behind-group f old mid new xs x first next =
    next ∙ ap (λ l. l ++ f x) first ∙ append_assoc old (flat_map f xs) (f x) ∙ ap (λ l. old ++ l) (sym (flat-push f xs x))

-- what holds of each element by its place
pub each-push : {X : Type 0} (P : ℕ → X → Type 0) (xs : List X) (x : X) (n : ℕ) → length xs ≡ n →
    ((k : ℕ) (y : X) → slice_get xs k ≡ Some y → P k y) → P n x → (k : ℕ) (y : X) → slice_get (xs ++ x ∷ []) k ≡ Some y → P k y
each-push P xs x n many each here k y at = elim (slice_get-push xs x y k at) as (λ _. P k y) [
  | inl before ↦ each k y before
  | inr is ↦ subst (λ z. P k z) is.1 (subst (λ (m : ℕ). P m x) (sym many ∙ sym is.0) here)
]
