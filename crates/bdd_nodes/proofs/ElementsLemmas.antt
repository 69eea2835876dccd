-- Elements of lists by their indices.
use Rattle.std.proofs.Common.{◌≡◌, ℕ, suc, zero, ◌<◌, List, [], ◌∷◌, ◌++◌, length, get_or, take, drop, ◌∙◌, refl, arith}
use Rattle.std.proofs.lemmas.List.{take-append-le, take_all}
use Rattle.std.specs.Prelude.{map}

-- an element that is there doesn't depend on the default
pub get_or-any : {A : Type 0} (xs : List A) (i : ℕ) (d e : A) → i < length xs → get_or xs i d ≡ get_or xs i e
get_or-any [] i d e within = absurd (omega arith)
get_or-any (x ∷ xs) zero d e within = refl
get_or-any (x ∷ xs) (suc i) d e within = get_or-any xs i d e (omega arith)

-- with an element as the default, that element is there
pub get_or-self : {A : Type 0} (xs : List A) (i : ℕ) (d : A) → get_or xs i d ≡ get_or xs i (get_or xs i d)
get_or-self [] i d = refl
get_or-self (x ∷ xs) zero d = refl
get_or-self (x ∷ xs) (suc i) d = get_or-self xs i d

-- a map in index has come to an element, which is as it was
pub get_or-map_over : {A : Type 0} (f : A → A) (xs : List A) (i : ℕ) (d : A) → i < length xs → get_or (map f (take i xs) ++ drop i xs) i d ≡ get_or xs i d
get_or-map_over f [] i d within = absurd (omega arith)
get_or-map_over f (x ∷ xs) zero d within = refl
get_or-map_over f (x ∷ xs) (suc i) d within = get_or-map_over f xs i d (omega arith)

-- what a slice of a whole list leaves of the list is what was written
pub take-written : {A : Type 0} (new old : List A) (n : ℕ) → n ≡ length old → length new ≡ length old → take n (new ++ drop (length new) old) ≡ new
take-written new old n whole same =
    take-append-le n new (drop (length new) old) (omega arith) ∙ take_all n new (omega arith)
