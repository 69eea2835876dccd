-- Stacks whose elements are changed one by one.
use Rattle.std.proofs.Common.{◌≡◌, List, [], ◌∷◌, ◌++◌, map, refl, ap, ◌∙◌}
use Rattle.plain_data.specs.Stacks.{top, rest}

pub map-last : {A B : Type 0} (f : A → B) (xs : List A) (x : A) → map f (xs ++ x ∷ []) ≡ map f xs ++ f x ∷ []
map-last f [] x = refl
map-last f (y ∷ xs) x = ap (λ l. f y ∷ l) (map-last f xs x)

pub top-map : {A B : Type 0} (f : A → B) (d : A) (e : B) → f d ≡ e → (xs : List A) → f (top d xs) ≡ top e (map f xs)
top-map f d e is [] = is
top-map f d e is (x ∷ xs) = refl

pub rest-map : {A B : Type 0} (f : A → B) (xs : List A) → map f (rest xs) ≡ rest (map f xs)
rest-map f [] = refl
rest-map f (x ∷ xs) = refl

-- what lies below the top
pub second-map : {A B : Type 0} (f : A → B) (d : A) (e : B) → f d ≡ e → (xs : List A) → f (top d (rest xs)) ≡ top e (rest (map f xs))
second-map f d e is xs = top-map f d e is (rest xs) ∙ ap (top e) (rest-map f xs)

pub rest-rest-map : {A B : Type 0} (f : A → B) (xs : List A) → map f (rest (rest xs)) ≡ rest (rest (map f xs))
rest-rest-map f xs = rest-map f (rest xs) ∙ ap rest (rest-map f xs)
