-- Names that stand once, in lists that are joined and exchanged.
use Rattle.std.proofs.Common.{◌≡◌, ℕ, Bool, List, [], ◌∷◌, ◌++◌, None, position, refl, ◌∙◌}
use Rattle.std.proofs.lemmas.Cmp.{nat_list_eq_equiv}
use Rattle.std.specs.Str.{bytes_eq}
use Rattle.store_core.specs.Tables.{place_of, AreDistinct}
use Rattle.store_core.proofs.Names.{position_none-cons, position_none-from}
use Rattle.pale_tables.proofs.StageLemmas.{distinct-first}

-- none of the first names stands among the others
abbrev pub Apart : List (List ℕ) → List (List ℕ) → Type 0
Apart [] ys = Unit {0}
Apart (x ∷ xs) ys = (place_of x ys ≡ None) × Apart xs ys

none-both : {X : Type 0} (p : X → Bool) (xs ys : List X) → position p xs ≡ None → position p ys ≡ None → position p (xs ++ ys) ≡ None
none-both p [] ys first second = second
none-both p (x ∷ xs) ys first second =
    let parts = position_none-cons p x xs first in position_none-from p x (xs ++ ys) parts.0 (none-both p xs ys parts.1 second)

none-second : {X : Type 0} (p : X → Bool) (xs ys : List X) → position p (xs ++ ys) ≡ None → position p ys ≡ None
none-second p [] ys none = none
none-second p (x ∷ xs) ys none = none-second p xs ys (position_none-cons p x (xs ++ ys) none).1

pub distinct-second : (xs ys : List (List ℕ)) → AreDistinct (xs ++ ys) → AreDistinct ys
distinct-second [] ys distinct = distinct
distinct-second (x ∷ xs) ys distinct = distinct-second xs ys distinct.1

distinct-apart : (xs ys : List (List ℕ)) → AreDistinct (xs ++ ys) → Apart xs ys
distinct-apart [] ys distinct = tt
distinct-apart (x ∷ xs) ys distinct = (none-second (bytes_eq x) xs ys distinct.0, distinct-apart xs ys distinct.1)

distinct-join : (xs ys : List (List ℕ)) → AreDistinct xs → AreDistinct ys → Apart xs ys → AreDistinct (xs ++ ys)
distinct-join [] ys first second apart = second
distinct-join (x ∷ xs) ys first second apart =
    (none-both (bytes_eq x) xs ys first.0 apart.0, distinct-join xs ys first.1 second apart.1)

apart-first : (xs ys zs : List (List ℕ)) → Apart (xs ++ ys) zs → Apart xs zs
apart-first [] ys zs apart = tt
apart-first (x ∷ xs) ys zs apart = (apart.0, apart-first xs ys zs apart.1)

apart-second : (xs ys zs : List (List ℕ)) → Apart (xs ++ ys) zs → Apart ys zs
apart-second [] ys zs apart = apart
apart-second (x ∷ xs) ys zs apart = apart-second xs ys zs apart.1

apart-join : (xs ys zs : List (List ℕ)) → Apart xs zs → Apart ys zs → Apart (xs ++ ys) zs
apart-join [] ys zs first second = second
apart-join (x ∷ xs) ys zs first second = (first.0, apart-join xs ys zs first.1 second)

apart-nil : (xs : List (List ℕ)) → Apart xs []
apart-nil [] = tt
apart-nil (x ∷ xs) = (refl, apart-nil xs)

apart-more : (ys : List (List ℕ)) (x : List ℕ) (xs : List (List ℕ)) → place_of x ys ≡ None → Apart ys xs → Apart ys (x ∷ xs)
apart-more [] x xs none apart = tt
apart-more (y ∷ ys) x xs none apart =
    let parts = position_none-cons (bytes_eq x) y ys none in
    (position_none-from (bytes_eq y) x xs (nat_list_eq_equiv.symm y x ∙ parts.0) apart.0, apart-more ys x xs parts.1 apart.1)

apart-sym : (xs ys : List (List ℕ)) → Apart xs ys → Apart ys xs
apart-sym [] ys apart = apart-nil ys
apart-sym (x ∷ xs) ys apart = apart-more ys x xs apart.0 (apart-sym xs ys apart.1)

-- the last two parts exchanged
pub distinct-exchanged : (xs ys zs : List (List ℕ)) → AreDistinct ((xs ++ ys) ++ zs) → AreDistinct ((xs ++ zs) ++ ys)
distinct-exchanged xs ys zs distinct =
    let front = distinct-first (xs ++ ys) zs distinct in
    let beside = distinct-apart (xs ++ ys) zs distinct in
    distinct-join (xs ++ zs) ys
    (distinct-join xs zs (distinct-first xs ys front) (distinct-second (xs ++ ys) zs distinct) (apart-first xs ys zs beside))
    (distinct-second xs ys front)
    (apart-join xs zs ys (distinct-apart xs ys front) (apart-sym ys zs (apart-second xs ys zs beside)))
