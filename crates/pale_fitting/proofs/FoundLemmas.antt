-- What stands somewhere in a list, and where it comes from.
use Rattle.std.proofs.Common.{◌≡◌, ◌⊎◌, inl, inr, ℕ, zero, suc, Bool, true, false, cond, List, [], ◌∷◌, ◌++◌, map, flat_map, fold}
use Rattle.std.proofs.Common.{slice_get, if◌then◌else◌, Option, Some, None, refl, sym, ap, ◌∙◌, subst}
use Rattle.std.specs.Option.{option_map}
use Rattle.std.specs.List.{filter_map, cons_option}
use Rattle.std.proofs.lemmas.Slice.Eq.{bytes_eq-Decides}
use Rattle.std.specs.Str.{bytes_eq}
use Rattle.store_core.specs.Tables.{place_of}
use Rattle.store_core.proofs.Names.{position-cons}
use Rattle.pale_tables.specs.Names.{is_new, with_name, each_once}

-- something that this is so of stands at a place
pub record IsFound {X : Type 0} (P : X → Type 0) (xs : List X) : Type 0 where
  pub place : ℕ
  pub item : X
  pub at : slice_get xs place ≡ Some item
  pub so : P item

module _ {X : Type 0} (P : X → Type 0) where
  pub found-here : (x : X) (xs : List X) → P x → IsFound P (x ∷ xs)
  found-here x xs so = record { place = 0; item = x; at = refl; so = so }

  pub found-later : (x : X) (xs : List X) → IsFound P xs → IsFound P (x ∷ xs)
  found-later x xs f = record { place = suc f.place; item = f.item; at = f.at; so = f.so }

  none-found : {B : Type 0} → IsFound P [] → B
  none-found f = let no : None ≡ Some f.item = f.at in absurd cc

  pub in-cons : (x : X) (xs : List X) → IsFound P (x ∷ xs) → P x ⊎ IsFound P xs
  in-cons x xs f = by f.place f.item f.at f.so
    where
      by : (k : ℕ) (y : X) → slice_get (x ∷ xs) k ≡ Some y → P y → P x ⊎ IsFound P xs
      by zero y at so = let same : y ≡ x = cc in inl (subst P same so)
      by (suc k) y at so = inr (record { place = k; item = y; at = at; so = so })

  pub in-append : (xs ys : List X) → IsFound P (xs ++ ys) → IsFound P xs ⊎ IsFound P ys
  in-append [] ys f = inr f
  in-append (x ∷ xs) ys f = by (in-append xs ys) (in-cons x (xs ++ ys) f)
    where
      next : IsFound P xs ⊎ IsFound P ys → IsFound P (x ∷ xs) ⊎ IsFound P ys
      next (inl g) = inl (found-later x xs g)
      next (inr g) = inr g

      by : (IsFound P (xs ++ ys) → IsFound P xs ⊎ IsFound P ys) → P x ⊎ IsFound P (xs ++ ys) → IsFound P (x ∷ xs) ⊎ IsFound P ys
      by rest (inl so) = inl (found-here x xs so)
      by rest (inr g) = next (rest g)

  pub to-first : (xs ys : List X) → IsFound P xs → IsFound P (xs ++ ys)
  to-first [] ys f = none-found f
  to-first (x ∷ xs) ys f = by (to-first xs ys) (in-cons x xs f)
    where
      by : (IsFound P xs → IsFound P (xs ++ ys)) → P x ⊎ IsFound P xs → IsFound P (x ∷ xs ++ ys)
      by rest (inl so) = found-here x (xs ++ ys) so
      by rest (inr g) = found-later x (xs ++ ys) (rest g)

  pub to-second : (xs ys : List X) → IsFound P ys → IsFound P (xs ++ ys)
  to-second [] ys f = f
  to-second (x ∷ xs) ys f = found-later x (xs ++ ys) (to-second xs ys f)

  -- in one of the lists that are put together
  pub in-flat : {Y : Type 0} (g : Y → List X) (ys : List Y) → IsFound P (flat_map g ys) → IsFound (λ y. IsFound P (g y)) ys
  in-flat g [] f = none-found f
  in-flat g (y ∷ ys) f = by (in-flat g ys) (in-append (g y) (flat_map g ys) f)
    where
      by : (IsFound P (flat_map g ys) → IsFound (λ y. IsFound P (g y)) ys) → IsFound P (g y) ⊎ IsFound P (flat_map g ys) →
          IsFound (λ y. IsFound P (g y)) (y ∷ ys)
      by rest (inl here) = record { place = 0; item = y; at = refl; so = here }
      by rest (inr later) = let h = rest later in record { place = suc h.place; item = h.item; at = h.at; so = h.so }

-- so it is of their images
pub found-map : {X Y : Type 0} (P : X → Type 0) (Q : Y → Type 0) (g : X → Y) → ((x : X) → P x → Q (g x)) → (xs : List X) → IsFound P xs →
    IsFound Q (map g xs)
found-map P Q g so [] f = let no : None ≡ Some f.item = f.at in absurd cc
found-map P Q g so (x ∷ xs) f = by (found-map P Q g so xs) (in-cons P x xs f)
  where
    by : (IsFound P xs → IsFound Q (map g xs)) → P x ⊎ IsFound P xs → IsFound Q (g x ∷ map g xs)
    by rest (inl here) = found-here Q (g x) (map g xs) (so x here)
    by rest (inr later) = found-later Q (g x) (map g xs) (rest later)

-- what a filter keeps comes from an item
pub in-filter : {X Y : Type 0} (g : X → Option Y) (xs : List X) (y : Y) → IsFound (λ z. z ≡ y) (filter_map g xs) → IsFound (λ x. g x ≡ Some y) xs
in-filter {X = X} {Y = Y} g [] y f = let no : None ≡ Some f.item = f.at in absurd cc
in-filter {X = X} {Y = Y} g (x ∷ xs) y f = by (in-filter g xs y) (g x) refl f
  where
    then_ : (IsFound (λ z. z ≡ y) (filter_map g xs) → IsFound (λ x. g x ≡ Some y) xs) → (z : Y) → g x ≡ Some z →
        (z ≡ y) ⊎ IsFound (λ w. w ≡ y) (filter_map g xs) → IsFound (λ x. g x ≡ Some y) (x ∷ xs)
    then_ rest z at (inl same) = record { place = 0; item = x; at = refl; so = at ∙ ap Some same }
    then_ rest z at (inr later) = let h = rest later in record { place = suc h.place; item = h.item; at = h.at; so = h.so }

    by : (IsFound (λ z. z ≡ y) (filter_map g xs) → IsFound (λ x. g x ≡ Some y) xs) → (o : Option Y) → g x ≡ o →
        IsFound (λ z. z ≡ y) (cons_option o (filter_map g xs)) → IsFound (λ x. g x ≡ Some y) (x ∷ xs)
    by rest None at f = let h = rest f in record { place = suc h.place; item = h.item; at = h.at; so = h.so }
    by rest (Some z) at f = then_ rest z at (in-cons (λ w. w ≡ y) z (filter_map g xs) f)

-- a name that has a place stands there
pub at-place : (names : List (List ℕ)) (name : List ℕ) (i : ℕ) → place_of name names ≡ Some i → IsFound (λ n. n ≡ name) names
at-place [] name i at = let no : None ≡ Some i = at in absurd cc
at-place (first ∷ names) name i at =
    by (at-place names name) (bytes_eq name first) refl (place_of name names) refl (sym (position-cons (bytes_eq name) first names) ∙ at)
  where
    by : ((j : ℕ) → place_of name names ≡ Some j → IsFound (λ n. n ≡ name) names) → (b : Bool) → bytes_eq name first ≡ b →
        (o : Option ℕ) → place_of name names ≡ o → cond b (Some 0) (option_map suc o) ≡ Some i → IsFound (λ n. n ≡ name) (first ∷ names)
    by rest true is o there at = found-here (λ n. n ≡ name) first names (sym ((bytes_eq-Decides name first).0 is))
    by rest false is None there at = absurd cc
    by rest false is (Some j) there at = found-later (λ n. n ≡ name) first names (rest j there)

-- names that are kept once are among those that came
once-came : (before names : List (List ℕ)) (name : List ℕ) → IsFound (λ n. n ≡ name) (fold with_name before names) →
    IsFound (λ n. n ≡ name) before ⊎ IsFound (λ n. n ≡ name) names
once-came before [] name f = inl f
once-came before (x ∷ names) name f = by (once-came (with_name before x) names name f)
  where
    pushed : IsFound (λ n. n ≡ name) before ⊎ IsFound (λ n. n ≡ name) (x ∷ []) → IsFound (λ n. n ≡ name) before ⊎ IsFound (λ n. n ≡ name) (x ∷ names)
    pushed (inl g) = inl g
    pushed (inr g) = inr (to-first (λ n. n ≡ name) (x ∷ []) names g)

    kept : (b : Bool) → IsFound (λ n. n ≡ name) (if b then before ++ x ∷ [] else before) →
        IsFound (λ n. n ≡ name) before ⊎ IsFound (λ n. n ≡ name) (x ∷ names)
    kept true g = pushed (in-append (λ n. n ≡ name) before (x ∷ []) g)
    kept false g = inl g

    by : IsFound (λ n. n ≡ name) (with_name before x) ⊎ IsFound (λ n. n ≡ name) names →
        IsFound (λ n. n ≡ name) before ⊎ IsFound (λ n. n ≡ name) (x ∷ names)
    by (inl g) = kept (is_new before x) g
    by (inr g) = inr (found-later (λ n. n ≡ name) x names g)

pub from-once : (names : List (List ℕ)) (name : List ℕ) (i : ℕ) → place_of name (each_once names) ≡ Some i → IsFound (λ n. n ≡ name) names
from-once names name i at = by (once-came [] names name (at-place (each_once names) name i at))
  where
    by : IsFound (λ (n : List ℕ). n ≡ name) [] ⊎ IsFound (λ n. n ≡ name) names → IsFound (λ n. n ≡ name) names
    by (inl f) = let no : None ≡ Some f.item = f.at in absurd cc
    by (inr f) = f
