-- Two lists side by side, and the numbers of variables.
use Rattle.std.proofs.Common.{◌≡◌, ◌≢◌, ◌<◌, ◌+◌, ℕ, zero, suc, List, [], ◌∷◌, ◌++◌, map, length, slice_get, flat_map, Option, Some, None, Contains}
use Rattle.std.proofs.Common.{refl, sym, ap, ◌∙◌, subst, arith}
use Rattle.std.specs.List.{AllByRecursion, AllZip, AllPairs}
use Rattle.store_core.specs.declared.ids.VarId.{VarId}
use Rattle.store_core.specs.declared.value.Value.{Value}
use Rattle.store_core.specs.Tables.{VarEntry}
use Rattle.store_core.specs.Stores.{StoreMap, VarFits, VarsFit}
use Rattle.pale_typed.specs.Variables.{numbers}

module _ {A B : Type 0} (R : A → B → Type 0) where
  pub zip_as : (S : A → B → Type 0) → ((x : A) (u : B) → R x u → S x u) → (xs : List A) (us : List B) → AllZip R xs us → AllZip S xs us
  zip_as S so [] [] all = tt
  zip_as S so [] (u ∷ us) all = all
  zip_as S so (x ∷ xs) [] all = all
  zip_as S so (x ∷ xs) (u ∷ us) all = (so x u all.0, zip_as S so xs us all.1)

  pub zip_append : (xs ys : List A) (us vs : List B) → AllZip R xs us → AllZip R ys vs → AllZip R (xs ++ ys) (us ++ vs)
  zip_append [] ys [] vs one two = two
  zip_append [] ys (u ∷ us) vs one two = absurd one
  zip_append (x ∷ xs) ys [] vs one two = absurd one
  zip_append (x ∷ xs) ys (u ∷ us) vs one two = (one.0, zip_append xs ys us vs one.1 two)

  -- the second of the pair at this place
  pub zip_get : (xs : List A) (us : List B) (k : ℕ) (x : A) → AllZip R xs us → slice_get xs k ≡ Some x →
      (u : B) × (slice_get us k ≡ Some u) × R x u
  zip_get [] us k x all at = absurd cc
  zip_get (y ∷ xs) [] k x all at = absurd all
  zip_get (y ∷ xs) (u ∷ us) zero x all at = let same : y ≡ x = cc in (u, refl, subst (λ z. R z u) same all.0)
  zip_get (y ∷ xs) (u ∷ us) (suc k) x all at = zip_get xs us k x all.1 at

  -- and the first
  pub zip_first : (xs : List A) (us : List B) (k : ℕ) (u : B) → AllZip R xs us → slice_get us k ≡ Some u →
      (x : A) × (slice_get xs k ≡ Some x) × R x u
  zip_first [] [] k u all at = absurd cc
  zip_first [] (v ∷ us) k u all at = absurd all
  zip_first (x ∷ xs) [] k u all at = absurd cc
  zip_first (x ∷ xs) (v ∷ us) zero u all at = let same : v ≡ u = cc in (x, refl, subst (R x) same all.0)
  zip_first (x ∷ xs) (v ∷ us) (suc k) u all at = zip_first xs us k u all.1 at

  -- with its place
  abbrev pub At : List A → List B → A → B → Type 0
  At xs us x u = (k : ℕ) × (slice_get xs k ≡ Some x) × (slice_get us k ≡ Some u) × R x u

pub zip_at : {A B : Type 0} (R : A → B → Type 0) (xs : List A) (us : List B) → AllZip R xs us → AllZip (At R xs us) xs us
zip_at R [] [] all = tt
zip_at R [] (u ∷ us) all = all
zip_at R (x ∷ xs) [] all = all
zip_at R (x ∷ xs) (u ∷ us) all =
    ((0, refl, refl, all.0), zip_as (At R xs us) (At R (x ∷ xs) (u ∷ us)) (λ y v h. (suc h.0, h.1, h.2, h.3)) xs us (zip_at R xs us all.1))

pub zip_map : {A B C : Type 0} (f : A → C) (S : C → B → Type 0) (xs : List A) (us : List B) → AllZip (λ x u. S (f x) u) xs us → AllZip S (map f xs) us
zip_map f S [] [] all = tt
zip_map f S [] (u ∷ us) all = all
zip_map f S (x ∷ xs) [] all = all
zip_map f S (x ∷ xs) (u ∷ us) all = (all.0, zip_map f S xs us all.1)

pub zip_self : {B C : Type 0} (f : B → C) (S : C → B → Type 0) (us : List B) → AllByRecursion (λ u. S (f u) u) us → AllZip S (map f us) us
zip_self f S [] all = tt
zip_self f S (u ∷ us) all = (all.0, zip_self f S us all.1)

-- two facts at once
pub zip_and : {A B : Type 0} (R : A → B → Type 0) (P : B → Type 0) (xs : List A) (us : List B) → AllZip R xs us → AllByRecursion P us →
    AllZip (λ x u. R x u × P u) xs us
zip_and R P [] [] all each = tt
zip_and R P [] (u ∷ us) all each = all
zip_and R P (x ∷ xs) [] all each = all
zip_and R P (x ∷ xs) (u ∷ us) all each = ((all.0, each.0), zip_and R P xs us all.1 each.1)

pub first_zip : {A B : Type 0} (R S : A → B → Type 0) (xs ys : List A) (us vs : List B) → AllZip S xs us → AllZip R (xs ++ ys) (us ++ vs) → AllZip R xs us
first_zip R S [] ys [] vs same all = tt
first_zip R S [] ys (u ∷ us) vs same all = absurd same
first_zip R S (x ∷ xs) ys [] vs same all = absurd same
first_zip R S (x ∷ xs) ys (u ∷ us) vs same all = (all.0, first_zip R S xs ys us vs same.1 all.1)

pub later_zip : {A B : Type 0} (R S : A → B → Type 0) (xs ys : List A) (us vs : List B) → AllZip S xs us → AllZip R (xs ++ ys) (us ++ vs) → AllZip R ys vs
later_zip R S [] ys [] vs same all = all
later_zip R S [] ys (u ∷ us) vs same all = absurd same
later_zip R S (x ∷ xs) ys [] vs same all = absurd same
later_zip R S (x ∷ xs) ys (u ∷ us) vs same all = later_zip R S xs ys us vs same.1 all.1

-- ---- numbers

pub numbers_at : (n : ℕ) (vs : List VarEntry) (k : ℕ) (u : VarId) → slice_get (numbers n vs) k ≡ Some u → u.0 ≡ n + k
numbers_at n [] k u at = absurd cc
numbers_at n (v ∷ vs) zero u at = let is : n ≡ u.0 = ap (λ (o : Option VarId). of o) at in omega (arith, is)
  where
    of : Option VarId → ℕ
    of None = 0
    of (Some w) = w.0
numbers_at n (v ∷ vs) (suc k) u at = let more = numbers_at (n + 1) vs k u at in omega (arith, more)

-- each variable of the table stands beside something
pub at_numbers : {A : Type 0} (R : A → VarId → Type 0) (n : ℕ) (vs : List VarEntry) (xs : List A) (k : ℕ) (entry : VarEntry) → AllZip R xs (numbers n vs) →
    slice_get vs k ≡ Some entry → (x : A) × (slice_get xs k ≡ Some x) × R x (record { 0 = n + k })
at_numbers R n [] xs k entry all at = absurd cc
at_numbers R n (v ∷ vs) [] k entry all at = absurd all
at_numbers R n (v ∷ vs) (x ∷ xs) zero entry all at =
    let same : n ≡ n + 0 = omega arith in (x, refl, subst (λ (m : ℕ). R x (record { 0 = m })) same all.0)
at_numbers R n (v ∷ vs) (x ∷ xs) (suc k) entry all at =
    let more = at_numbers R (n + 1) vs xs k entry all.1 at in
    let same : n + 1 + k ≡ n + suc k = omega arith in (more.0, more.1, subst (λ (m : ℕ). R more.0 (record { 0 = m })) same more.2)

-- the values fit where each does at its place
pub vars_fit : (R : Value → VarId → Type 0) (s : StoreMap) (n : ℕ) (vs : List VarEntry) (xs : List Value) → AllZip R xs (numbers n vs) →
    ((k : ℕ) (entry : VarEntry) (x : Value) → slice_get vs k ≡ Some entry → slice_get xs k ≡ Some x → VarFits s entry.kind x) → VarsFit s vs xs
vars_fit R s n [] [] all each = tt
vars_fit R s n [] (x ∷ xs) all each = absurd all
vars_fit R s n (v ∷ vs) [] all each = absurd all
vars_fit R s n (v ∷ vs) (x ∷ xs) all each =
    (each 0 v x refl refl, vars_fit R s (n + 1) vs xs all.1 (λ k entry y at is. each (suc k) entry y at is))
