-- What the lists of a formula's parts contain.
use Rattle.std.proofs.Common.{◌≡◌, ℕ, zero, suc, ◌<◌, Bool, true, false, cond, inl, inr, List, [], ◌∷◌, ◌++◌, flat_map, Option, Some, None, Contains, refl, sym}
use Rattle.std.proofs.Common.{subst, arith}
use Rattle.std.specs.Option.{option_map_or}
use Rattle.std.proofs.lemmas.Bool.{cases_eq}
use Rattle.std.proofs.lemmas.List.Elements.{Contains-push, Contains-push_cases, Contains-append_left, Contains-append_cases}
use Rattle.gta_theory.proofs.ListsLemmas.{Contains-first, Contains-later, Contains-none, Contains-cases}
use Rattle.tree_formula.specs.WellEncoded.{named}

-- ---- named numbers

pub Contains-named : {X : Type 0} (name : ℕ → X) (n k : ℕ) → k < n → Contains (named name n) (name k)
Contains-named name zero k below = absurd (omega arith)
Contains-named name (suc n) k below = elim (cases_eq n k) as (λ _. Contains (named name n ++ name n ∷ []) (name k)) [
  | inl is ↦ subst (λ j. Contains (named name n ++ name n ∷ []) (name j)) is (Contains-push (named name n) (name n))
  | inr other ↦ Contains-append_left (named name n) (name n ∷ []) (name k) (Contains-named name n k (omega arith))
]

pub named-inside : {X : Type 0} (name : ℕ → X) (n : ℕ) (x : X) → Contains (named name n) x → (k : ℕ) × (k < n) × (name k ≡ x)
named-inside name zero x h = absurd (Contains-none x h)
named-inside name (suc n) x h = elim (Contains-push_cases (named name n) (name n) x h) as (λ _. (k : ℕ) × (k < suc n) × (name k ≡ x)) [
  | inl before ↦ (let found = named-inside name n x before in (found.0, omega (arith, found.1), found.2))
  | inr is ↦ (n, omega arith, is)
]

-- ---- lists end to end

pub flat_map-inside : {X Y : Type 0} (f : X → List Y) (xs : List X) (y : Y) → Contains (flat_map f xs) y → (x : X) × Contains xs x × Contains (f x) y
flat_map-inside f [] y h = absurd (Contains-none y h)
flat_map-inside {X} f (x ∷ xs) y h =
    elim (Contains-append_cases (f x) (flat_map f xs) y h) as (λ _. (z : X) × Contains (x ∷ xs) z × Contains (f z) y) [
      | inl here ↦ (x, Contains-first x xs, here)
      | inr later ↦ (let found = flat_map-inside f xs y later in (found.0, Contains-later x found.0 xs found.1, found.2))
    ]

-- ---- one thing, or none

pub Contains-one : {X : Type 0} (x y : X) → Contains (x ∷ []) y → x ≡ y
Contains-one x y h = elim (Contains-cases x y [] h) as (λ _. x ≡ y) [ inl is ↦ is | inr later ↦ absurd (Contains-none y later) ]

pub cond-inside : {X : Type 0} (b : Bool) (x y : X) → Contains (cond b (x ∷ []) []) y → (b ≡ true) × (x ≡ y)
cond-inside true x y h = (refl, Contains-one x y h)
cond-inside false x y h = absurd (Contains-none y h)

pub listed-inside : {X Y : Type 0} (g : X → List Y) (o : Option X) (y : Y) → Contains (option_map_or g o []) y →
    (x : X) × (o ≡ Some x) × Contains (g x) y
listed-inside g None y h = absurd (Contains-none y h)
listed-inside g (Some x) y h = (x, refl, h)

pub Contains-listed : {X Y : Type 0} (g : X → List Y) (o : Option X) (x : X) (y : Y) → o ≡ Some x → Contains (g x) y →
    Contains (option_map_or g o []) y
Contains-listed g o x y is h = subst (λ p. Contains (option_map_or g p []) y) (sym is) h
