-- What lists contain: first elements and later ones, and images.
use Rattle.std.proofs.Common.{◌≡◌, zero, suc, ◌⊎◌, inl, inr, List, [], ◌∷◌, map, Contains, refl, subst, arith}

pub Contains-first : {X : Type 0} (x : X) (xs : List X) → Contains (x ∷ xs) x
Contains-first x xs = (0, omega arith, refl)

pub Contains-later : {X : Type 0} (x y : X) (xs : List X) → Contains xs y → Contains (x ∷ xs) y
Contains-later x y xs h = (suc h.0, omega (arith, h.1), h.2)

pub Contains-cases : {X : Type 0} (x y : X) (xs : List X) → Contains (x ∷ xs) y → (x ≡ y) ⊎ Contains xs y
Contains-cases x y xs (zero, inside, is) = inl is
Contains-cases x y xs (suc k, inside, is) = inr (k, omega arith, is)

pub Contains-none : {X : Type 0} (y : X) → Contains [] y → ⊥
Contains-none y h = absurd (omega (arith, h.1))

pub Contains-map : {X Y : Type 0} (f : X → Y) (xs : List X) (x : X) → Contains xs x → Contains (map f xs) (f x)
Contains-map f [] x h = absurd (Contains-none x h)
Contains-map f (z ∷ xs) x h = elim (Contains-cases z x xs h) as (λ _. Contains (map f (z ∷ xs)) (f x)) [
  | inl is ↦ subst (λ y. Contains (map f (z ∷ xs)) (f y)) is (Contains-first (f z) (map f xs))
  | inr later ↦ Contains-later (f z) (f x) (map f xs) (Contains-map f xs x later)
]

-- what a list of images contains is an image
pub Contains-mapped : {X Y : Type 0} (f : X → Y) (xs : List X) (y : Y) → Contains (map f xs) y → (x : X) × Contains xs x × (f x ≡ y)
Contains-mapped f [] y h = absurd (Contains-none y h)
Contains-mapped {X} f (x ∷ xs) y h = elim (Contains-cases (f x) y (map f xs) h) as (λ _. (z : X) × Contains (x ∷ xs) z × (f z ≡ y)) [
  | inl is ↦ (x, Contains-first x xs, is)
  | inr later ↦ (let z = Contains-mapped f xs y later in (z.0, Contains-later x z.0 xs z.1, z.2))
]
