-- On tests that compute: over lists, numbers below a bound, and labels.
use Rattle.std.proofs.Common.{◌≡◌, ◌≢◌, ℕ, zero, suc, ◌<◌, Bool, true, false, ◌&&◌, ◌||◌, cond, eqb, ◌⊎◌, inl, inr, List, [], ◌∷◌, All}
use Rattle.std.proofs.Common.{Contains, AllPairs, refl, sym, ap, ◌∙◌, arith, eqb-true}
use Rattle.std.proofs.lemmas.Bool.{eqb-false, and_parts}
use Rattle.std.proofs.lemmas.List.Elements.{All-nil, All-cons}
use Rattle.std.proofs.lemmas.List.Kept.{AllPairs-cons}
use Rattle.labels.specs.Labels.{Label, empty_label, with_track}
use Rattle.gta_theory.specs.Sizes.{AreSameBelow}
use Rattle.gta_theory.proofs.ListsLemmas.{Contains-first, Contains-later, Contains-cases, Contains-none}

-- every thing of the list passes
abbrev pub all-pass : {X : Type 0} → (X → Bool) → List X → Bool
all-pass test [] = true
all-pass test (x ∷ xs) = test x && all-pass test xs

pub all-pass-at : {X : Type 0} (test : X → Bool) (xs : List X) (x : X) → all-pass test xs ≡ true → Contains xs x → test x ≡ true
all-pass-at test [] x is h = absurd (Contains-none x h)
all-pass-at test (y ∷ ys) x is h =
    let parts = and_parts (test y) (all-pass test ys) is in
    elim (Contains-cases y x ys h) as (λ _. test x ≡ true) [
      | inl same ↦ ap test (sym same) ∙ parts.0
      | inr later ↦ all-pass-at test ys x parts.1 later
    ]

pub all-pass-All : {X : Type 0} (test : X → Bool) (P : X → Type 0) → ((x : X) → test x ≡ true → P x) → (xs : List X) →
    all-pass test xs ≡ true → All P xs
all-pass-All test P gives [] is = All-nil P
all-pass-All test P gives (x ∷ xs) is =
    let parts = and_parts (test x) (all-pass test xs) is in
    All-cons P x xs (gives x parts.0) (all-pass-All test P gives xs parts.1)

-- some thing of the list passes
abbrev pub some-pass : {X : Type 0} → (X → Bool) → List X → Bool
some-pass test [] = false
some-pass test (x ∷ xs) = test x || some-pass test xs

pub or-cases : (b c : Bool) → b || c ≡ true → (b ≡ true) ⊎ (c ≡ true)
or-cases true c is = inl refl
or-cases false c is = inr is

pub or-true : (b c : Bool) → c ≡ true → b || c ≡ true
or-true true c is = refl
or-true false c is = is

pub some-pass-at : {X : Type 0} (test : X → Bool) (xs : List X) → some-pass test xs ≡ true → (x : X) × Contains xs x × (test x ≡ true)
some-pass-at test [] is = absurd cc
some-pass-at {X} test (x ∷ xs) is = elim (or-cases (test x) (some-pass test xs) is) as (λ _. (y : X) × Contains (x ∷ xs) y × (test y ≡ true)) [
  | inl here ↦ (x, Contains-first x xs, here)
  | inr later ↦ let found = some-pass-at test xs later in (found.0, Contains-later x found.0 xs found.1, found.2)
]

pub some-pass-of : {X : Type 0} (test : X → Bool) (xs : List X) (x : X) → Contains xs x → test x ≡ true → some-pass test xs ≡ true
some-pass-of test [] x h is = absurd (Contains-none x h)
some-pass-of test (y ∷ ys) x h is = elim (Contains-cases y x ys h) as (λ _. test y || some-pass test ys ≡ true) [
  | inl same ↦ λ i. (ap test same ∙ is) i || some-pass test ys
  | inr later ↦ or-true (test y) (some-pass test ys) (some-pass-of test ys x later is)
]

-- any two things of the list, in their order, pass
abbrev pub pairs-pass : {X : Type 0} → (X → X → Bool) → List X → Bool
pairs-pass test [] = true
pairs-pass test (x ∷ xs) = all-pass (test x) xs && pairs-pass test xs

pub pairs-pass-AllPairs : {X : Type 0} (test : X → X → Bool) (R : X → X → Type 0) → ((x y : X) → test x y ≡ true → R x y) →
    (xs : List X) → pairs-pass test xs ≡ true → AllPairs R xs
pairs-pass-AllPairs test R gives [] is = λ i j d less within. absurd (omega arith)
pairs-pass-AllPairs test R gives (x ∷ xs) is =
    let parts = and_parts (all-pass (test x) xs) (pairs-pass test xs) is in
    AllPairs-cons R x xs (all-pass-All (test x) (R x) (gives x) xs parts.0) (pairs-pass-AllPairs test R gives xs parts.1)

-- every number below n passes
abbrev pub below-pass : ℕ → (ℕ → Bool) → Bool
below-pass zero test = true
below-pass (suc n) test = test n && below-pass n test

pub below-pass-at : (n : ℕ) (test : ℕ → Bool) (j : ℕ) → below-pass n test ≡ true → j < n → test j ≡ true
below-pass-at zero test j is less = absurd (omega arith)
below-pass-at (suc n) test j is less =
    let parts = and_parts (test n) (below-pass n test) is in
    choose (eqb j n) refl parts.0 (below-pass-at n test j parts.1)
  where
    lower : j ≢ n → j < n
    lower other = omega arith

    choose : (b : Bool) → eqb j n ≡ b → test n ≡ true → (j < n → test j ≡ true) → test j ≡ true
    choose true same here rest = ap test (eqb-true j n same) ∙ here
    choose false differ here rest = rest (lower (eqb-false j n differ))

-- every label with tracks below k alone passes
abbrev pub labels-pass : ℕ → (Label → Bool) → Bool
labels-pass zero test = test empty_label
labels-pass (suc k) test = labels-pass k (λ l. test (with_track l k false)) && labels-pass k (λ l. test (with_track l k true))

same-more : (k : ℕ) (l m : Label) → AreSameBelow k l m → AreSameBelow (suc k) (with_track l k (m k)) m
same-more k l m same t less = choose (eqb t k) refl
  where
    choose : (b : Bool) → eqb t k ≡ b → cond b (m k) (l t) ≡ m t
    choose true is = ap m (sym (eqb-true t k is))
    choose false is = same t (lower (eqb-false t k is))
      where
        lower : t ≢ k → t < k
        lower other = omega arith

-- some label that is the same as a given one below k passes
pub labels-pass-at : (k : ℕ) (test : Label → Bool) → labels-pass k test ≡ true → (m : Label) →
    (l : Label) × AreSameBelow k l m × (test l ≡ true)
labels-pass-at zero test is m = (empty_label, (λ t less. absurd (omega arith)), is)
labels-pass-at (suc k) test is m =
    let parts = and_parts (labels-pass k (λ l. test (with_track l k false))) (labels-pass k (λ l. test (with_track l k true))) is in
    let found = choose (m k) (labels-pass-at k (λ l. test (with_track l k false)) parts.0 m)
    (labels-pass-at k (λ l. test (with_track l k true)) parts.1 m) in
    (with_track found.0 k (m k), same-more k found.0 m found.1, found.2)
  where
    choose : (b : Bool) → (l : Label) × AreSameBelow k l m × (test (with_track l k false) ≡ true) →
        (l : Label) × AreSameBelow k l m × (test (with_track l k true) ≡ true) →
        (l : Label) × AreSameBelow k l m × (test (with_track l k b) ≡ true)
    choose false unset is_set = unset
    choose true unset is_set = is_set

-- or else some label fails
pub labels-fail : (k : ℕ) (test : Label → Bool) → labels-pass k test ≡ false → (l : Label) × (test l ≡ false)
labels-fail zero test is = (empty_label, is)
labels-fail (suc k) test is =
    choose (labels-pass k (λ l. test (with_track l k false))) refl is
    (labels-fail k (λ l. test (with_track l k false))) (labels-fail k (λ l. test (with_track l k true)))
  where
    choose : (b : Bool) → labels-pass k (λ l. test (with_track l k false)) ≡ b →
        b && labels-pass k (λ l. test (with_track l k true)) ≡ false →
        (labels-pass k (λ l. test (with_track l k false)) ≡ false → (l : Label) × (test (with_track l k false) ≡ false)) →
        (labels-pass k (λ l. test (with_track l k true)) ≡ false → (l : Label) × (test (with_track l k true) ≡ false)) →
        (l : Label) × (test l ≡ false)
    choose false fails rest unset is_set = let found = unset fails in (with_track found.0 k false, found.1)
    choose true passes rest unset is_set = let found = is_set rest in (with_track found.0 k true, found.1)

-- every track is set
abbrev pub every_track : Label
every_track = λ t. true

-- every state is one of the states
abbrev pub Any : {Q : Type 0} → ℕ → Q → Type 0
Any s q = Unit {0}
