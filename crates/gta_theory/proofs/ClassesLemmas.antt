-- On classes of numbers, where some are apart and others aren't: the first of each class in a list stands for it.
use Rattle.std.proofs.Common.{ℕ, suc, ◌<◌, ◌⊎◌, inl, inr, List, [], ◌∷◌, length, slice_index_or, Contains, AllPairs, ◌≡◌, subst, arith}
use Rattle.std.proofs.lemmas.List.Kept.{AllPairs-cons}
use Rattle.gta_theory.proofs.ListsLemmas.{Contains-first, Contains-later, Contains-cases, Contains-none, All-from_contains}
use Rattle.gta_theory.proofs.DecisionsLemmas.{decide-some}

-- classes of things that can be compared: the first of each class in a list stands for it
module _ (L : ℕ → ℕ → Type 0) (decide : (p q : ℕ) → L p q ⊎ (L p q → ⊥)) where
  abbrev StandsIn : List ℕ → ℕ → Type 0
  StandsIn ys p = (y : ℕ) × Contains ys y × (L y p → ⊥)

  decide-not : (p q : ℕ) → (L p q → ⊥) ⊎ ((L p q → ⊥) → ⊥)
  decide-not p q = elim (decide p q) as (λ _. (L p q → ⊥) ⊎ ((L p q → ⊥) → ⊥)) [
    | inl is ↦ inr (λ fails. fails is)
    | inr fails ↦ inl fails
  ]

  stands-in : (ys : List ℕ) (p : ℕ) → StandsIn ys p ⊎ (StandsIn ys p → ⊥)
  stands-in ys p = decide-some (λ y. L y p → ⊥) (λ y. decide-not y p) ys

  with-new : (x : ℕ) (ys : List ℕ) → StandsIn ys x ⊎ (StandsIn ys x → ⊥) → List ℕ
  with-new x ys (inl had) = ys
  with-new x ys (inr new) = x ∷ ys

  pub firsts : List ℕ → List ℕ
  firsts [] = []
  firsts (x ∷ xs) = with-new x (firsts xs) (stands-in (firsts xs) x)

  pub firsts-inside : (xs : List ℕ) (y : ℕ) → Contains (firsts xs) y → Contains xs y
  unfolding firsts with-new
  firsts-inside [] y h = absurd (Contains-none y h)
  firsts-inside (x ∷ xs) y h = choose (stands-in (firsts xs) x) h (firsts-inside xs y)
    where
      choose : (d : StandsIn (firsts xs) x ⊎ (StandsIn (firsts xs) x → ⊥)) → Contains (with-new x (firsts xs) d) y →
          (Contains (firsts xs) y → Contains xs y) → Contains (x ∷ xs) y
      choose (inl had) h rest = Contains-later x y xs (rest h)
      choose (inr new) h rest = elim (Contains-cases x y (firsts xs) h) as (λ _. Contains (x ∷ xs) y) [
        | inl same ↦ subst (Contains (x ∷ xs)) same (Contains-first x xs)
        | inr later ↦ Contains-later x y xs (rest later)
      ]

  -- each thing of the list has one that stands for it
  pub firsts-cover : ((x : ℕ) → L x x → ⊥) → (xs : List ℕ) (x : ℕ) → Contains xs x → StandsIn (firsts xs) x
  unfolding firsts with-new
  firsts-cover irreflexive [] x h = absurd (Contains-none x h)
  firsts-cover irreflexive (z ∷ xs) x h = choose (stands-in (firsts xs) z) (Contains-cases z x xs h) (firsts-cover irreflexive xs x)
    where
      choose : (d : StandsIn (firsts xs) z ⊎ (StandsIn (firsts xs) z → ⊥)) → (z ≡ x) ⊎ Contains xs x →
          (Contains xs x → StandsIn (firsts xs) x) → StandsIn (with-new z (firsts xs) d) x
      choose (inl had) (inl same) rest = subst (StandsIn (firsts xs)) same had
      choose (inl had) (inr later) rest = rest later
      choose (inr new) (inl same) rest =
          subst (StandsIn (z ∷ firsts xs)) same (z, Contains-first z (firsts xs), irreflexive z)
      choose (inr new) (inr later) rest = let s = rest later in (s.0, Contains-later z s.0 (firsts xs) s.1, s.2)

  -- no two of them are alike
  pub firsts-apart : (xs : List ℕ) → AllPairs (λ a b. L b a) (firsts xs)
  unfolding firsts with-new
  firsts-apart [] = λ i j d less inside. absurd (omega arith)
  firsts-apart (x ∷ xs) = choose (stands-in (firsts xs) x) (firsts-apart xs)
    where
      choose : (d : StandsIn (firsts xs) x ⊎ (StandsIn (firsts xs) x → ⊥)) → AllPairs (λ a b. L b a) (firsts xs) →
          AllPairs (λ a b. L b a) (with-new x (firsts xs) d)
      choose (inl had) rest = rest
      choose (inr new) rest = AllPairs-cons (λ a b. L b a) x (firsts xs)
          (All-from_contains (λ y. L y x) (firsts xs) (λ y h. elim (decide y x) as (λ _. L y x) [
            | inl is ↦ is
            | inr fails ↦ absurd (new (y, h, fails))
          ])) rest

  -- the place of what stands for a thing
  pub class-place : List ℕ → ℕ → ℕ
  class-place [] p = 0
  class-place (y ∷ ys) p = elim (decide y p) as (λ _. ℕ) [
    | inl apart ↦ suc (class-place ys p)
    | inr alike ↦ 0
  ]

  pub class-place-is : (ys : List ℕ) (p : ℕ) → StandsIn ys p →
      (class-place ys p < length ys) × (L (slice_index_or ys (class-place ys p) 0) p → ⊥)
  unfolding class-place
  class-place-is [] p s = absurd (Contains-none s.0 s.1)
  class-place-is (y ∷ ys) p s = choose (decide y p)
      (λ apart. class-place-is ys p (elim (Contains-cases y s.0 ys s.1) as (λ _. StandsIn ys p) [
        | inl same ↦ absurd (s.2 (subst (λ z. L z p) same apart))
        | inr later ↦ (s.0, later, s.2)
      ]))
    where
      choose : (d : L y p ⊎ (L y p → ⊥)) →
          (L y p → (class-place ys p < length ys) × (L (slice_index_or ys (class-place ys p) 0) p → ⊥)) →
          (elim d as (λ _. ℕ) [ inl apart ↦ suc (class-place ys p) | inr alike ↦ 0 ] < suc (length ys))
          × (L (slice_index_or (y ∷ ys) (elim d as (λ _. ℕ) [ inl apart ↦ suc (class-place ys p) | inr alike ↦ 0 ]) 0) p → ⊥)
      choose (inl apart) rest = let r = rest apart in (omega (arith, r.0), r.1)
      choose (inr alike) rest = (omega arith, alike)
