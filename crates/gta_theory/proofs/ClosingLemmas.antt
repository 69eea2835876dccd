-- On closing a list: where what is made of a list stays among finitely many things, some list has all that is made of it.
use Rattle.std.proofs.Common.{◌≡◌, ◌≢◌, ℕ, zero, suc, ◌+◌, ◌<◌, ◌⊎◌, inl, inr, List, [], ◌∷◌, length, All, Contains, AllPairs, refl, sym}
use Rattle.std.proofs.Common.{subst, ◌∙◌, arith}
use Rattle.std.proofs.lemmas.List.Kept.{AllPairs-cons}
use Rattle.gta_theory.proofs.SizesLemmas.{length-partners}
use Rattle.gta_theory.proofs.ListsLemmas.{Contains-first, Contains-later, Contains-cases, Contains-none, find}

module _ {X : Type 0} (decide : (x y : X) → (x ≡ y) ⊎ (x ≢ y)) (all : List X) (made : List X → List X) (Good : X → Type 0)
    (stays : (xs : List X) → ((x : X) → Contains xs x → Contains all x × Good x) → (x : X) → Contains (made xs) x →
    Contains all x × Good x) where
  -- of the first list either all are in the second, or one isn't
  missing : (ys xs : List X) → ((y : X) → Contains ys y → Contains xs y) ⊎ ((y : X) × Contains ys y × All (λ x. y ≢ x) xs)
  missing [] xs = inl (λ y h. absurd (Contains-none y h))
  missing (y ∷ ys) xs = elim (find (λ x z. x ≢ z) (λ x. Unit {0}) (λ x z fine_x fine_z. decide x z) y xs tt (λ i d below. tt))
      as (λ _. ((z : X) → Contains (y ∷ ys) z → Contains xs z) ⊎ ((z : X) × Contains (y ∷ ys) z × All (λ x. z ≢ x) xs)) [
        | inr other ↦ inr (y, Contains-first y ys, other)
        | inl had ↦ elim (missing ys xs)
            as (λ _. ((z : X) → Contains (y ∷ ys) z → Contains xs z) ⊎ ((z : X) × Contains (y ∷ ys) z × All (λ x. z ≢ x) xs)) [
              | inr new ↦ inr (new.0, Contains-later y new.0 ys new.1, new.2)
              | inl rest ↦ inl (λ z h. elim (Contains-cases y z ys h) as (λ _. Contains xs z) [
                | inl is ↦ subst (Contains xs) is had
                | inr later ↦ rest z later
              ])
            ]
      ]

  pub record IsClosedList (xs : List X) : Type 0 where
    pub once : AllPairs (λ x y. x ≢ y) xs
    pub good : (x : X) → Contains xs x → Good x
    pub closed : (x : X) → Contains (made xs) x → Contains xs x

  close : (fuel : ℕ) (xs : List X) → AllPairs (λ x y. x ≢ y) xs → ((x : X) → Contains xs x → Contains all x × Good x) →
      length all < length xs + fuel → (ys : List X) × IsClosedList ys
  close zero xs once inside short =
      let fits = length-partners (λ x y. x ≢ y) (λ x y. x ≡ y) (λ x x' y e e' differ. differ (e ∙ sym e')) xs all once
      (λ x h. (x, (inside x h).0, refl)) in
      absurd (omega (arith, fits, short))
  close (suc fuel) xs once inside short = elim (missing (made xs) xs) as (λ _. (ys : List X) × IsClosedList ys) [
    | inl closed ↦ (xs, record { once = once; good = λ x h. (inside x h).1; closed = closed })
    | inr new ↦ close fuel (new.0 ∷ xs) (AllPairs-cons (λ x y. x ≢ y) new.0 xs new.2 once)
        (λ x h. elim (Contains-cases new.0 x xs h) as (λ _. Contains all x × Good x) [
          | inl is ↦ subst (λ z. Contains all z × Good z) is (stays xs inside new.0 new.1)
          | inr later ↦ inside x later
        ])
        (omega (arith, short))
  ]

  -- some list of good things, each once, has all that is made of it
  pub closed-list : (ys : List X) × IsClosedList ys
  closed-list = close (suc (length all)) [] (λ i j d less inside. absurd (omega arith)) (λ x h. absurd (Contains-none x h)) (omega arith)
