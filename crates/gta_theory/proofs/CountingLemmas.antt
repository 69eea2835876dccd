-- Numbers that are one to one with numbers are as many.
use Rattle.std.proofs.Common.{◌≡◌, ◌≢◌, ℕ, zero, suc, ◌<◌, ◌≤◌, ◌⊎◌, inl, inr, refl, subst, arith, nat_lt}
use Rattle.std.proofs.lemmas.Bool.{cases_eq, ltb-true, lt-ltb}
use Rattle.gta_theory.specs.Guides.{Spaces, IsSpace}
use Rattle.gta_theory.specs.Automata.{Automaton, Has}
use Rattle.gta_theory.specs.Minimal.{AreTwins, AreAlike}

-- each number below m has a partner below n, and no two have the same
pub record IsMatched (m n : ℕ) (R : ℕ → ℕ → Type 0) : Type 0 where
  pub partner : (i : ℕ) → i < m → (j : ℕ) × (j < n) × R i j
  pub once : (i k j : ℕ) → R i j → R k j → i ≡ k

-- the relation without one partner, whose place the last one takes
Without : (ℕ → ℕ → Type 0) → ℕ → ℕ → ℕ → ℕ → Type 0
Without R gone last i j = ((j ≢ gone) × R i j) ⊎ ((j ≡ gone) × R i last)

IsMatched-less : (m n : ℕ) (R : ℕ → ℕ → Type 0) → IsMatched (suc m) (suc n) R → (gone : ℕ) → gone < suc n → R m gone →
    IsMatched m n (Without R gone n)
unfolding Without
IsMatched-less m n R h gone inside is_gone = record { partner = λ i below. pick i below (h.partner i (omega arith)); once = once }
  where
    pick : (i : ℕ) → i < m → ((j : ℕ) × (j < suc n) × R i j) →
        (j : ℕ) × (j < n) × (((j ≢ gone) × R i j) ⊎ ((j ≡ gone) × R i n))
    pick i below p =
        let other : p.0 ≢ gone = λ e.
        (let same : i ≡ m = h.once i m gone (subst (R i) e p.2) is_gone in absurd (omega arith)) in
        elim (cases_eq p.0 n) as (λ _. (j : ℕ) × (j < n) × (((j ≢ gone) × R i j) ⊎ ((j ≡ gone) × R i n))) [
          | inl last ↦ (gone, omega arith, inr (refl, subst (R i) last p.2))
          | inr early ↦ (p.0, omega (arith, p.1), inl (other, p.2))
        ]

    once : (i k j : ℕ) → ((j ≢ gone) × R i j) ⊎ ((j ≡ gone) × R i n) → ((j ≢ gone) × R k j) ⊎ ((j ≡ gone) × R k n) → i ≡ k
    once i k j (inl x) (inl y) = h.once i k j x.1 y.1
    once i k j (inl x) (inr y) = absurd (x.0 y.0)
    once i k j (inr x) (inl y) = absurd (y.0 x.0)
    once i k j (inr x) (inr y) = h.once i k n x.1 y.1

-- so there are no more of the first than of the second
pub matched-le : (n m : ℕ) (R : ℕ → ℕ → Type 0) → IsMatched m n R → m ≤ n
matched-le n zero R h = omega arith
matched-le zero (suc m) R h = let p = h.partner 0 (omega arith) in absurd (omega (arith, p.1))
matched-le (suc n) (suc m) R h =
    let last = h.partner m (omega arith) in
    omega (arith, matched-le n m (Without R last.0 n) (IsMatched-less m n R h last.0 last.1 last.2))

-- alike automata have as many states in each space
pub count-alike : (g : Spaces) (A B : Automaton ℕ) (count_A count_B : ℕ → ℕ) →
    AreAlike g A (Has (λ s q. nat_lt q (count_A s))) B (Has (λ s q. nat_lt q (count_B s))) →
    (s : ℕ) → IsSpace g s → count_A s ≡ count_B s
count-alike g A B count_A count_B alike s there =
    let up : count_A s ≤ count_B s = matched-le (count_B s) (count_A s) (AreTwins g A B s) (record {
      partner = λ i below. let p = alike.there s i there (lt-ltb i (count_A s) below) in (p.0, ltb-true p.0 (count_B s) p.1, p.2);
      once = λ i k j x y. alike.one_back s i k j there x y;
    }) in
    let down : count_B s ≤ count_A s = matched-le (count_A s) (count_B s) (λ j i. AreTwins g A B s i j) (record {
      partner = λ j below. let p = alike.back s j there (lt-ltb j (count_B s) below) in (p.0, ltb-true p.0 (count_A s) p.1, p.2);
      once = λ j k i x y. alike.one_there s i j k there x y;
    }) in
    omega arith
