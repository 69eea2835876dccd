-- Rising lists with the same numbers are one list.
use Rattle.std.proofs.Common.{◌≡◌, ℕ, suc, ◌<◌, List, [], ◌∷◌, length, get_or, Contains, refl, ap, sym, ◌∙◌, subst, inl, inr, arith}
use Rattle.std.specs.List.Sorted.{IsStrictlyIncreasing}
use Rattle.std.proofs.lemmas.List.Kept.{AllPairs-from_increasing}
use Rattle.gta_theory.proofs.ListsLemmas.{Contains-first, Contains-later, Contains-cases, Contains-none}
use Rattle.cert_tables.specs.Sets.{HasSame}

-- each number is below those behind it
abbrev IsRising : List ℕ → Type 0
IsRising [] = Unit {0}
IsRising (x ∷ xs) = ((y : ℕ) → Contains xs y → x < y) × IsRising xs

rising-by : (xs : List ℕ) → ((i j d : ℕ) → i < j → j < length xs → get_or xs i d < get_or xs j d) → IsRising xs
rising-by [] pairs = tt
rising-by (x ∷ xs) pairs = (
  (λ y listed.
      let below = pairs 0 (suc listed.0) y (omega arith) (omega (arith, listed.1)) in
      subst (λ (n : ℕ). x < n) listed.2 below),
  rising-by xs (λ i j d below inside. pairs (suc i) (suc j) d (omega (arith, below)) (omega (arith, inside))),
)

head-same : (x y : ℕ) (xs ys : List ℕ) → IsRising (x ∷ xs) → IsRising (y ∷ ys) → HasSame (x ∷ xs) (y ∷ ys) → x ≡ y
head-same x y xs ys up_x up_y same = elim (Contains-cases y x ys ((same x).0 (Contains-first x xs))) as (λ _. x ≡ y) [
  | inl is ↦ sym is
  | inr later ↦ elim (Contains-cases x y xs ((same y).1 (Contains-first y ys))) as (λ _. x ≡ y) [
    | inl is ↦ is
    | inr also ↦ (let one = up_y.0 x later in let other = up_x.0 y also in absurd (omega (arith, one, other)))
  ]
]

-- what stands behind the heads
behind : (x y : ℕ) (xs ys : List ℕ) → x ≡ y → IsRising (x ∷ xs) → ((q : ℕ) → Contains (x ∷ xs) q → Contains (y ∷ ys) q) →
    (q : ℕ) → Contains xs q → Contains ys q
behind x y xs ys head up into q listed = elim (Contains-cases y q ys (into q (Contains-later x q xs listed))) as (λ _. Contains ys q) [
  | inl is ↦ (let above = up.0 q listed in absurd (omega (arith, above, head, is)))
  | inr later ↦ later
]

unique : (xs ys : List ℕ) → IsRising xs → IsRising ys → HasSame xs ys → xs ≡ ys
unique [] [] up_x up_y same = refl
unique [] (y ∷ ys) up_x up_y same = absurd (Contains-none y ((same y).1 (Contains-first y ys)))
unique (x ∷ xs) [] up_x up_y same = absurd (Contains-none x ((same x).0 (Contains-first x xs)))
unique (x ∷ xs) (y ∷ ys) up_x up_y same =
    let head = head-same x y xs ys up_x up_y same in
    let tails = unique xs ys up_x.1 up_y.1 (λ q. (
      behind x y xs ys head up_x (λ n listed. (same n).0 listed) q,
      behind y x ys xs (sym head) up_y (λ n listed. (same n).1 listed) q,
    )) in
    ap (λ (n : ℕ). n ∷ xs) head ∙ ap (λ (ns : List ℕ). y ∷ ns) tails

pub rising-unique : (xs ys : List ℕ) → IsStrictlyIncreasing xs → IsStrictlyIncreasing ys → HasSame xs ys → xs ≡ ys
rising-unique xs ys up_x up_y same =
    unique xs ys (rising-by xs (λ i j d. AllPairs-from_increasing xs up_x i j d)) (rising-by ys (λ i j d. AllPairs-from_increasing ys up_y i j d)) same
