-- On decisions: of a conjunction, of some thing of a list, and as bits.
use Rattle.std.proofs.Common.{◌≡◌, ◌≢◌, Bool, true, false, IsTrue, ◌↔◌, ◌⊎◌, inl, inr, List, [], ◌∷◌, Contains, refl, sym, subst}
use Rattle.std.proofs.lemmas.Bool.{false≢true}
use Rattle.gta_theory.proofs.ListsLemmas.{Contains-first, Contains-later, Contains-cases, Contains-none}

-- both bits
pub both-bits : List Bool
both-bits = false ∷ true ∷ []

pub Contains-both-bits : (b : Bool) → Contains both-bits b
unfolding both-bits
Contains-both-bits false = Contains-first false (true ∷ [])
Contains-both-bits true = Contains-later false true (true ∷ []) (Contains-first true [])

pub decide-true : (b : Bool) → IsTrue b ⊎ (IsTrue b → ⊥)
decide-true true = inl refl
decide-true false = inr false≢true

-- some thing of a list passes, or none does
pub search-list : {X : Type 0} (P : X → Type 0) → ((x : X) → P x ⊎ (P x → ⊥)) → (xs : List X) →
    ((x : X) × Contains xs x × P x) ⊎ ((x : X) → Contains xs x → P x → ⊥)
search-list P test [] = inr (λ x h is. Contains-none x h)
search-list P test (x ∷ xs) = elim (test x) as (λ _. ((z : _) × Contains (x ∷ xs) z × P z) ⊎ ((z : _) → Contains (x ∷ xs) z → P z → ⊥)) [
  | inl is ↦ inl (x, Contains-first x xs, is)
  | inr fails ↦ elim (search-list P test xs) as (λ _. ((z : _) × Contains (x ∷ xs) z × P z) ⊎ ((z : _) → Contains (x ∷ xs) z → P z → ⊥)) [
    | inl found ↦ inl (found.0, Contains-later x found.0 xs found.1, found.2)
    | inr none ↦ inr (λ z h is. elim (Contains-cases x z xs h) as (λ _. ⊥) [
      | inl same ↦ fails (subst P (sym same) is)
      | inr later ↦ none z later is
    ])
  ]
]

-- a decision as a bit
pub as-bit : {P : Type 0} → P ⊎ (P → ⊥) → Bool
as-bit (inl is) = true
as-bit (inr fails) = false

pub as-bit-is : {P : Type 0} (d : P ⊎ (P → ⊥)) → IsTrue (as-bit d) ↔ P
unfolding as-bit
as-bit-is (inl is) = ((λ yes. is), (λ yes. refl))
as-bit-is (inr fails) = ((λ yes. absurd (false≢true yes)), (λ yes. absurd (fails yes)))

-- whether some thing of a list passes
pub decide-some : {X : Type 0} (P : X → Type 0) → ((x : X) → P x ⊎ (P x → ⊥)) → (xs : List X) →
    ((x : X) × Contains xs x × P x) ⊎ (((x : X) × Contains xs x × P x) → ⊥)
decide-some {X} P test xs = elim (search-list P test xs) as (λ _. ((x : X) × Contains xs x × P x) ⊎ (((x : X) × Contains xs x × P x) → ⊥)) [
  | inl found ↦ inl found
  | inr none ↦ inr (λ h. none h.0 h.1 h.2)
]

pub decide-either : {P R : Type 0} → P ⊎ (P → ⊥) → R ⊎ (R → ⊥) → (P ⊎ R) ⊎ (P ⊎ R → ⊥)
decide-either (inl p) r = inl (inl p)
decide-either (inr p) (inl r) = inl (inr r)
decide-either (inr p) (inr r) = inr (λ h. elim h as (λ _. ⊥) [ inl x ↦ p x | inr y ↦ r y ])

pub decide-and : {P R : Type 0} → P ⊎ (P → ⊥) → R ⊎ (R → ⊥) → (P × R) ⊎ (P × R → ⊥)
decide-and (inl p) (inl r) = inl (p, r)
decide-and (inl p) (inr r) = inr (λ h. r h.1)
decide-and (inr p) r = inr (λ h. p h.0)

pub decide-differ : (b c : Bool) → (b ≢ c) ⊎ (b ≢ c → ⊥)
decide-differ true true = inr (λ differ. differ refl)
decide-differ true false = inl (λ same. false≢true (sym same))
decide-differ false true = inl false≢true
decide-differ false false = inr (λ differ. differ refl)

pub same-bit : (b c : Bool) → (b ≢ c → ⊥) → b ≡ c
same-bit true true h = refl
same-bit true false h = absurd (h (λ same. false≢true (sym same)))
same-bit false true h = absurd (h false≢true)
same-bit false false h = refl

-- the things of a list that pass
module _ {X : Type 0} (P : X → Type 0) (test : (x : X) → P x ⊎ (P x → ⊥)) where
  with-first : (x : X) → P x ⊎ (P x → ⊥) → List X → List X
  with-first x (inl is) xs = x ∷ xs
  with-first x (inr fails) xs = xs

  pub passing : List X → List X
  passing [] = []
  passing (x ∷ xs) = with-first x (test x) (passing xs)

  pub Contains-passing : (xs : List X) (x : X) → Contains xs x → P x → Contains (passing xs) x
  unfolding passing with-first
  Contains-passing [] x h is = absurd (Contains-none x h)
  Contains-passing (y ∷ ys) x h is = choose (test y) (Contains-cases y x ys h) (Contains-passing ys x)
    where
      choose : (d : P y ⊎ (P y → ⊥)) → (y ≡ x) ⊎ Contains ys x → (Contains ys x → P x → Contains (passing ys) x) →
          Contains (with-first y d (passing ys)) x
      choose (inl passes) (inl same) rest = subst (Contains (y ∷ passing ys)) same (Contains-first y (passing ys))
      choose (inl passes) (inr later) rest = Contains-later y x (passing ys) (rest later is)
      choose (inr fails) (inl same) rest = absurd (fails (subst P (sym same) is))
      choose (inr fails) (inr later) rest = rest later is

  pub passing-is : (xs : List X) (x : X) → Contains (passing xs) x → Contains xs x × P x
  unfolding passing with-first
  passing-is [] x h = absurd (Contains-none x h)
  passing-is (y ∷ ys) x h = choose (test y) h (passing-is ys x)
    where
      choose : (d : P y ⊎ (P y → ⊥)) → Contains (with-first y d (passing ys)) x → (Contains (passing ys) x → Contains ys x × P x) →
          Contains (y ∷ ys) x × P x
      choose (inl passes) h rest = elim (Contains-cases y x (passing ys) h) as (λ _. Contains (y ∷ ys) x × P x) [
        | inl same ↦ (subst (Contains (y ∷ ys)) same (Contains-first y ys), subst P same passes)
        | inr later ↦ (Contains-later y x ys (rest later).0, (rest later).1)
      ]
      choose (inr fails) h rest = (Contains-later y x ys (rest h).0, (rest h).1)
