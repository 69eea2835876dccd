-- On numbering: an automaton with finitely many states, whose steps look at finitely many tracks, can be numbered.
use Rattle.std.proofs.Common.{◌≡◌, ◌≢◌, ℕ, suc, ◌<◌, Bool, true, false, cond, eqb, ◌⊎◌, inl, inr, List, [], ◌∷◌, map, length}
use Rattle.std.proofs.Common.{slice_index_or, Contains, AllPairs, flat_map, refl, sym, ap, subst, ◌∙◌, arith, eqb-true}
use Rattle.std.proofs.lemmas.Bool.{cases_eq, eqb-false, ltb-true, lt-ltb}
use Rattle.std.proofs.lemmas.List.Elements.{All-cons, All-map, All-contains, Contains-get_or}
use Rattle.std.proofs.lemmas.List.Kept.{AllPairs-cons}
use Rattle.labels.specs.Labels.{Label}
use Rattle.gta_theory.specs.Guides.{Spaces, IsSpace, IsGuide, left, right}
use Rattle.gta_theory.specs.Automata.{Automaton, value, IsStable}
use Rattle.gta_theory.specs.Constructions.{pairs, IsReached, IsClosed, IsNaming, IsOnce, IsProduct}
use Rattle.gta_theory.specs.Generated.{Generated, starts, steps}
use Rattle.gta_theory.specs.Sizes.{LooksBelow}
use Rattle.gta_theory.specs.Numbered.{Below, IsNumbered}
use Rattle.gta_theory.proofs.AutomataLemmas.{IsClosed-reached, name-value, IsStable-named, IsStable-pairs}
use Rattle.gta_theory.proofs.GeneratedLemmas.{value-closed, IsValue-closed, IsReached-generated}
use Rattle.gta_theory.proofs.SizesExistLemmas.{labels, labels-all}
use Rattle.gta_theory.proofs.ClosingLemmas.{closed-list}
use Rattle.gta_theory.proofs.ListsLemmas.{Contains-first, Contains-later, Contains-cases, Contains-none, All-from_contains, Contains-map}
use Rattle.gta_theory.proofs.ListsLemmas.{Contains-flat_map, All-flat_map, numbers, Contains-numbers, numbers-below, compare-pairs}
use Rattle.gta_theory.proofs.ListsLemmas.{all-pairs, Contains-all-pairs, all-pairs-inside, place, place-is, place-once}

-- the states of one space among the states of all
module _ {Q : Type 0} where
  pub at_space : ℕ → List (ℕ × Q) → List Q
  at_space s [] = []
  at_space s (x ∷ xs) = cond (eqb x.0 s) (x.1 ∷ at_space s xs) (at_space s xs)

  pub Contains-at_space : (s : ℕ) (q : Q) (xs : List (ℕ × Q)) → Contains xs (s, q) → Contains (at_space s xs) q
  unfolding at_space
  Contains-at_space s q [] h = absurd (Contains-none (s, q) h)
  Contains-at_space s q (x ∷ xs) h = elim (Contains-cases x (s, q) xs h) as (λ _. Contains (at_space s (x ∷ xs)) q) [
    | inl is ↦ first (eqb x.0 s) refl is
    | inr later ↦ after (eqb x.0 s) (Contains-at_space s q xs later)
  ]
    where
      first : (b : Bool) → eqb x.0 s ≡ b → x ≡ (s, q) → Contains (cond b (x.1 ∷ at_space s xs) (at_space s xs)) q
      first true here is = subst (Contains (x.1 ∷ at_space s xs)) (ap (λ z. z.1) is) (Contains-first x.1 (at_space s xs))
      first false here is = absurd (eqb-false x.0 s here (ap (λ z. z.0) is))

      after : (b : Bool) → Contains (at_space s xs) q → Contains (cond b (x.1 ∷ at_space s xs) (at_space s xs)) q
      after true later = Contains-later x.1 q (at_space s xs) later
      after false later = later

  pub at_space-inside : (s : ℕ) (q : Q) (xs : List (ℕ × Q)) → Contains (at_space s xs) q → Contains xs (s, q)
  unfolding at_space
  at_space-inside s q [] h = absurd (Contains-none q h)
  at_space-inside s q (x ∷ xs) h = choose (eqb x.0 s) refl h (at_space-inside s q xs)
    where
      choose : (b : Bool) → eqb x.0 s ≡ b → Contains (cond b (x.1 ∷ at_space s xs) (at_space s xs)) q →
          (Contains (at_space s xs) q → Contains xs (s, q)) → Contains (x ∷ xs) (s, q)
      choose true here h rest = elim (Contains-cases x.1 q (at_space s xs) h) as (λ _. Contains (x ∷ xs) (s, q)) [
        | inl is ↦ subst (Contains (x ∷ xs)) (λ i. (eqb-true x.0 s here i, is i)) (Contains-first x xs)
        | inr later ↦ Contains-later x (s, q) xs (rest later)
      ]
      choose false here h rest = Contains-later x (s, q) xs (rest h)

  pub at_space-once : (s : ℕ) (xs : List (ℕ × Q)) → AllPairs (λ x y. x ≢ y) xs → AllPairs (λ x y. x ≢ y) (at_space s xs)
  unfolding at_space
  at_space-once s [] once = λ i j d less inside. absurd (omega arith)
  at_space-once s (x ∷ xs) once = choose (eqb x.0 s) refl
      (at_space-once s xs (λ i j d less inside. once (suc i) (suc j) d (omega arith) (omega arith)))
    where
      head_apart : (y : ℕ × Q) → Contains xs y → x ≢ y
      head_apart y h = subst (λ z. x ≢ z) h.2 (once 0 (suc h.0) y (omega arith) (omega (arith, h.1)))

      choose : (b : Bool) → eqb x.0 s ≡ b → AllPairs (λ x y. x ≢ y) (at_space s xs) →
          AllPairs (λ x y. x ≢ y) (cond b (x.1 ∷ at_space s xs) (at_space s xs))
      choose true here rest = AllPairs-cons (λ x y. x ≢ y) x.1 (at_space s xs)
          (All-from_contains (λ q. x.1 ≢ q) (at_space s xs) (λ q h same.
          head_apart (s, q) (at_space-inside s q xs h) (λ i. (eqb-true x.0 s here i, same i)))) rest
      choose false here rest = rest

-- what steps on listed labels make of the initial states, in one list
module _ {Q : Type 0} (decide : (p q : Q) → (p ≡ q) ⊎ (p ≢ q)) (g : Spaces) (A : Automaton Q) (states : ℕ → List Q)
    (inside : IsClosed g A (λ s q. Contains (states s) q)) (ls : List Label) (Made : ℕ → Q → Type 0)
    (made_starts : (s : ℕ) → IsSpace g s → Made s (A.initial s))
    (made_steps : (s : ℕ) (p q : Q) (label : Label) → IsSpace g s → Contains ls label →
    Made (left g s) p → Made (right g s) q → Made s (A.step s p q label)) where
  abbrev all-states : List (ℕ × Q)
  all-states = flat_map (λ s. map (λ q. (s, q)) (states s)) (numbers (length g))

  -- what a step makes of two listed states
  abbrev steps-of : List (ℕ × Q) → ℕ → List (ℕ × Q)
  steps-of xs s =
      flat_map (λ p. flat_map (λ q. map (λ label. (s, A.step s p q label)) ls) (at_space (right g s) xs)) (at_space (left g s) xs)

  -- the initial states, and what steps make of listed states
  abbrev made : List (ℕ × Q) → List (ℕ × Q)
  made xs = flat_map (λ s. (s, A.initial s) ∷ steps-of xs s) (numbers (length g))

  abbrev IsGood : ℕ × Q → Type 0
  IsGood x = Contains (states x.0) x.1 × Made x.0 x.1

  abbrev Fits : ℕ × Q → Type 0
  Fits x = Contains all-states x × IsGood x

  Contains-all-states : (s : ℕ) (q : Q) → IsSpace g s → Contains (states s) q → Contains all-states (s, q)
  Contains-all-states s q there h =
      Contains-flat_map (λ s. map (λ q. (s, q)) (states s)) (numbers (length g)) s (s, q) (Contains-numbers (length g) s there)
      (Contains-map (λ q. (s, q)) (states s) q h)

  made-stays : (xs : List (ℕ × Q)) → ((x : ℕ × Q) → Contains xs x → Fits x) → (x : ℕ × Q) → Contains (made xs) x → Fits x
  made-stays xs fits x h =
      All-contains Fits (made xs) x
      (All-flat_map Fits (λ s. (s, A.initial s) ∷ steps-of xs s) (numbers (length g)) (λ s in_numbers.
      let there : IsSpace g s = numbers-below (length g) s in_numbers in
      All-cons Fits (s, A.initial s) (steps-of xs s)
      (Contains-all-states s (A.initial s) there (inside.initial s there), (inside.initial s there, made_starts s there))
      (All-flat_map Fits (λ p. flat_map (λ q. map (λ label. (s, A.step s p q label)) ls) (at_space (right g s) xs))
      (at_space (left g s) xs) (λ p in_left.
      let of_p = (fits (left g s, p) (at_space-inside (left g s) p xs in_left)).1 in
      All-flat_map Fits (λ q. map (λ label. (s, A.step s p q label)) ls) (at_space (right g s) xs) (λ q in_right.
      let of_q = (fits (right g s, q) (at_space-inside (right g s) q xs in_right)).1 in
      All-map Fits (λ label. (s, A.step s p q label)) ls
      (All-from_contains (λ label. Fits (s, A.step s p q label)) ls (λ label in_ls.
      let stepped = inside.step s p q label there of_p.0 of_q.0 in
      (Contains-all-states s (A.step s p q label) there stepped, (stepped, made_steps s p q label there in_ls of_p.1 of_q.1)))))))))
      h

  -- a list of states, each once, each made, with all that steps on the listed labels make
  pub record IsMadeList (ys : List (ℕ × Q)) : Type 0 where
    pub once : AllPairs (λ x y. x ≢ y) ys
    pub good : (s : ℕ) (q : Q) → Contains ys (s, q) → Contains (states s) q × Made s q
    pub initial : (s : ℕ) → IsSpace g s → Contains ys (s, A.initial s)
    pub step : (s : ℕ) (p q : Q) (label : Label) → IsSpace g s → Contains ls label →
        Contains ys (left g s, p) → Contains ys (right g s, q) → Contains ys (s, A.step s p q label)

  pub made-listed : (ys : List (ℕ × Q)) × IsMadeList ys
  made-listed =
      let found = closed-list (compare-pairs cases_eq decide) all-states made IsGood made-stays in
      let ys = found.0 in
      let of_ys = found.1 in (
        ys,
        record {
          once = of_ys.once;
          good = λ s q h. of_ys.good (s, q) h;
          initial = λ s there. of_ys.closed (s, A.initial s)
              (Contains-flat_map (λ s. (s, A.initial s) ∷ steps-of ys s) (numbers (length g)) s (s, A.initial s)
              (Contains-numbers (length g) s there) (Contains-first (s, A.initial s) (steps-of ys s)));
          step = λ s p q label there in_ls in_p in_q. of_ys.closed (s, A.step s p q label)
              (Contains-flat_map (λ s. (s, A.initial s) ∷ steps-of ys s) (numbers (length g)) s (s, A.step s p q label)
              (Contains-numbers (length g) s there)
              (Contains-later (s, A.initial s) (s, A.step s p q label) (steps-of ys s)
              (Contains-flat_map (λ p. flat_map (λ q. map (λ label. (s, A.step s p q label)) ls) (at_space (right g s) ys))
              (at_space (left g s) ys) p (s, A.step s p q label) (Contains-at_space (left g s) p ys in_p)
              (Contains-flat_map (λ q. map (λ label. (s, A.step s p q label)) ls) (at_space (right g s) ys) q (s, A.step s p q label)
              (Contains-at_space (right g s) q ys in_q)
              (Contains-map (λ label. (s, A.step s p q label)) ls label in_ls)))));
        },
      )

-- the values of a stable automaton, in one list
module _ {Q : Type 0} (decide : (p q : Q) → (p ≡ q) ⊎ (p ≢ q)) (g : Spaces) (guide : IsGuide g) (A : Automaton Q)
    (stable : IsStable g A) (states : ℕ → List Q) (inside : IsClosed g A (λ s q. Contains (states s) q)) (k : ℕ)
    (looks : LooksBelow g A (λ s q. Contains (states s) q) k) where
  pub reached-listed : (ys : List (ℕ × Q)) × AllPairs (λ x y. x ≢ y) ys × IsReached g A (λ s q. Contains ys (s, q))
  reached-listed =
      let found = made-listed decide g A states inside (labels k) (Generated g A) starts
      (λ s p q label there in_labels of_p of_q. steps s p q label there of_p of_q) in
      let ys = found.0 in
      let of_ys = found.1 in (
        ys,
        of_ys.once,
        IsReached-generated g guide A stable (λ s q. Contains ys (s, q))
            (record {
              initial = of_ys.initial;
              step = λ s p q label there in_p in_q.
                  let l = labels-all k label in
                  let same : A.step s p q l.0 ≡ A.step s p q label =
                  looks.step s p q l.0 label there (of_ys.good (left g s) p in_p).0 (of_ys.good (right g s) q in_q).0 l.2 in
                  subst (λ z. Contains ys (s, z)) same (of_ys.step s p q l.0 there l.1 in_p in_q);
            })
            (record { state = λ s q there h. (of_ys.good s q h).1 }),
      )

-- an automaton whose reached states are listed
module _ {Q : Type 0} (decide : (p q : Q) → (p ≡ q) ⊎ (p ≢ q)) (g : Spaces) (guide : IsGuide g) (A : Automaton Q)
    (stable : IsStable g A) (ys : List (ℕ × Q)) (distinct : AllPairs (λ x y. x ≢ y) ys)
    (reached : IsReached g A (λ s q. Contains ys (s, q))) where
  abbrev count : ℕ → ℕ
  count s = length (at_space s ys)

  abbrev name : ℕ → ℕ → Q
  name s i = slice_index_or (at_space s ys) i (A.initial s)

  abbrev number : ℕ → Q → ℕ
  number s q = place decide (at_space s ys) q

  abbrev numbered : Automaton ℕ
  numbered = record {
    initial = λ s. number s (A.initial s);
    step = λ s i j label. number s (A.step s (name (left g s) i) (name (right g s) j) label);
    accepting = λ i. A.accepting (name 0 i);
  }

  closed : IsClosed g A (λ s q. Contains ys (s, q))
  closed = IsClosed-reached g guide A stable (λ s q. Contains ys (s, q)) reached

  number-is : (s : ℕ) (q : Q) → Contains ys (s, q) → (number s q < count s) × (name s (number s q) ≡ q)
  number-is s q h = place-is decide (at_space s ys) q (A.initial s) (Contains-at_space s q ys h)

  named-listed : (s i : ℕ) → Below count s i → Contains ys (s, name s i)
  named-listed s i below = at_space-inside s (name s i) ys (Contains-get_or (at_space s ys) i (A.initial s) (ltb-true i (count s) below))

  stepped : (s i j : ℕ) (label : Label) → IsSpace g s → Below count (left g s) i → Below count (right g s) j →
      Contains ys (s, A.step s (name (left g s) i) (name (right g s) j) label)
  stepped s i j label there in_i in_j =
      closed.step s (name (left g s) i) (name (right g s) j) label there (named-listed (left g s) i in_i) (named-listed (right g s) j in_j)

  IsClosed-numbered : IsClosed g numbered (Below count)
  IsClosed-numbered = record {
    initial = λ s there. lt-ltb (number s (A.initial s)) (count s) (number-is s (A.initial s) (closed.initial s there)).0;
    step = λ s i j label there in_i in_j. lt-ltb (numbered.step s i j label) (count s)
        (number-is s (A.step s (name (left g s) i) (name (right g s) j) label) (stepped s i j label there in_i in_j)).0;
  }

  IsNaming-numbered : IsNaming g numbered (Below count) A name
  IsNaming-numbered = record {
    initial = λ s there. (number-is s (A.initial s) (closed.initial s there)).1;
    step = λ s i j label there in_i in_j.
        (number-is s (A.step s (name (left g s) i) (name (right g s) j) label) (stepped s i j label there in_i in_j)).1;
    accepting = λ i below. refl;
  }

  IsOnce-numbered : IsOnce g (Below count) name
  IsOnce-numbered = record {
    once = λ s i j there in_i in_j same. place-once (at_space s ys) (at_space-once s ys distinct) i j (A.initial s)
        (ltb-true i (count s) in_i) (ltb-true j (count s) in_j) same;
  }

  IsReached-numbered : IsReached g numbered (Below count)
  IsReached-numbered = record {
    state = λ s i there. (
      (λ below.
          let v = (reached.state s (name s i) there).0 (named-listed s i below) in
          let at : ℕ = value g numbered s v.depth v.assignment in
          let in_at = value-closed g guide numbered (Below count) IsClosed-numbered s v.depth v.assignment there in
          record {
            assignment = v.assignment;
            depth = v.depth;
            covers = v.covers;
            is_value = IsOnce-numbered.once s at i there in_at below
                (name-value g guide numbered (Below count) A name IsClosed-numbered IsNaming-numbered s v.depth v.assignment there ∙ v.is_value);
          }),
      IsValue-closed g guide numbered (Below count) IsClosed-numbered s i there,
    );
  }

  pub IsNumbered-listed : (B : Automaton ℕ) × (counts : ℕ → ℕ) × (names : ℕ → ℕ → Q) × IsNumbered g A B counts names
  IsNumbered-listed = (
    numbered,
    count,
    name,
    record { reached = IsReached-numbered; naming = IsNaming-numbered; once = IsOnce-numbered },
  )

-- the names of numbers are states
pub name-inside : {Q : Type 0} (g : Spaces) (guide : IsGuide g) (A : Automaton Q) → IsStable g A → (has : ℕ → Q → Type 0) →
    IsClosed g A has → (B : Automaton ℕ) (counts : ℕ → ℕ) (names : ℕ → ℕ → Q) → IsNumbered g A B counts names →
    (s x : ℕ) → IsSpace g s → Below counts s x → has s (names s x)
name-inside g guide A stable has closed B counts names is s x there below =
    let stable_B = IsStable-named g guide B (Below counts) A names is.reached is.naming is.once stable in
    let closed_B = IsClosed-reached g guide B stable_B (Below counts) is.reached in
    let v = ((is.reached).state s x there).0 below in
    subst (has s)
    (sym (name-value g guide B (Below counts) A names closed_B is.naming s v.depth v.assignment there) ∙ ap (names s) v.is_value)
    (value-closed g guide A has closed s v.depth v.assignment there)

-- a stable automaton with finitely many states, whose steps look below k, can be numbered
module _ {Q : Type 0} (decide : (p q : Q) → (p ≡ q) ⊎ (p ≢ q)) (g : Spaces) (guide : IsGuide g) (A : Automaton Q)
    (stable : IsStable g A) (states : ℕ → List Q) (inside : IsClosed g A (λ s q. Contains (states s) q)) (k : ℕ)
    (looks : LooksBelow g A (λ s q. Contains (states s) q) k) where
  pub IsNumbered-exists : (B : Automaton ℕ) × (count : ℕ → ℕ) × (name : ℕ → ℕ → Q) × IsNumbered g A B count name
  IsNumbered-exists =
      let found = reached-listed decide g guide A stable states inside k looks in
      IsNumbered-listed decide g guide A stable found.0 found.1 found.2

-- states below a count are listed
pub listed-below : (g : Spaces) (count : ℕ → ℕ) (A : Automaton ℕ) → IsClosed g A (Below count) →
    IsClosed g A (λ s q. Contains (numbers (count s)) q)
listed-below g count A closed = record {
  initial = λ s there. Contains-numbers (count s) (A.initial s) (ltb-true (A.initial s) (count s) (closed.initial s there));
  step = λ s p q label there in_p in_q. Contains-numbers (count s) (A.step s p q label) (ltb-true (A.step s p q label) (count s)
      (closed.step s p q label there (lt-ltb p (count (left g s)) (numbers-below (count (left g s)) p in_p))
      (lt-ltb q (count (right g s)) (numbers-below (count (right g s)) q in_q))));
}

pub listed-looks : (g : Spaces) (count : ℕ → ℕ) (A : Automaton ℕ) (k : ℕ) → LooksBelow g A (Below count) k →
    LooksBelow g A (λ s q. Contains (numbers (count s)) q) k
listed-looks g count A k looks = record {
  step = λ s p q l m there in_p in_q. looks.step s p q l m there
      (lt-ltb p (count (left g s)) (numbers-below (count (left g s)) p in_p))
      (lt-ltb q (count (right g s)) (numbers-below (count (right g s)) q in_q));
}

pub IsNumbered-counted : (g : Spaces) (A : Automaton ℕ) (count : ℕ → ℕ) (k : ℕ) → IsGuide g → IsStable g A →
    IsClosed g A (Below count) → LooksBelow g A (Below count) k →
    (B : Automaton ℕ) × (counts : ℕ → ℕ) × (name : ℕ → ℕ → ℕ) × IsNumbered g A B counts name
IsNumbered-counted g A count k guide stable closed looks =
    IsNumbered-exists cases_eq g guide A stable (λ s. numbers (count s)) (listed-below g count A closed) k (listed-looks g count A k looks)

-- products with numbered states exist
pub IsProduct-exists : (g : Spaces) (A B : Automaton ℕ) (count_A count_B : ℕ → ℕ) (k : ℕ) → IsGuide g →
    IsStable g A → IsClosed g A (Below count_A) → LooksBelow g A (Below count_A) k →
    IsStable g B → IsClosed g B (Below count_B) → LooksBelow g B (Below count_B) k →
    (C : Automaton ℕ) × (count : ℕ → ℕ) × (pair : ℕ → ℕ → ℕ × ℕ) × IsProduct g A B C (Below count) pair
IsProduct-exists g A B count_A count_B k guide of_A closed_A looks_A of_B closed_B looks_B =
    let in_A = listed-below g count_A A closed_A in
    let in_B = listed-below g count_B B closed_B in
    let below_A = listed-looks g count_A A k looks_A in
    let below_B = listed-looks g count_B B k looks_B in
    let states : ℕ → List (ℕ × ℕ) = λ s. all-pairs (numbers (count_A s)) (numbers (count_B s)) in
    let apart : (s : ℕ) (z : ℕ × ℕ) → Contains (states s) z → Contains (numbers (count_A s)) z.0 × Contains (numbers (count_B s)) z.1
    = λ s z. all-pairs-inside (numbers (count_A s)) (numbers (count_B s)) z in
    let found = IsNumbered-exists (compare-pairs cases_eq cases_eq) g guide (pairs A B) (IsStable-pairs g A B of_A of_B) states
    (record {
      initial = λ s there. Contains-all-pairs (numbers (count_A s)) (numbers (count_B s)) (A.initial s) (B.initial s)
          (in_A.initial s there) (in_B.initial s there);
      step = λ s p q label there in_p in_q.
          let of_p = apart (left g s) p in_p in
          let of_q = apart (right g s) q in_q in
          Contains-all-pairs (numbers (count_A s)) (numbers (count_B s)) (A.step s p.0 q.0 label) (B.step s p.1 q.1 label)
          (in_A.step s p.0 q.0 label there of_p.0 of_q.0) (in_B.step s p.1 q.1 label there of_p.1 of_q.1);
    })
    k (record {
      step = λ s p q l m there in_p in_q same.
          let of_p = apart (left g s) p in_p in
          let of_q = apart (right g s) q in_q in
          λ i. (below_A.step s p.0 q.0 l m there of_p.0 of_q.0 same i, below_B.step s p.1 q.1 l m there of_p.1 of_q.1 same i);
    }) in
    let is = found.3 in
    (found.0, found.1, found.2, record { reached = is.reached; naming = is.naming; once = is.once })
