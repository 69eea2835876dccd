-- On Sizes: an automaton with finitely many states, whose steps look at finitely many tracks, has one.
use Rattle.std.proofs.Common.{◌≡◌, ◌≢◌, ℕ, zero, suc, ◌+◌, ◌<◌, ◌≤◌, Bool, true, false, cond, eqb, ◌⊎◌, inl, inr, List, [], ◌∷◌, ◌++◌, map}
use Rattle.std.proofs.Common.{length, nat_lt, All, Contains, AllPairs, flat_map, refl, sym, ap, subst, ◌∙◌, arith, eqb-true}
use Rattle.std.proofs.lemmas.Bool.{cases_eq, eqb-false, ltb-true, ltb-false, lt-ltb}
use Rattle.std.proofs.lemmas.List.Elements.{All-nil, All-cons, All-map, All-contains, Contains-append_left, Contains-append_right}
use Rattle.std.proofs.lemmas.List.Kept.{AllPairs-cons}
use mathlib.Core.Path.{fun_ext}
use Rattle.labels.specs.Labels.{Label, empty_label, with_track, with_below}
use Rattle.gta_theory.specs.Guides.{Spaces, IsSpace, left, right}
use Rattle.gta_theory.specs.Automata.{Automaton, Has}
use Rattle.gta_theory.specs.Sizes.{IsListOf, AreDifferent, IsVaried, IsUnderTable, IsPart, IsChildPair, SizeIn, sum_below, SizeOf}
use Rattle.gta_theory.specs.Sizes.{AreSameBelow, LooksBelow}
use Rattle.gta_theory.proofs.ListsLemmas.{Contains-first, Contains-later, Contains-cases, Contains-none, All-from_contains, Contains-map}
use Rattle.gta_theory.proofs.ListsLemmas.{Contains-flat_map, All-flat_map, numbers, Contains-numbers, numbers-below, find, compare-pairs}

-- of a list of things that can be compared and tested: those that pass, each once
module _ {X : Type 0} (Apart : X → X → Type 0) (Fine Is : X → Type 0)
    (compare : (x y : X) → Fine x → Fine y → (x ≡ y) ⊎ Apart x y) (test : (x : X) → Fine x → Is x ⊎ (Is x → ⊥)) where
  record ArePicked (xs ys : List X) : Type 0 where
    every : (x : X) → Contains xs x → Is x → Contains ys x
    only : (x : X) → Contains ys x → Is x × Contains xs x
    once : AllPairs Apart ys

  picked : (xs : List X) → All Fine xs → (ys : List X) × ArePicked xs ys
  picked [] fine = (
    [],
    record {
      every = λ x h is. absurd (Contains-none x h);
      only = λ x h. absurd (Contains-none x h);
      once = λ i j d less inside. absurd (omega arith);
    },
  )
  picked (x ∷ xs) fine =
      let fine_x : Fine x = All-contains Fine (x ∷ xs) x fine (Contains-first x xs) in
      let fine_xs : (z : X) → Contains xs z → Fine z = λ z later. All-contains Fine (x ∷ xs) z fine (Contains-later x z xs later) in
      let rest = picked xs (All-from_contains Fine xs fine_xs) in
      let ys = rest.0 in
      let of_ys = rest.1 in
      let only_later : (z : X) → Contains ys z → Is z × Contains (x ∷ xs) z
      = λ z h. let o = of_ys.only z h in (o.0, Contains-later x z xs o.1) in
      elim (test x fine_x) as (λ _. (ys : List X) × ArePicked (x ∷ xs) ys) [
        | inr fails ↦ (
          ys,
          record {
            every = λ z h is. elim (Contains-cases x z xs h) as (λ _. Contains ys z) [
              | inl same ↦ absurd (fails (subst Is (sym same) is))
              | inr later ↦ of_ys.every z later is
            ];
            only = only_later;
            once = of_ys.once;
          },
        )
        | inl passes ↦ elim (find Apart Fine compare x ys fine_x (All-from_contains Fine ys (λ z h. fine_xs z (of_ys.only z h).1)))
            as (λ _. (ys : List X) × ArePicked (x ∷ xs) ys) [
              | inl had ↦ (
                ys,
                record {
                  every = λ z h is. elim (Contains-cases x z xs h) as (λ _. Contains ys z) [
                    | inl same ↦ subst (Contains ys) same had
                    | inr later ↦ of_ys.every z later is
                  ];
                  only = only_later;
                  once = of_ys.once;
                },
              )
              | inr new ↦ (
                x ∷ ys,
                record {
                  every = λ z h is. elim (Contains-cases x z xs h) as (λ _. Contains (x ∷ ys) z) [
                    | inl same ↦ subst (Contains (x ∷ ys)) same (Contains-first x ys)
                    | inr later ↦ Contains-later x z ys (of_ys.every z later is)
                  ];
                  only = λ z h. elim (Contains-cases x z ys h) as (λ _. Is z × Contains (x ∷ xs) z) [
                    | inl same ↦ (subst Is same passes, subst (Contains (x ∷ xs)) same (Contains-first x xs))
                    | inr later ↦ only_later z later
                  ];
                  once = AllPairs-cons Apart x ys new of_ys.once;
                },
              )
            ]
      ]

  -- where the list has all that pass
  pub IsListOf-picked : (xs : List X) → All Fine xs → ((x : X) → Is x → Contains xs x) → (ys : List X) × IsListOf Apart Is ys
  IsListOf-picked xs fine all =
      let found = picked xs fine in
      let of_ys = found.1 in (
        found.0,
        record {
          every = λ x is. of_ys.every x (all x is) is;
          only = λ x h. (of_ys.only x h).0;
          once = of_ys.once;
        },
      )

-- the labels with tracks below k alone
pub labels : ℕ → List Label
labels zero = empty_label ∷ []
labels (suc k) = map (λ l. with_track l k false) (labels k) ++ map (λ l. with_track l k true) (labels k)

-- each label is one of them below k
pub labels-all : (k : ℕ) (m : Label) → (l : Label) × Contains (labels k) l × AreSameBelow k l m
unfolding labels
labels-all zero m = (empty_label, Contains-first empty_label [], λ t below. absurd (omega arith))
labels-all (suc k) m =
    let rest = labels-all k m in
    (with_track rest.0 k (m k), pick (m k) rest.0 rest.1, λ t below. same t (rest.0 t) (rest.2 t) below (eqb t k) refl)
  where
    pick : (b : Bool) (l : Label) → Contains (labels k) l →
        Contains (map (λ l. with_track l k false) (labels k) ++ map (λ l. with_track l k true) (labels k)) (with_track l k b)
    pick false l h = Contains-append_left (map (λ l. with_track l k false) (labels k)) (map (λ l. with_track l k true) (labels k))
        (with_track l k false) (Contains-map (λ l. with_track l k false) (labels k) l h)
    pick true l h = Contains-append_right (map (λ l. with_track l k false) (labels k)) (map (λ l. with_track l k true) (labels k))
        (with_track l k true) (Contains-map (λ l. with_track l k true) (labels k) l h)

    same : (t : ℕ) (bit : Bool) → (t < k → bit ≡ m t) → t < suc k → (b : Bool) → eqb t k ≡ b → cond b (m k) bit ≡ m t
    same t bit below_k below true is = ap m (sym (eqb-true t k is))
    same t bit below_k below false is = below_k (less (eqb-false t k is))
      where
        less : t ≢ k → t < k
        less other = omega arith

-- functions that look at the tracks below k alone
module _ {Q : Type 0} (decide : (p q : Q) → (p ≡ q) ⊎ (p ≢ q)) (k : ℕ) where
  Looks : (Label → Q) → Type 0
  Looks f = (l m : Label) → AreSameBelow k l m → f l ≡ f m

  find-label : (f h : Label → Q) (ls : List Label) → All (λ l. f l ≡ h l) ls ⊎ AreDifferent f h
  find-label f h [] = inl (All-nil (λ l. f l ≡ h l))
  find-label f h (l ∷ ls) = elim (decide (f l) (h l)) as (λ _. All (λ l. f l ≡ h l) (l ∷ ls) ⊎ AreDifferent f h) [
    | inr differs ↦ inr (record { label = l; differs = differs })
    | inl is ↦ elim (find-label f h ls) as (λ _. All (λ l. f l ≡ h l) (l ∷ ls) ⊎ AreDifferent f h) [
      | inl all ↦ inl (All-cons (λ l. f l ≡ h l) l ls is all)
      | inr differ ↦ inr differ
    ]
  ]

  -- they are the same, or differ at some label
  compare-functions : (f h : Label → Q) → Looks f → Looks h → ((l : Label) → f l ≡ h l) ⊎ AreDifferent f h
  unfolding Looks
  compare-functions f h of_f of_h = elim (find-label f h (labels k)) as (λ _. ((l : Label) → f l ≡ h l) ⊎ AreDifferent f h) [
    | inr differ ↦ inr differ
    | inl all ↦ inl (λ m.
        let l = labels-all k m in
        sym (of_f l.0 m l.2) ∙ All-contains (λ l. f l ≡ h l) (labels k) l.0 all l.1 ∙ of_h l.0 m l.2)
  ]

  -- and vary or not
  test-varied : (f : Label → Q) → Looks f → IsVaried f ⊎ (IsVaried f → ⊥)
  unfolding Looks
  test-varied f of_f = elim (compare-functions f (λ l. f empty_label) of_f (λ l m same. refl)) as (λ _. IsVaried f ⊎ (IsVaried f → ⊥)) [
    | inl all ↦ inr (λ v. v.differs (all v.one ∙ sym (all v.other)))
    | inr d ↦ inl (record { one = d.label; other = empty_label; differs = d.differs })
  ]

-- a label's tracks below j are those of any that is the same there
with_below-same : (j : ℕ) (l m label : Label) → AreSameBelow j l m → with_below j l label ≡ with_below j m label
with_below-same j l m label same = fun_ext (λ t. choose t (nat_lt t j) refl)
  where
    choose : (t : ℕ) (b : Bool) → nat_lt t j ≡ b → cond b (l t) (label t) ≡ cond b (m t) (label t)
    choose t true is = same t (ltb-true t j is)
    choose t false is = refl

-- with the tracks below j fixed, two labels are the same there
with_below-fixed : (j k : ℕ) (fixed l m : Label) → k ≤ j → AreSameBelow k (with_below j fixed l) (with_below j fixed m)
with_below-fixed j k fixed l m more t below =
    let is : nat_lt t j ≡ true = lt-ltb t j (omega arith) in
    (λ i. cond (is i) (fixed t) (l t)) ∙ sym (λ i. cond (is i) (fixed t) (m t))

with_below-still : (j k : ℕ) (fixed l m : Label) → AreSameBelow k l m → AreSameBelow k (with_below j fixed l) (with_below j fixed m)
with_below-still j k fixed l m same t below = λ i. cond (nat_lt t j) (fixed t) (same t below i)

module _ {Q : Type 0} (decide : (p q : Q) → (p ≡ q) ⊎ (p ≢ q)) (g : Spaces) (A : Automaton Q) (has : ℕ → Q → Type 0)
    (states : ℕ → List Q) (there : (s : ℕ) (q : Q) → has s q → Contains (states s) q)
    (back : (s : ℕ) (q : Q) → Contains (states s) q → has s q) (k : ℕ) (looks : LooksBelow g A has k) where
  -- all pairs of child states
  child-pairs : ℕ → List (Q × Q)
  child-pairs s = flat_map (λ p. map (λ q. (p, q)) (states (right g s))) (states (left g s))

  child-pairs-are : (s : ℕ) → All (IsChildPair g has s) (child-pairs s)
  unfolding child-pairs
  child-pairs-are s =
      All-flat_map (IsChildPair g has s) (λ p. map (λ q. (p, q)) (states (right g s))) (states (left g s)) (λ p in_p.
      All-map (IsChildPair g has s) (λ q. (p, q)) (states (right g s))
      (All-from_contains (λ q. IsChildPair g has s (p, q)) (states (right g s)) (λ q in_q.
      (back (left g s) p in_p, back (right g s) q in_q))))

  Contains-child-pairs : (s : ℕ) (pair : Q × Q) → IsChildPair g has s pair → Contains (child-pairs s) pair
  unfolding child-pairs
  Contains-child-pairs s pair is =
      Contains-flat_map (λ p. map (λ q. (p, q)) (states (right g s))) (states (left g s)) pair.0 pair
      (there (left g s) pair.0 is.0)
      (Contains-map (λ q. (pair.0, q)) (states (right g s)) pair.1 (there (right g s) pair.1 is.1))

  pairs-listed : (s : ℕ) → (xs : List (Q × Q)) × IsListOf (λ x y. x ≢ y) (IsChildPair g has s) xs
  pairs-listed s =
      IsListOf-picked (λ x y. x ≢ y) (IsChildPair g has s) (IsChildPair g has s)
      (λ x y fine_x fine_y. compare-pairs decide decide x y) (λ x fine. inl fine)
      (child-pairs s) (child-pairs-are s) (Contains-child-pairs s)

  -- all functions got from one by fixing the tracks below a number under k
  fixings : (Label → Q) → ℕ → List (Label → Q)
  fixings f j = map (λ fixed label. f (with_below j fixed label)) (labels j)

  under-table : ℕ → List (Label → Q)
  under-table s = flat_map (λ pair. flat_map (fixings (A.step s pair.0 pair.1)) (numbers k)) (child-pairs s)

  -- they can be compared and tested
  IsFine : ℕ → (Label → Q) → Type 0
  IsFine s f = IsUnderTable g A has s f × Looks decide k f

  under-table-fine : (s : ℕ) → IsSpace g s → All (IsFine s) (under-table s)
  unfolding under-table fixings IsFine Looks
  under-table-fine s inside =
      All-flat_map (IsFine s) (λ pair. flat_map (fixings (A.step s pair.0 pair.1)) (numbers k)) (child-pairs s) (λ pair in_pairs.
      let is = All-contains (IsChildPair g has s) (child-pairs s) pair (child-pairs-are s) in_pairs in
      All-flat_map (IsFine s) (fixings (A.step s pair.0 pair.1)) (numbers k) (λ j in_numbers.
      All-map (IsFine s) (λ fixed label. A.step s pair.0 pair.1 (with_below j fixed label)) (labels j)
      (All-from_contains (λ fixed. IsFine s (λ label. A.step s pair.0 pair.1 (with_below j fixed label))) (labels j) (λ fixed in_labels. (
        record {
          at_left = pair.0;
          at_right = pair.1;
          in_left = is.0;
          in_right = is.1;
          below = j;
          fixed = fixed;
          states = λ label. refl;
        },
        (λ l m same. looks.step s pair.0 pair.1 (with_below j fixed l) (with_below j fixed m) inside is.0 is.1 (with_below-still j k fixed l m same)),
      )))))

  Contains-under-table : (s : ℕ) → IsSpace g s → (f : Label → Q) → IsPart g A has s f → Contains (under-table s) f
  unfolding under-table fixings
  Contains-under-table s inside f part = choose (nat_lt (part.under).below k) refl
    where
      choose : (b : Bool) → nat_lt (part.under).below k ≡ b →
          Contains (flat_map (λ pair. flat_map (fixings (A.step s pair.0 pair.1)) (numbers k)) (child-pairs s)) f
      choose true less =
          let u = part.under in
          let fixed = labels-all u.below u.fixed in
          let one : Label → Q = λ label. A.step s u.at_left u.at_right (with_below u.below fixed.0 label) in
          let is : one ≡ f = fun_ext (λ label.
          ap (A.step s u.at_left u.at_right) (with_below-same u.below fixed.0 u.fixed label fixed.2) ∙ sym (u.states label)) in
          subst (Contains (flat_map (λ pair. flat_map (fixings (A.step s pair.0 pair.1)) (numbers k)) (child-pairs s))) is
          (Contains-flat_map (λ pair. flat_map (fixings (A.step s pair.0 pair.1)) (numbers k)) (child-pairs s) (u.at_left, u.at_right) one
          (Contains-child-pairs s (u.at_left, u.at_right) (u.in_left, u.in_right))
          (Contains-flat_map (fixings (A.step s u.at_left u.at_right)) (numbers k) u.below one
          (Contains-numbers k u.below (ltb-true u.below k less))
          (Contains-map (λ fix label. A.step s u.at_left u.at_right (with_below u.below fix label)) (labels u.below) fixed.0 fixed.1)))
      choose false no_less =
          let u = part.under in
          let v = part.varied in
          absurd (v.differs (u.states v.one
          ∙ looks.step s u.at_left u.at_right (with_below u.below u.fixed v.one) (with_below u.below u.fixed v.other) inside u.in_left u.in_right
          (with_below-fixed u.below k u.fixed v.one v.other (ltb-false u.below k no_less))
          ∙ sym (u.states v.other)))

  parts-listed : (s : ℕ) → IsSpace g s → (fs : List (Label → Q)) × IsListOf AreDifferent (IsPart g A has s) fs
  unfolding IsFine
  parts-listed s inside =
      IsListOf-picked AreDifferent (IsFine s) (IsPart g A has s)
      (λ f h fine_f fine_h. elim (compare-functions decide k f h fine_f.1 fine_h.1) as (λ _. (f ≡ h) ⊎ AreDifferent f h) [
        | inl same ↦ inl (fun_ext same)
        | inr differ ↦ inr differ
      ])
      (λ f fine. elim (test-varied decide k f fine.1) as (λ _. IsPart g A has s f ⊎ (IsPart g A has s f → ⊥)) [
        | inl varied ↦ inl (record { under = fine.0; varied = varied })
        | inr constant ↦ inr (λ part. constant part.varied)
      ])
      (under-table s) (under-table-fine s inside) (Contains-under-table s inside)

  pub SizeIn-exists : (s : ℕ) → IsSpace g s → (n : ℕ) × SizeIn g A has s n
  SizeIn-exists s inside =
      let pairs = pairs-listed s in
      let parts = parts-listed s inside in (
        length pairs.0 + length parts.0,
        record { pairs = pairs.0; parts = parts.0; all_pairs = pairs.1; all_parts = parts.1; is_sum = refl },
      )

  size-at : (s : ℕ) → (n : ℕ) × (IsSpace g s → SizeIn g A has s n)
  size-at s = choose (nat_lt s (length g)) refl
    where
      choose : (b : Bool) → nat_lt s (length g) ≡ b → (n : ℕ) × (IsSpace g s → SizeIn g A has s n)
      choose true is = let size = SizeIn-exists s (ltb-true s (length g) is) in (size.0, λ inside. size.1)
      choose false is = (0, λ inside. absurd (omega (arith, ltb-false s (length g) is)))

  -- so it has a Size
  pub SizeOf-exists : (n : ℕ) × SizeOf g A has n
  SizeOf-exists = (
    sum_below (λ s. (size-at s).0) (length g),
    record { sizes = λ s. (size-at s).0; in_space = λ s. (size-at s).1; is_sum = refl },
  )

-- where the states are the numbers below a count
module _ (g : Spaces) (A : Automaton ℕ) (count : ℕ → ℕ) (k : ℕ) (looks : LooksBelow g A (Has (λ s q. nat_lt q (count s))) k) where
  counted : (s q : ℕ) → Has (λ s q. nat_lt q (count s)) s q → Contains (numbers (count s)) q
  counted s q below = Contains-numbers (count s) q (ltb-true q (count s) below)

  below-count : (s q : ℕ) → Contains (numbers (count s)) q → Has (λ s q. nat_lt q (count s)) s q
  below-count s q h = lt-ltb q (count s) (numbers-below (count s) q h)

  pub SizeIn-counted : (s : ℕ) → IsSpace g s → (n : ℕ) × SizeIn g A (Has (λ s q. nat_lt q (count s))) s n
  SizeIn-counted = SizeIn-exists cases_eq g A (Has (λ s q. nat_lt q (count s))) (λ s. numbers (count s)) counted below-count k looks

  pub SizeOf-counted : (n : ℕ) × SizeOf g A (Has (λ s q. nat_lt q (count s))) n
  SizeOf-counted = SizeOf-exists cases_eq g A (Has (λ s q. nat_lt q (count s))) (λ s. numbers (count s)) counted below-count k looks
