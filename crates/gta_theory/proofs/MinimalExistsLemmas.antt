-- On minimal automata: one with numbered states exists of an automaton with finitely many states, whose steps look at
-- finitely many tracks.
use Rattle.std.proofs.Common.{◌≡◌, ◌≢◌, ℕ, ◌<◌, Bool, true, false, ◌↔◌, ◌⊎◌, inl, inr, List, map, length, slice_index_or, nat_lt, Contains}
use Rattle.std.proofs.Common.{flat_map, refl, sym, ap, subst, ◌∙◌, arith}
use Rattle.std.proofs.lemmas.Bool.{cases_eq, ltb-true, ltb-false, lt-ltb}
use Rattle.std.proofs.lemmas.List.Elements.{All-contains, Contains-get_or}
use Rattle.labels.specs.Labels.{Label}
use Rattle.gta_theory.specs.Assignments.{Assignment}
use Rattle.gta_theory.specs.Guides.{Spaces, IsSpace, IsGuide, left, right}
use Rattle.gta_theory.specs.Automata.{Automaton, IsStable, Accepts, IsValue}
use Rattle.gta_theory.specs.Constructions.{IsReached, IsClosed, IsNaming}
use Rattle.gta_theory.specs.Minimal.{AreSeparated, at_root, below_left, below_right, IsMinimal}
use Rattle.gta_theory.specs.Sizes.{LooksBelow}
use Rattle.gta_theory.specs.Numbered.{Below}
use Rattle.gta_theory.proofs.AutomataLemmas.{IsClosed-reached, Accepts-named, IsStable-named}
use Rattle.gta_theory.proofs.MinimalLemmas.{IsMinimal-classes}
use Rattle.gta_theory.proofs.LooksLemmas.{LooksBelow-named, LooksBelow-classes}
use Rattle.gta_theory.proofs.SizesExistLemmas.{labels, labels-all}
use Rattle.gta_theory.proofs.ClosingLemmas.{IsClosedList, closed-list}
use Rattle.gta_theory.proofs.NumberedLemmas.{name-inside, IsNumbered-counted}
use Rattle.gta_theory.proofs.ListsLemmas.{Contains-map, Contains-flat_map, numbers, Contains-numbers, numbers-below, find, compare-pairs}
use Rattle.gta_theory.proofs.ListsLemmas.{all-pairs, Contains-all-pairs, all-pairs-inside}
use Rattle.gta_theory.proofs.DecisionsLemmas.{decide-some, decide-either, decide-and, decide-differ, same-bit, passing, Contains-passing, passing-is}
use Rattle.gta_theory.proofs.ClassesLemmas.{firsts, firsts-inside, firsts-cover, firsts-apart, class-place, class-place-is}

-- separated states: what isn't separated is an equivalence
module _ (g : Spaces) (guide : IsGuide g) (B : Automaton ℕ) where
  not_separated-refl : (s p q : ℕ) → AreSeparated g B s p q → p ≡ q → ⊥
  not_separated-refl _ _ _ (at_root p q differs) same = differs (ap (λ x. B.accepting x) same)
  not_separated-refl _ _ _ (below_left s p q beside label there v rest) same =
      not_separated-refl s (B.step s p beside label) (B.step s q beside label) rest (ap (λ x. B.step s x beside label) same)
  not_separated-refl _ _ _ (below_right s p q beside label there v rest) same =
      not_separated-refl s (B.step s beside p label) (B.step s beside q label) rest (ap (λ x. B.step s beside x label) same)

  separated-sym : (s p q : ℕ) → AreSeparated g B s p q → AreSeparated g B s q p
  separated-sym _ _ _ (at_root p q differs) = at_root q p (λ same. differs (sym same))
  separated-sym _ _ _ (below_left s p q beside label there v rest) =
      below_left s q p beside label there v (separated-sym s (B.step s p beside label) (B.step s q beside label) rest)
  separated-sym _ _ _ (below_right s p q beside label there v rest) =
      below_right s q p beside label there v (separated-sym s (B.step s beside p label) (B.step s beside q label) rest)

  -- a third state is separated from one of two separated ones
  separated-third : (s p q : ℕ) → AreSeparated g B s p q → (r : ℕ) → AreSeparated g B s p r ⊎ AreSeparated g B s r q
  separated-third _ _ _ (at_root p q differs) r = elim (decide-differ (B.accepting p) (B.accepting r))
      as (λ _. AreSeparated g B 0 p r ⊎ AreSeparated g B 0 r q) [
        | inl differ ↦ inl (at_root p r differ)
        | inr same ↦ inr (at_root r q (λ equal. same (λ other. differs (other ∙ equal))))
      ]
  separated-third _ _ _ (below_left s p q beside label there v rest) r =
      elim (separated-third s (B.step s p beside label) (B.step s q beside label) rest (B.step s r beside label))
      as (λ _. AreSeparated g B (left g s) p r ⊎ AreSeparated g B (left g s) r q) [
        | inl one ↦ inl (below_left s p r beside label there v one)
        | inr other ↦ inr (below_left s r q beside label there v other)
      ]
  separated-third _ _ _ (below_right s p q beside label there v rest) r =
      elim (separated-third s (B.step s beside p label) (B.step s beside q label) rest (B.step s beside r label))
      as (λ _. AreSeparated g B (right g s) p r ⊎ AreSeparated g B (right g s) r q) [
        | inl one ↦ inl (below_right s p r beside label there v one)
        | inr other ↦ inr (below_right s r q beside label there v other)
      ]

-- whether two states are separated is decided by closing the list of separated pairs
module _ (g : Spaces) (guide : IsGuide g) (B : Automaton ℕ) (counts : ℕ → ℕ) (closed : IsClosed g B (Below counts))
    (reached : IsReached g B (Below counts)) (k : ℕ) (looks : LooksBelow g B (Below counts) k) where
  abbrev Pair : Type 0
  Pair = ℕ × (ℕ × ℕ)

  abbrev RootWay : Pair → Type 0
  RootWay x = (0 ≡ x.0) × (B.accepting (x.1).0 ≢ B.accepting (x.1).1)

  -- beside some state of a space and on some label, the steps are a listed pair
  abbrev Beside : List Pair → ℕ → ℕ → (ℕ → Label → ℕ) → (ℕ → Label → ℕ) → Type 0
  Beside xs s beside one other =
      (w : ℕ × Label) × Contains (all-pairs (numbers (counts beside)) (labels k)) w × Contains xs (s, (one w.0 w.1, other w.0 w.1))

  abbrev LeftWay : List Pair → Pair → Type 0
  LeftWay xs x = (s : ℕ) × Contains (numbers (length g)) s × ((left g s ≡ x.0)
      × Beside xs s (right g s) (λ q label. B.step s (x.1).0 q label) (λ q label. B.step s (x.1).1 q label))

  abbrev RightWay : List Pair → Pair → Type 0
  RightWay xs x = (s : ℕ) × Contains (numbers (length g)) s × ((right g s ≡ x.0)
      × Beside xs s (left g s) (λ q label. B.step s q (x.1).0 label) (λ q label. B.step s q (x.1).1 label))

  abbrev Way : List Pair → Pair → Type 0
  Way xs x = RootWay x ⊎ (LeftWay xs x ⊎ RightWay xs x)

  same-pair : (x y : Pair) → (x ≡ y) ⊎ (x ≢ y)
  same-pair = compare-pairs cases_eq (compare-pairs cases_eq cases_eq)

  decide-in : (xs : List Pair) (x : Pair) → Contains xs x ⊎ (Contains xs x → ⊥)
  decide-in xs x = elim (find (λ y z. y ≢ z) (λ y. Unit {0}) (λ y z fine_y fine_z. same-pair y z) x xs tt (λ i d below. tt))
      as (λ _. Contains xs x ⊎ (Contains xs x → ⊥)) [
        | inl had ↦ inl had
        | inr others ↦ inr (λ h. All-contains (λ z. x ≢ z) xs x others h refl)
      ]

  decide-beside : (xs : List Pair) (s beside : ℕ) (one other : ℕ → Label → ℕ) →
      Beside xs s beside one other ⊎ (Beside xs s beside one other → ⊥)
  decide-beside xs s beside one other = decide-some (λ w. Contains xs (s, (one w.0 w.1, other w.0 w.1)))
      (λ w. decide-in xs (s, (one w.0 w.1, other w.0 w.1))) (all-pairs (numbers (counts beside)) (labels k))

  decide-way : (xs : List Pair) (x : Pair) → Way xs x ⊎ (Way xs x → ⊥)
  decide-way xs x = decide-either (decide-and (cases_eq 0 x.0) (decide-differ (B.accepting (x.1).0) (B.accepting (x.1).1)))
      (decide-either
      (decide-some (λ s. (left g s ≡ x.0) × Beside xs s (right g s) (λ q label. B.step s (x.1).0 q label) (λ q label. B.step s (x.1).1 q label))
      (λ s. decide-and (cases_eq (left g s) x.0)
      (decide-beside xs s (right g s) (λ q label. B.step s (x.1).0 q label) (λ q label. B.step s (x.1).1 q label))) (numbers (length g)))
      (decide-some (λ s. (right g s ≡ x.0) × Beside xs s (left g s) (λ q label. B.step s q (x.1).0 label) (λ q label. B.step s q (x.1).1 label))
      (λ s. decide-and (cases_eq (right g s) x.0)
      (decide-beside xs s (left g s) (λ q label. B.step s q (x.1).0 label) (λ q label. B.step s q (x.1).1 label))) (numbers (length g))))

  all-here : List Pair
  all-here = flat_map (λ s. map (λ z. (s, z)) (all-pairs (numbers (counts s)) (numbers (counts s)))) (numbers (length g))

  listed : (s p : ℕ) → Below counts s p → Contains (numbers (counts s)) p
  listed s p below = Contains-numbers (counts s) p (ltb-true p (counts s) below)

  Contains-all-here : (s p q : ℕ) → IsSpace g s → Below counts s p → Below counts s q → Contains all-here (s, (p, q))
  unfolding all-here
  Contains-all-here s p q there in_p in_q =
      Contains-flat_map (λ s. map (λ z. (s, z)) (all-pairs (numbers (counts s)) (numbers (counts s)))) (numbers (length g)) s (s, (p, q))
      (Contains-numbers (length g) s there)
      (Contains-map (λ z. (s, z)) (all-pairs (numbers (counts s)) (numbers (counts s))) (p, q)
      (Contains-all-pairs (numbers (counts s)) (numbers (counts s)) p q (listed s p in_p) (listed s q in_q)))

  beside-value : (s q : ℕ) → IsSpace g s → Contains (numbers (counts s)) q → IsValue g B s q
  beside-value s q there h = (reached.state s q there).0 (lt-ltb q (counts s) (numbers-below (counts s) q h))

  abbrev IsSeparatedPair : Pair → Type 0
  IsSeparatedPair x = AreSeparated g B x.0 (x.1).0 (x.1).1

  way-good : (xs : List Pair) → ((x : Pair) → Contains xs x → IsSeparatedPair x) → (x : Pair) → Way xs x → IsSeparatedPair x
  way-good xs good x (inl root) = subst (λ s. AreSeparated g B s (x.1).0 (x.1).1) root.0 (at_root (x.1).0 (x.1).1 root.1)
  way-good xs good x (inr (inl l)) =
      let s = l.0 in
      let there : IsSpace g s = numbers-below (length g) s l.1 in
      let found = (l.2).1 in
      let w = found.0 in
      subst (λ z. AreSeparated g B z (x.1).0 (x.1).1) (l.2).0
      (below_left s (x.1).0 (x.1).1 w.0 w.1 there
      (beside-value (right g s) w.0 (guide.right_inside s there) (all-pairs-inside (numbers (counts (right g s))) (labels k) w found.1).0)
      (good (s, (B.step s (x.1).0 w.0 w.1, B.step s (x.1).1 w.0 w.1)) found.2))
  way-good xs good x (inr (inr r)) =
      let s = r.0 in
      let there : IsSpace g s = numbers-below (length g) s r.1 in
      let found = (r.2).1 in
      let w = found.0 in
      subst (λ z. AreSeparated g B z (x.1).0 (x.1).1) (r.2).0
      (below_right s (x.1).0 (x.1).1 w.0 w.1 there
      (beside-value (left g s) w.0 (guide.left_inside s there) (all-pairs-inside (numbers (counts (left g s))) (labels k) w found.1).0)
      (good (s, (B.step s w.0 (x.1).0 w.1, B.step s w.0 (x.1).1 w.1)) found.2))

  made : List Pair → List Pair
  made xs = passing (Way xs) (decide-way xs) all-here

  stays : (xs : List Pair) → ((x : Pair) → Contains xs x → Contains all-here x × IsSeparatedPair x) → (x : Pair) →
      Contains (made xs) x → Contains all-here x × IsSeparatedPair x
  unfolding made
  stays xs fits x h =
      let passes = passing-is (Way xs) (decide-way xs) all-here x h in
      (passes.0, way-good xs (λ y in_xs. (fits y in_xs).1) x passes.1)

  abbrev IsClosedHere : List Pair → Type 0
  IsClosedHere = IsClosedList same-pair all-here made IsSeparatedPair stays

  -- separated states below the counts are in a closed list
  module _ (ys : List Pair) (of_ys : IsClosedHere ys) where
    add : (s p q : ℕ) → IsSpace g s → Below counts s p → Below counts s q → Way ys (s, (p, q)) → Contains ys (s, (p, q))
    unfolding made
    add s p q there in_p in_q way = of_ys.closed (s, (p, q))
        (Contains-passing (Way ys) (decide-way ys) all-here (s, (p, q)) (Contains-all-here s p q there in_p in_q) way)

    Contains-separated : (s p q : ℕ) → AreSeparated g B s p q → Below counts s p → Below counts s q → Contains ys (s, (p, q))
    Contains-separated _ _ _ (at_root p q differs) in_p in_q = add 0 p q guide.not_empty in_p in_q (inl (refl, differs))
    Contains-separated _ _ _ (below_left s p q beside label there v rest) in_p in_q =
        let in_beside : Below counts (right g s) beside = (reached.state (right g s) beside (guide.right_inside s there)).1 v in
        let l = labels-all k label in
        let of_p : B.step s p beside label ≡ B.step s p beside l.0 = sym (looks.step s p beside l.0 label there in_p in_beside l.2) in
        let of_q : B.step s q beside label ≡ B.step s q beside l.0 = sym (looks.step s q beside l.0 label there in_q in_beside l.2) in
        let found = Contains-separated s (B.step s p beside label) (B.step s q beside label) rest
        (closed.step s p beside label there in_p in_beside) (closed.step s q beside label there in_q in_beside) in
        add (left g s) p q (guide.left_inside s there) in_p in_q (inr (inl (
          s,
          Contains-numbers (length g) s there,
          (
            refl,
            (
              (beside, l.0),
              Contains-all-pairs (numbers (counts (right g s))) (labels k) beside l.0 (listed (right g s) beside in_beside) l.1,
              subst (Contains ys) (λ i. (s, (of_p i, of_q i))) found,
            ),
          ),
        )))
    Contains-separated _ _ _ (below_right s p q beside label there v rest) in_p in_q =
        let in_beside : Below counts (left g s) beside = (reached.state (left g s) beside (guide.left_inside s there)).1 v in
        let l = labels-all k label in
        let of_p : B.step s beside p label ≡ B.step s beside p l.0 = sym (looks.step s beside p l.0 label there in_beside in_p l.2) in
        let of_q : B.step s beside q label ≡ B.step s beside q l.0 = sym (looks.step s beside q l.0 label there in_beside in_q l.2) in
        let found = Contains-separated s (B.step s beside p label) (B.step s beside q label) rest
        (closed.step s beside p label there in_beside in_p) (closed.step s beside q label there in_beside in_q) in
        add (right g s) p q (guide.right_inside s there) in_p in_q (inr (inr (
          s,
          Contains-numbers (length g) s there,
          (
            refl,
            (
              (beside, l.0),
              Contains-all-pairs (numbers (counts (left g s))) (labels k) beside l.0 (listed (left g s) beside in_beside) l.1,
              subst (Contains ys) (λ i. (s, (of_p i, of_q i))) found,
            ),
          ),
        )))

  -- a list of exactly the separated pairs of states
  separated-list : (ys : List Pair) × IsClosedHere ys
  separated-list = closed-list same-pair all-here made IsSeparatedPair stays

  -- what is listed as separated, and decided so
  abbrev Listed : ℕ → ℕ → ℕ → Type 0
  Listed s p q = Contains separated-list.0 (s, (p, q))

  decide-listed : (s p q : ℕ) → Listed s p q ⊎ (Listed s p q → ⊥)
  decide-listed s p q = decide-in separated-list.0 (s, (p, q))

  separated : (s p q : ℕ) → Listed s p q → AreSeparated g B s p q
  separated s p q h = (separated-list.1).good (s, (p, q)) h

  in-list : (s p q : ℕ) → AreSeparated g B s p q → Below counts s p → Below counts s q → Listed s p q
  in-list = Contains-separated separated-list.0 separated-list.1

  irreflexive : (s p : ℕ) → Listed s p p → ⊥
  irreflexive s p h = not_separated-refl g guide B s p p (separated s p p h) refl

  -- the states that stand for their classes, and the number of a state's class
  reps : ℕ → List ℕ
  reps s = firsts (Listed s) (decide-listed s) (numbers (counts s))

  class : ℕ → ℕ → ℕ
  class s p = class-place (Listed s) (decide-listed s) (reps s) p

  rep : ℕ → ℕ → ℕ
  rep s i = slice_index_or (reps s) i 0

  class-count : ℕ → ℕ
  class-count s = length (reps s)

  class-is : (s p : ℕ) → Below counts s p → (class s p < class-count s) × (Listed s (rep s (class s p)) p → ⊥)
  unfolding reps class rep class-count
  class-is s p below = class-place-is (Listed s) (decide-listed s) (firsts (Listed s) (decide-listed s) (numbers (counts s))) p
      (firsts-cover (Listed s) (decide-listed s) (irreflexive s) (numbers (counts s)) p (listed s p below))

  rep-below : (s i : ℕ) → i < class-count s → Below counts s (rep s i)
  unfolding reps rep class-count
  rep-below s i below = lt-ltb (rep s i) (counts s) (numbers-below (counts s) (rep s i)
      (firsts-inside (Listed s) (decide-listed s) (numbers (counts s)) (rep s i)
      (Contains-get_or (firsts (Listed s) (decide-listed s) (numbers (counts s))) i 0 below)))

  apart-reps : (s i j : ℕ) → i < j → j < class-count s → Listed s (rep s j) (rep s i)
  unfolding reps rep class-count
  apart-reps s i j less below = firsts-apart (Listed s) (decide-listed s) (numbers (counts s)) i j 0 less below

  reps-differ : (s p i j : ℕ) → Below counts s p → j < class-count s → i < j →
      (Listed s (rep s i) p → ⊥) → (Listed s (rep s j) p → ⊥) → ⊥
  reps-differ s p i j in_p below less one other =
      let in_i : Below counts s (rep s i) = rep-below s i (omega arith) in
      let in_j : Below counts s (rep s j) = rep-below s j below in
      elim (separated-third g guide B s (rep s j) (rep s i) (separated s (rep s j) (rep s i) (apart-reps s i j less below)) p) as (λ _. ⊥) [
        | inl of_j ↦ other (in-list s (rep s j) p of_j in_j in_p)
        | inr of_i ↦ one (in-list s (rep s i) p (separated-sym g guide B s p (rep s i) of_i) in_i in_p)
      ]

  -- a class is the only one whose state isn't listed beside the state
  class-only : (s p i : ℕ) → Below counts s p → i < class-count s → (Listed s (rep s i) p → ⊥) → class s p ≡ i
  class-only s p i in_p below alike =
      let is = class-is s p in_p in
      choose is (nat_lt (class s p) i) (nat_lt i (class s p)) refl refl
    where
      choose : (class s p < class-count s) × (Listed s (rep s (class s p)) p → ⊥) → (b c : Bool) → nat_lt (class s p) i ≡ b →
          nat_lt i (class s p) ≡ c → class s p ≡ i
      choose is true c less other = absurd (reps-differ s p (class s p) i in_p below (ltb-true (class s p) i less) is.1 alike)
      choose is false true less other = absurd (reps-differ s p i (class s p) in_p is.0 (ltb-true i (class s p) other) alike is.1)
      choose is false false less other = omega (arith, ltb-false (class s p) i less, ltb-false i (class s p) other)

  -- states that aren't separated are in one class
  class-same : (s p q : ℕ) → Below counts s p → Below counts s q → (AreSeparated g B s p q → ⊥) → class s p ≡ class s q
  class-same s p q in_p in_q alike =
      let of_q = class-is s q in_q in
      class-only s p (class s q) in_p of_q.0 (λ h.
      elim (separated-third g guide B s (rep s (class s q)) p (separated s (rep s (class s q)) p h) q) as (λ _. ⊥) [
        | inl one ↦ of_q.1 (in-list s (rep s (class s q)) q one (rep-below s (class s q) of_q.0) in_q)
        | inr other ↦ alike (separated-sym g guide B s q p other)
      ])

  class-differ : (s p q : ℕ) → Below counts s p → Below counts s q → class s p ≢ class s q → AreSeparated g B s p q
  class-differ s p q in_p in_q differ = elim (decide-listed s p q) as (λ _. AreSeparated g B s p q) [
    | inl h ↦ separated s p q h
    | inr alike ↦ absurd (differ (class-same s p q in_p in_q (λ apart. alike (in-list s p q apart in_p in_q))))
  ]

  -- a state and what stands for its class aren't separated
  rep-alike : (s p : ℕ) → Below counts s p → AreSeparated g B s p (rep s (class s p)) → ⊥
  rep-alike s p in_p apart =
      let is = class-is s p in_p in
      is.1 (in-list s (rep s (class s p)) p (separated-sym g guide B s p (rep s (class s p)) apart) (rep-below s (class s p) is.0) in_p)

  module _ (stable : IsStable g B) where
    -- the automaton of the classes
    classes : Automaton ℕ
    classes = record {
      initial = λ s. class s (B.initial s);
      step = λ s i j label. class s (B.step s (rep (left g s) i) (rep (right g s) j) label);
      accepting = λ i. B.accepting (rep 0 i);
    }

    value-of : (s p : ℕ) → IsSpace g s → Below counts s p → IsValue g B s p
    value-of s p there below = (reached.state s p there).0 below

    steps-alike : (s p q : ℕ) (label : Label) → IsSpace g s → Below counts (left g s) p → Below counts (right g s) q →
        AreSeparated g B s (B.step s p q label) (B.step s (rep (left g s) (class (left g s) p)) (rep (right g s) (class (right g s) q)) label) → ⊥
    steps-alike s p q label there in_p in_q apart =
        let to_l = guide.left_inside s there in
        let to_r = guide.right_inside s there in
        let p' = rep (left g s) (class (left g s) p) in
        let q' = rep (right g s) (class (right g s) q) in
        let in_p' : Below counts (left g s) p' = rep-below (left g s) (class (left g s) p) (class-is (left g s) p in_p).0 in
        elim (separated-third g guide B s (B.step s p q label) (B.step s p' q' label) apart (B.step s p' q label)) as (λ _. ⊥) [
          | inl one ↦ rep-alike (left g s) p in_p (below_left s p p' q label there (value-of (right g s) q to_r in_q) one)
          | inr other ↦ rep-alike (right g s) q in_q (below_right s q q' p' label there (value-of (left g s) p' to_l in_p') other)
        ]

    IsNaming-classes : IsNaming g B (Below counts) classes class
    unfolding classes
    IsNaming-classes = record {
      initial = λ s there. refl;
      step = λ s p q label there in_p in_q.
          let p' = rep (left g s) (class (left g s) p) in
          let q' = rep (right g s) (class (right g s) q) in
          class-same s (B.step s p q label) (B.step s p' q' label) (closed.step s p q label there in_p in_q)
          (closed.step s p' q' label there (rep-below (left g s) (class (left g s) p) (class-is (left g s) p in_p).0)
          (rep-below (right g s) (class (right g s) q) (class-is (right g s) q in_q).0))
          (steps-alike s p q label there in_p in_q);
      accepting = λ p in_p. same-bit (B.accepting p) (B.accepting (rep 0 (class 0 p)))
          (λ differ. rep-alike 0 p in_p (at_root p (rep 0 (class 0 p)) differ));
    }

    class-image : (s x : ℕ) → IsSpace g s → Below class-count s x ↔ ((q : ℕ) × Below counts s q × (class s q ≡ x))
    class-image s x there = (
      (λ below.
          let inside = ltb-true x (class-count s) below in
          (rep s x, rep-below s x inside, class-only s (rep s x) x (rep-below s x inside) inside (irreflexive s (rep s x)))),
      (λ h. lt-ltb x (class-count s) (subst (λ z. z < class-count s) h.2 (class-is s h.0 h.1).0)),
    )

    IsMinimal-listed : IsMinimal g classes (Below class-count)
    IsMinimal-listed = IsMinimal-classes g guide B stable (Below counts) reached classes class IsNaming-classes (Below class-count) class-image
        (λ s p q there in_p in_q differ. class-differ s p q in_p in_q differ)

    IsMinimal-reached : (M : Automaton ℕ) × (kinds : ℕ → ℕ) × IsMinimal g M (Below kinds)
        × ((a : Assignment) → Accepts g B a ↔ Accepts g M a) × LooksBelow g M (Below kinds) k
    IsMinimal-reached = (
      classes,
      class-count,
      IsMinimal-listed,
      Accepts-named g guide B (Below counts) classes class closed IsNaming-classes,
      LooksBelow-classes g guide B (Below counts) classes (Below class-count) class k IsNaming-classes class-image looks,
    )

-- a minimal automaton with numbered states exists, and looks no further
pub IsMinimal-exists : (g : Spaces) (A : Automaton ℕ) (count : ℕ → ℕ) (k : ℕ) → IsGuide g → IsStable g A →
    IsClosed g A (Below count) → LooksBelow g A (Below count) k →
    (M : Automaton ℕ) × (kinds : ℕ → ℕ) × IsMinimal g M (Below kinds)
    × ((a : Assignment) → Accepts g A a ↔ Accepts g M a) × LooksBelow g M (Below kinds) k
IsMinimal-exists g A count k guide stable closed looks =
    let found = IsNumbered-counted g A count k guide stable closed looks in
    let B : Automaton ℕ = found.0 in
    let counts = found.1 in
    let name = found.2 in
    let is = found.3 in
    let stable_B = IsStable-named g guide B (Below counts) A name is.reached is.naming is.once stable in
    let closed_B = IsClosed-reached g guide B stable_B (Below counts) is.reached in
    let looks_B = LooksBelow-named g guide B (Below counts) A (Below count) name k closed_B is.naming is.once
    (name-inside g guide A stable (Below count) closed B counts name is) looks in
    let names = Accepts-named g guide B (Below counts) A name closed_B is.naming in
    let m = IsMinimal-reached g guide B counts closed_B is.reached k looks_B stable_B in (
      m.0,
      m.1,
      m.2,
      (λ a. ((λ h. (m.3 a).0 ((names a).1 h)), (λ h. (names a).0 ((m.3 a).1 h)))),
      m.4,
    )
