-- On minimal automata: what keeps states apart, and that two of them that accept the same are one to one.
use Rattle.std.proofs.Common.{◌≡◌, ◌≢◌, ℕ, suc, ◌≤◌, max, Bool, true, false, ◌↔◌, ◌⊎◌, inl, inr, [], ◌∷◌, ◌++◌, refl, sym, ap, subst, ◌∙◌, arith}
use Rattle.std.specs.Bool.{one_answer}
use Rattle.labels.specs.Labels.{Label, empty_label}
use Rattle.gta_theory.specs.Assignments.{Position, Assignment, Covers, half, root_label, empty_assignment}
use Rattle.gta_theory.specs.Guides.{Spaces, IsSpace, IsGuide, left, right, space_at}
use Rattle.gta_theory.specs.Automata.{Automaton, value, IsStable, Accepts}
use Rattle.gta_theory.specs.Constructions.{IsReached, IsClosed, IsNaming}
use Rattle.gta_theory.specs.Minimal.{value_with, AreToldApart, IsMinimal, AreSeparated, at_root, below_left, below_right, AreTwins, AreAlike}
use Rattle.gta_theory.proofs.AssignmentsLemmas.{Covers-half_same, Covers-more, joined, Covers-joined, Covers-empty}
use Rattle.gta_theory.proofs.AlikeLemmas.{first-there, second-there, AreAlike-reached}
use Rattle.gta_theory.proofs.AutomataLemmas.{value-same, Accepts-at, IsClosed-reached, value-has, name-value}

-- the depth with a position's length added
deeper : Position → ℕ → ℕ
deeper [] d = d
deeper (letter ∷ u) d = suc (deeper u d)

deeper-more : (u : Position) (d : ℕ) → d ≤ deeper u d
unfolding deeper
deeper-more [] d = omega arith
deeper-more (letter ∷ u) d = omega (arith, deeper-more u d)

-- the assignment with another one put in below a position
plug : Position → Assignment → Assignment → Assignment
plug [] a b = b
plug (false ∷ u) a b = joined (root_label a) (plug u (half false a) b) (half true a)
plug (true ∷ u) a b = joined (root_label a) (half false a) (plug u (half true a) b)

Covers-plug : (u : Position) (d : ℕ) (a b : Assignment) → Covers d a → Covers d b → Covers (deeper u d) (plug u a b)
unfolding deeper plug
Covers-plug [] d a b in_a in_b = in_b
Covers-plug (false ∷ u) d a b in_a in_b =
    Covers-joined (deeper u d) (root_label a) (plug u (half false a) b) (half true a)
    (Covers-plug u d (half false a) b (Covers-half_same d false a in_a) in_b)
    (Covers-more d (deeper u d) (half true a) (deeper-more u d) (Covers-half_same d true a in_a))
Covers-plug (true ∷ u) d a b in_a in_b =
    Covers-joined (deeper u d) (root_label a) (half false a) (plug u (half true a) b)
    (Covers-more d (deeper u d) (half false a) (deeper-more u d) (Covers-half_same d false a in_a))
    (Covers-plug u d (half true a) b (Covers-half_same d true a in_a) in_b)

-- a hole in an assignment that is put in is a hole further down
value_with-plug : {Q : Type 0} (g : Spaces) (A : Automaton Q) (u v : Position) (s : ℕ) (q : Q) (n : ℕ) (a b : Assignment) →
    value_with g A s (u ++ v) q n (plug u a b) ≡ value_with g A s u (value_with g A (space_at g s u) v q n b) n a
unfolding plug
value_with-plug g A [] v s q n a b = refl
value_with-plug g A (false ∷ u) v s q n a b =
    ap (λ p. A.step s p (value g A (right g s) n (half true a)) (root_label a)) (value_with-plug g A u v (left g s) q n (half false a) b)
value_with-plug g A (true ∷ u) v s q n a b =
    ap (λ p. A.step s (value g A (left g s) n (half false a)) p (root_label a)) (value_with-plug g A u v (right g s) q n (half true a) b)

space_at-append : (g : Spaces) (u v : Position) (s : ℕ) → space_at g s (u ++ v) ≡ space_at g (space_at g s u) v
space_at-append g [] v s = refl
space_at-append g (false ∷ u) v s = space_at-append g u v (left g s)
space_at-append g (true ∷ u) v s = space_at-append g u v (right g s)

module _ {Q : Type 0} (g : Spaces) (guide : IsGuide g) (A : Automaton Q) (stable : IsStable g A) where
  -- an assignment's value is that of the tree with a hole, with the value of what is put in
  value-plug : (u : Position) (s d n m : ℕ) (a b : Assignment) → IsSpace g s → Covers n a → Covers m b → n ≤ d → m ≤ d →
      value g A s (deeper u d) (plug u a b) ≡ value_with g A s u (value g A (space_at g s u) m b) n a
  unfolding deeper plug
  value-plug [] s d n m a b there in_a in_b more_n more_m =
      value-same g guide A stable s d m b there (Covers-more m d b more_m in_b) in_b
  value-plug (false ∷ u) s d n m a b there in_a in_b more_n more_m =
      let in_r = Covers-half_same n true a in_a in
      let deep = deeper-more u d in
      let in_r' : Covers (deeper u d) (half true a) = Covers-more n (deeper u d) (half true a) (omega arith) in_r in
      λ i. A.step s
      (value-plug u (left g s) d n m (half false a) b (guide.left_inside s there) (Covers-half_same n false a in_a) in_b more_n more_m i)
      (value-same g guide A stable (right g s) (deeper u d) n (half true a) (guide.right_inside s there) in_r' in_r i)
      (root_label a)
  value-plug (true ∷ u) s d n m a b there in_a in_b more_n more_m =
      let in_l = Covers-half_same n false a in_a in
      let deep = deeper-more u d in
      let in_l' : Covers (deeper u d) (half false a) = Covers-more n (deeper u d) (half false a) (omega arith) in_l in
      λ i. A.step s
      (value-same g guide A stable (left g s) (deeper u d) n (half false a) (guide.left_inside s there) in_l' in_l i)
      (value-plug u (right g s) d n m (half true a) b (guide.right_inside s there) (Covers-half_same n true a in_a) in_b more_n more_m i)
      (root_label a)

  -- the depth of the values beside the way to the hole is free
  value_with-same : (u : Position) (s n m : ℕ) (q : Q) (a : Assignment) → IsSpace g s → Covers n a → Covers m a →
      value_with g A s u q n a ≡ value_with g A s u q m a
  value_with-same [] s n m q a there in_n in_m = refl
  value_with-same (false ∷ u) s n m q a there in_n in_m = λ i. A.step s
      (value_with-same u (left g s) n m q (half false a) (guide.left_inside s there) (Covers-half_same n false a in_n) (Covers-half_same m false a in_m) i)
      (value-same g guide A stable (right g s) n m (half true a) (guide.right_inside s there)
      (Covers-half_same n true a in_n) (Covers-half_same m true a in_m) i)
      (root_label a)
  value_with-same (true ∷ u) s n m q a there in_n in_m = λ i. A.step s
      (value-same g guide A stable (left g s) n m (half false a) (guide.left_inside s there)
      (Covers-half_same n false a in_n) (Covers-half_same m false a in_m) i)
      (value_with-same u (right g s) n m q (half true a) (guide.right_inside s there) (Covers-half_same n true a in_n) (Covers-half_same m true a in_m) i)
      (root_label a)

  -- a hole below a hole, beside the value of an assignment
  told-below : (s : ℕ) (letter : Bool) (p q p' q' : Q) (label : Label) (below : Assignment) (n : ℕ) → Covers n below →
      (t : AreToldApart g A s p' q') →
      ((d : ℕ) → n ≤ d → value_with g A s (letter ∷ []) p d below ≡ p') →
      ((d : ℕ) → n ≤ d → value_with g A s (letter ∷ []) q d below ≡ q') →
      AreToldApart g A (space_at g s (letter ∷ [])) p q
  told-below s letter p q p' q' label below n covers t of_p of_q =
      let d : ℕ = max t.depth n in
      let in_t : Covers d t.assignment = Covers-more t.depth d t.assignment (omega arith) t.covers in
      let in_b : Covers d below = Covers-more n d below (omega arith) covers in
      let D : ℕ = deeper t.hole d in
      let deep = deeper-more t.hole d in
      let in_D : Covers D t.assignment = Covers-more d D t.assignment (omega arith) in_t in
      let at : (x x' : Q) → ((e : ℕ) → n ≤ e → value_with g A s (letter ∷ []) x e below ≡ x') →
      value_with g A 0 (t.hole ++ letter ∷ []) x D (plug t.hole t.assignment below) ≡ value_with g A 0 t.hole x' t.depth t.assignment
      = λ x x' of_x. value_with-plug g A t.hole (letter ∷ []) 0 x D t.assignment below
      ∙ ap (λ y. value_with g A 0 t.hole y D t.assignment) (ap (λ k. value_with g A k (letter ∷ []) x D below) t.is_there ∙ of_x D (omega arith))
      ∙ value_with-same t.hole 0 D t.depth x' t.assignment guide.not_empty in_D t.covers in
      record {
        hole = t.hole ++ letter ∷ [];
        assignment = plug t.hole t.assignment below;
        depth = D;
        covers = Covers-plug t.hole d t.assignment below in_t in_b;
        is_there = space_at-append g t.hole (letter ∷ []) 0 ∙ ap (λ k. space_at g k (letter ∷ [])) t.is_there;
        differs = λ same. t.differs (sym (ap (λ y. A.accepting y) (at p p' of_p)) ∙ same ∙ ap (λ y. A.accepting y) (at q q' of_q));
      }

  -- what is separated is told apart
  pub AreToldApart-from_separated : (s : ℕ) (p q : Q) → AreSeparated g A s p q → AreToldApart g A s p q
  AreToldApart-from_separated _ _ _ (at_root p q differs) = record {
    hole = [];
    assignment = empty_assignment;
    depth = 0;
    covers = Covers-empty;
    is_there = refl;
    differs = differs;
  }
  AreToldApart-from_separated _ _ _ (below_left s p q beside label there v rest) =
      told-below s false p q _ _ label (joined label empty_assignment v.assignment) (suc v.depth)
      (Covers-joined v.depth label empty_assignment v.assignment (λ u r deep. refl) v.covers)
      (AreToldApart-from_separated s _ _ rest)
      (λ d deep. ap (λ y. A.step s p y label) (value-same g guide A stable (right g s) d v.depth v.assignment (guide.right_inside s there)
      (Covers-more v.depth d v.assignment (omega arith) v.covers) v.covers ∙ v.is_value))
      (λ d deep. ap (λ y. A.step s q y label) (value-same g guide A stable (right g s) d v.depth v.assignment (guide.right_inside s there)
      (Covers-more v.depth d v.assignment (omega arith) v.covers) v.covers ∙ v.is_value))
  AreToldApart-from_separated _ _ _ (below_right s p q beside label there v rest) =
      told-below s true p q _ _ label (joined label v.assignment empty_assignment) (suc v.depth)
      (Covers-joined v.depth label v.assignment empty_assignment v.covers (λ u r deep. refl))
      (AreToldApart-from_separated s _ _ rest)
      (λ d deep. ap (λ y. A.step s y p label) (value-same g guide A stable (left g s) d v.depth v.assignment (guide.left_inside s there)
      (Covers-more v.depth d v.assignment (omega arith) v.covers) v.covers ∙ v.is_value))
      (λ d deep. ap (λ y. A.step s y q label) (value-same g guide A stable (left g s) d v.depth v.assignment (guide.left_inside s there)
      (Covers-more v.depth d v.assignment (omega arith) v.covers) v.covers ∙ v.is_value))

-- two automata that accept the same: what is told apart in the second has no common twin in the first
module _ {Q R : Type 0} (g : Spaces) (guide : IsGuide g) (A : Automaton Q) (of_A : IsStable g A) (B : Automaton R)
    (of_B : IsStable g B) (same : (n : ℕ) (a : Assignment) → Covers n a → Accepts g A a ↔ Accepts g B a) where
  -- so the values of each assignment are both accepting or neither is
  accepting-same : (n : ℕ) (a : Assignment) → Covers n a → A.accepting (value g A 0 n a) ≡ B.accepting (value g B 0 n a)
  accepting-same n a covers =
      one_answer (A.accepting (value g A 0 n a)) (B.accepting (value g B 0 n a))
      ((λ is. is), (λ is. is)) (
        (λ is. Accepts-at g guide A of_A n a covers ((same n a covers).1 (record { depth = n; covers = covers; accepted = is }))),
        (λ is. Accepts-at g guide B of_B n a covers ((same n a covers).0 (record { depth = n; covers = covers; accepted = is }))),
      )

  twin-context : (s : ℕ) (p : Q) (q : R) (t : AreTwins g A B s p q) (hole : Position) (n : ℕ) (a : Assignment) →
      Covers n a → space_at g 0 hole ≡ s →
      A.accepting (value_with g A 0 hole p n a) ≡ B.accepting (value_with g B 0 hole q n a)
  twin-context s p q t hole n a covers is_there =
      let d : ℕ = max n t.depth in
      let D : ℕ = deeper hole d in
      let in_a : Covers d a = Covers-more n d a (omega arith) covers in
      let in_t : Covers d t.assignment = Covers-more t.depth d t.assignment (omega arith) t.covers in
      let in_A = value-plug g guide A of_A hole 0 d n t.depth a t.assignment guide.not_empty covers t.covers (omega arith) (omega arith) in
      let in_B = value-plug g guide B of_B hole 0 d n t.depth a t.assignment guide.not_empty covers t.covers (omega arith) (omega arith) in
      let is_p : value g A (space_at g 0 hole) t.depth t.assignment ≡ p = ap (λ k. value g A k t.depth t.assignment) is_there ∙ t.first in
      let is_q : value g B (space_at g 0 hole) t.depth t.assignment ≡ q = ap (λ k. value g B k t.depth t.assignment) is_there ∙ t.second in
      sym (ap (λ y. A.accepting y) (in_A ∙ ap (λ y. value_with g A 0 hole y n a) is_p))
      ∙ accepting-same D (plug hole a t.assignment) (Covers-plug hole d a t.assignment in_a in_t)
      ∙ ap (λ y. B.accepting y) (in_B ∙ ap (λ y. value_with g B 0 hole y n a) is_q)

  -- one state has no two twins that are told apart
  twins-not_apart : (s : ℕ) (p : Q) (q r : R) → AreTwins g A B s p q → AreTwins g A B s p r → AreToldApart g B s q r → ⊥
  twins-not_apart s p q r one other t = t.differs
      (sym (twin-context s p q one t.hole t.depth t.assignment t.covers t.is_there)
      ∙ twin-context s p r other t.hole t.depth t.assignment t.covers t.is_there)

pub twins-turned : {Q R : Type 0} (g : Spaces) (A : Automaton Q) (B : Automaton R) (s : ℕ) (p : Q) (q : R) →
    AreTwins g A B s p q → AreTwins g B A s q p
twins-turned g A B s p q t = record {
  assignment = t.assignment;
  depth = t.depth;
  covers = t.covers;
  first = t.second;
  second = t.first;
}

module _ {Q R : Type 0} (decide_Q : (p q : Q) → (p ≡ q) ⊎ (p ≢ q)) (decide_R : (p q : R) → (p ≡ q) ⊎ (p ≢ q))
    (g : Spaces) (guide : IsGuide g) (A : Automaton Q) (has_A : ℕ → Q → Type 0) (of_A : IsMinimal g A has_A)
    (B : Automaton R) (has_B : ℕ → R → Type 0) (of_B : IsMinimal g B has_B)
    (same : (n : ℕ) (a : Assignment) → Covers n a → Accepts g A a ↔ Accepts g B a) where
  -- two minimal automata that accept the same have states one to one
  pub AreAlike-minimal : AreAlike g A has_A B has_B
  AreAlike-minimal =
      AreAlike-reached g guide A has_A of_A.stable of_A.reached B has_B of_B.stable of_B.reached
      (λ s p q r there one other.
      elim (decide_R q r) as (λ e. q ≡ r) [
        | inl is ↦ is
        | inr is_not ↦ absurd (twins-not_apart g guide A of_A.stable B of_B.stable same s p q r one other
            (of_B.apart s q r there
            (second-there g guide A has_A of_A.stable of_A.reached B has_B of_B.stable of_B.reached s p q there one)
            (second-there g guide A has_A of_A.stable of_A.reached B has_B of_B.stable of_B.reached s p r there other) is_not))
      ])
      (λ s p q r there one other.
      elim (decide_Q p q) as (λ e. p ≡ q) [
        | inl is ↦ is
        | inr is_not ↦ absurd (twins-not_apart g guide B of_B.stable A of_A.stable
            (λ n a covers. ((same n a covers).1, (same n a covers).0)) s r p q
            (twins-turned g A B s p r one) (twins-turned g A B s q r other)
            (of_A.apart s p q there
            (first-there g guide A has_A of_A.stable of_A.reached B has_B of_B.stable of_B.reached s p r there one)
            (first-there g guide A has_A of_A.stable of_A.reached B has_B of_B.stable of_B.reached s q r there other) is_not))
      ])
      (λ p x t.
      sym (ap (λ y. A.accepting y) t.first)
      ∙ accepting-same g guide A of_A.stable B of_B.stable same t.depth t.assignment t.covers
      ∙ ap (λ y. B.accepting y) t.second)

-- classes of states that are kept apart make a minimal automaton
module _ {Q R : Type 0} (g : Spaces) (guide : IsGuide g) (A : Automaton Q) (stable : IsStable g A) (has : ℕ → Q → Type 0)
    (reached : IsReached g A has) (M : Automaton R) (name : ℕ → Q → R) (naming : IsNaming g A has M name) where
  closed : IsClosed g A has
  closed = IsClosed-reached g guide A stable has reached

  pub IsStable-classes : IsStable g M
  IsStable-classes = record {
    at = λ s there.
        (λ i. M.step s (sym (naming.initial (left g s) (guide.left_inside s there)) i)
        (sym (naming.initial (right g s) (guide.right_inside s there)) i) empty_label)
        ∙ sym (naming.step s _ _ empty_label there (closed.initial (left g s) (guide.left_inside s there))
        (closed.initial (right g s) (guide.right_inside s there)))
        ∙ ap (name s) (stable.at s there)
        ∙ naming.initial s there;
  }

  pub IsReached-classes : (has_M : ℕ → R → Type 0) →
      ((s : ℕ) (x : R) → IsSpace g s → has_M s x ↔ ((q : Q) × has s q × (name s q ≡ x))) → IsReached g M has_M
  IsReached-classes has_M image = record {
    state = λ s x there. (
      (λ in_M.
          let q = (image s x there).0 in_M in
          let v = (reached.state s q.0 there).0 q.1 in
          record {
            assignment = v.assignment;
            depth = v.depth;
            covers = v.covers;
            is_value = sym (name-value g guide A has M name closed naming s v.depth v.assignment there) ∙ ap (name s) v.is_value ∙ q.2;
          }),
      (λ v. (image s x there).1 (
        value g A s v.depth v.assignment,
        value-has g guide A has M name closed naming s v.depth v.assignment there,
        name-value g guide A has M name closed naming s v.depth v.assignment there ∙ v.is_value,
      )),
    );
  }

  has-value_with : (u : Position) (s n : ℕ) (q : Q) (a : Assignment) → IsSpace g s → has (space_at g s u) q → has s (value_with g A s u q n a)
  has-value_with [] s n q a there in_A = in_A
  has-value_with (false ∷ u) s n q a there in_A = closed.step s _ _ (root_label a) there
      (has-value_with u (left g s) n q (half false a) (guide.left_inside s there) in_A)
      (value-has g guide A has M name closed naming (right g s) n (half true a) (guide.right_inside s there))
  has-value_with (true ∷ u) s n q a there in_A = closed.step s _ _ (root_label a) there
      (value-has g guide A has M name closed naming (left g s) n (half false a) (guide.left_inside s there))
      (has-value_with u (right g s) n q (half true a) (guide.right_inside s there) in_A)

  name-value_with : (u : Position) (s n : ℕ) (q : Q) (a : Assignment) → IsSpace g s → has (space_at g s u) q →
      name s (value_with g A s u q n a) ≡ value_with g M s u (name (space_at g s u) q) n a
  name-value_with [] s n q a there in_A = refl
  name-value_with (false ∷ u) s n q a there in_A =
      naming.step s _ _ (root_label a) there
      (has-value_with u (left g s) n q (half false a) (guide.left_inside s there) in_A)
      (value-has g guide A has M name closed naming (right g s) n (half true a) (guide.right_inside s there))
      ∙ (λ i. M.step s (name-value_with u (left g s) n q (half false a) (guide.left_inside s there) in_A i)
      (name-value g guide A has M name closed naming (right g s) n (half true a) (guide.right_inside s there) i) (root_label a))
  name-value_with (true ∷ u) s n q a there in_A =
      naming.step s _ _ (root_label a) there
      (value-has g guide A has M name closed naming (left g s) n (half false a) (guide.left_inside s there))
      (has-value_with u (right g s) n q (half true a) (guide.right_inside s there) in_A)
      ∙ (λ i. M.step s (name-value g guide A has M name closed naming (left g s) n (half false a) (guide.left_inside s there) i)
      (name-value_with u (right g s) n q (half true a) (guide.right_inside s there) in_A i) (root_label a))

  -- what is told apart in A is told apart in the automaton of classes
  told-classes : (s : ℕ) (p q : Q) → IsSpace g s → has s p → has s q → AreToldApart g A s p q → AreToldApart g M s (name s p) (name s q)
  told-classes s p q there has_p has_q t =
      let at : (x : Q) → has s x →
      A.accepting (value_with g A 0 t.hole x t.depth t.assignment) ≡ M.accepting (value_with g M 0 t.hole (name s x) t.depth t.assignment)
      = λ x in_A.
      let in_hole : has (space_at g 0 t.hole) x = subst (λ k. has k x) (sym t.is_there) in_A in
      naming.accepting _ (has-value_with t.hole 0 t.depth x t.assignment guide.not_empty in_hole)
      ∙ ap (λ y. M.accepting y) (name-value_with t.hole 0 t.depth x t.assignment guide.not_empty in_hole
      ∙ ap (λ k. value_with g M 0 t.hole (name k x) t.depth t.assignment) t.is_there) in
      record {
        hole = t.hole;
        assignment = t.assignment;
        depth = t.depth;
        covers = t.covers;
        is_there = t.is_there;
        differs = λ same. t.differs (at p has_p ∙ same ∙ sym (at q has_q));
      }

  pub IsMinimal-classes : (has_M : ℕ → R → Type 0) →
      ((s : ℕ) (x : R) → IsSpace g s → has_M s x ↔ ((q : Q) × has s q × (name s q ≡ x))) →
      ((s : ℕ) (p q : Q) → IsSpace g s → has s p → has s q → name s p ≢ name s q → AreSeparated g A s p q) →
      IsMinimal g M has_M
  IsMinimal-classes has_M image separated = record {
    stable = IsStable-classes;
    reached = IsReached-classes has_M image;
    apart = λ s x y there in_x in_y differ.
        let p = (image s x there).0 in_x in
        let q = (image s y there).0 in_y in
        let differ' : name s p.0 ≢ name s q.0 = λ e. differ (sym p.2 ∙ e ∙ q.2) in
        let told = told-classes s p.0 q.0 there p.1 q.1
        (AreToldApart-from_separated g guide A stable s p.0 q.0 (separated s p.0 q.0 there p.1 q.1 differ')) in
        subst (λ z. AreToldApart g M s z y) p.2 (subst (λ z. AreToldApart g M s (name s p.0) z) q.2 told);
  }
