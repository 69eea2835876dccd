-- On automata that are alike: it is an equivalence, and complements, products and subset automata of alike ones are alike.
use Rattle.std.proofs.Common.{◌≡◌, ℕ, not, ◌&&◌, refl, sym, ap, subst, ◌∙◌}
use Rattle.std.specs.Bool.{one_answer}
use Rattle.gta_theory.specs.Assignments.{Assignment, Covers, replace}
use Rattle.gta_theory.specs.Guides.{Spaces, IsSpace, IsGuide, left, right}
use Rattle.gta_theory.specs.Automata.{Automaton, value, IsStable}
use Rattle.gta_theory.specs.Constructions.{complement, pairs, IsReached, IsProduct, IsSubset}
use Rattle.gta_theory.specs.Minimal.{AreTwins, AreAlike}
use Rattle.gta_theory.proofs.AssignmentsLemmas.{Covers-more, Covers-replace}
use Rattle.gta_theory.proofs.AutomataLemmas.{value-complement, value-pairs, IsClosed-reached, name-value, IsStable-product}
use Rattle.gta_theory.proofs.SubsetLemmas.{chosen-member, member-chosen, IsStable-subset}
use Rattle.gta_theory.proofs.AlikeLemmas.{first-there, second-there, AreAlike-reached}
use Rattle.gta_theory.proofs.MinimalLemmas.{twins-turned}

-- the values of one assignment are twins
pub twins-values : {Q R : Type 0} (g : Spaces) (A : Automaton Q) (B : Automaton R) (s n : ℕ) (a : Assignment) → Covers n a →
    AreTwins g A B s (value g A s n a) (value g B s n a)
twins-values g A B s n a covers = record { assignment = a; depth = n; covers = covers; first = refl; second = refl }

-- the states of a stable automaton are one to one with themselves
pub AreAlike-refl : {Q : Type 0} (g : Spaces) → IsGuide g → (A : Automaton Q) (has : ℕ → Q → Type 0) → IsStable g A →
    IsReached g A has → AreAlike g A has A has
AreAlike-refl g guide A has stable reached =
    AreAlike-reached g guide A has stable reached A has stable reached
    (λ s p q r there one other. sym one.second ∙ one.first ∙ sym other.first ∙ other.second)
    (λ s p q r there one other. sym one.first ∙ one.second ∙ sym other.second ∙ other.first)
    (λ p q t. ap (λ x. A.accepting x) (sym t.first ∙ t.second))

pub AreAlike-sym : {Q R : Type 0} (g : Spaces) (A : Automaton Q) (has_A : ℕ → Q → Type 0) (B : Automaton R)
    (has_B : ℕ → R → Type 0) → AreAlike g A has_A B has_B → AreAlike g B has_B A has_A
AreAlike-sym g A has_A B has_B alike = record {
  there = λ s q there has. let p = alike.back s q there has in (p.0, p.1, twins-turned g A B s p.0 q p.2);
  back = λ s p there has. let q = alike.there s p there has in (q.0, q.1, twins-turned g A B s p q.0 q.2);
  one_there = λ s q p p' there one other. alike.one_back s p p' q there (twins-turned g B A s q p one) (twins-turned g B A s q p' other);
  one_back = λ s q q' p there one other. alike.one_there s p q q' there (twins-turned g B A s q p one) (twins-turned g B A s q' p other);
  initial = λ s there. twins-turned g A B s (A.initial s) (B.initial s) (alike.initial s there);
  step = λ s x y p q label there l r. twins-turned g A B s (A.step s p q label) (B.step s x y label)
      (alike.step s p q x y label there (twins-turned g B A (left g s) x p l) (twins-turned g B A (right g s) y q r));
  accepting = λ x p t. sym (alike.accepting p x (twins-turned g B A 0 x p t));
}

module _ {Q R S : Type 0} (g : Spaces) (A : Automaton Q) (has_A : ℕ → Q → Type 0) (B : Automaton R) (has_B : ℕ → R → Type 0)
    (C : Automaton S) (has_C : ℕ → S → Type 0) (to_B : AreAlike g A has_A B has_B) (to_C : AreAlike g B has_B C has_C) where
  -- the value that B has between twins of A and C
  between : (s : ℕ) (p : Q) (x : S) → AreTwins g A C s p x → (q : R) × AreTwins g A B s p q × AreTwins g B C s q x
  between s p x t = (
    value g B s t.depth t.assignment,
    record { assignment = t.assignment; depth = t.depth; covers = t.covers; first = t.first; second = refl },
    record { assignment = t.assignment; depth = t.depth; covers = t.covers; first = refl; second = t.second },
  )

  -- twins of twins are twins
  twins-through : (s : ℕ) (p : Q) (q : R) (x : S) → IsSpace g s → AreTwins g A B s p q → AreTwins g B C s q x → AreTwins g A C s p x
  twins-through s p q x there t u = record {
    assignment = t.assignment;
    depth = t.depth;
    covers = t.covers;
    first = t.first;
    second = to_C.one_there s q (value g C s t.depth t.assignment) x there
        (record { assignment = t.assignment; depth = t.depth; covers = t.covers; first = t.second; second = refl }) u;
  }

  pub AreAlike-trans : AreAlike g A has_A C has_C
  AreAlike-trans = record {
    there = λ s p there has.
        let q = to_B.there s p there has in
        let x = to_C.there s q.0 there q.1 in
        (x.0, x.1, twins-through s p q.0 x.0 there q.2 x.2);
    back = λ s x there has.
        let q = to_C.back s x there has in
        let p = to_B.back s q.0 there q.1 in
        (p.0, p.1, twins-through s p.0 q.0 x there p.2 q.2);
    one_there = λ s p x y there one other.
        let q = between s p x one in
        let r = between s p y other in
        let same : q.0 ≡ r.0 = to_B.one_there s p q.0 r.0 there q.1 r.1 in
        to_C.one_there s r.0 x y there (subst (λ z. AreTwins g B C s z x) same q.2) r.2;
    one_back = λ s p p' x there one other.
        let q = between s p x one in
        let r = between s p' x other in
        let same : q.0 ≡ r.0 = to_C.one_back s q.0 r.0 x there q.2 r.2 in
        to_B.one_back s p p' r.0 there (subst (λ z. AreTwins g A B s p z) same q.1) r.1;
    initial = λ s there. twins-through s (A.initial s) (B.initial s) (C.initial s) there (to_B.initial s there) (to_C.initial s there);
    step = λ s p q x y label there l r.
        let m = between (left g s) p x l in
        let n = between (right g s) q y r in
        twins-through s (A.step s p q label) (B.step s m.0 n.0 label) (C.step s x y label) there
        (to_B.step s p q m.0 n.0 label there m.1 n.1) (to_C.step s m.0 n.0 x y label there m.2 n.2);
    accepting = λ p x t. let q = between 0 p x t in to_B.accepting p q.0 q.1 ∙ to_C.accepting q.0 x q.2;
  }

-- complements of alike automata
module _ {Q R : Type 0} (g : Spaces) (guide : IsGuide g) (A : Automaton Q) (has_A : ℕ → Q → Type 0) (of_A : IsStable g A)
    (B : Automaton R) (has_B : ℕ → R → Type 0) (of_B : IsStable g B) (alike : AreAlike g A has_A B has_B) where
  twins-complement : (s : ℕ) (p : Q) (q : R) → AreTwins g A B s p q → AreTwins g (complement A) (complement B) s p q
  twins-complement s p q t = record {
    assignment = t.assignment;
    depth = t.depth;
    covers = t.covers;
    first = value-complement g guide A of_A s t.depth t.assignment ∙ t.first;
    second = value-complement g guide B of_B s t.depth t.assignment ∙ t.second;
  }

  twins-uncomplement : (s : ℕ) (p : Q) (q : R) → AreTwins g (complement A) (complement B) s p q → AreTwins g A B s p q
  twins-uncomplement s p q t = record {
    assignment = t.assignment;
    depth = t.depth;
    covers = t.covers;
    first = sym (value-complement g guide A of_A s t.depth t.assignment) ∙ t.first;
    second = sym (value-complement g guide B of_B s t.depth t.assignment) ∙ t.second;
  }

  pub AreAlike-complements : AreAlike g (complement A) has_A (complement B) has_B
  AreAlike-complements = record {
    there = λ s p there has. let q = alike.there s p there has in (q.0, q.1, twins-complement s p q.0 q.2);
    back = λ s q there has. let p = alike.back s q there has in (p.0, p.1, twins-complement s p.0 q p.2);
    one_there = λ s p q r there one other. alike.one_there s p q r there (twins-uncomplement s p q one) (twins-uncomplement s p r other);
    one_back = λ s p q r there one other. alike.one_back s p q r there (twins-uncomplement s p r one) (twins-uncomplement s q r other);
    initial = λ s there. twins-complement s (A.initial s) (B.initial s) (alike.initial s there);
    step = λ s p q x y label there l r. twins-complement s (A.step s p q label) (B.step s x y label)
        (alike.step s p q x y label there (twins-uncomplement (left g s) p x l) (twins-uncomplement (right g s) q y r));
    accepting = λ p x t. ap not (alike.accepting p x (twins-uncomplement 0 p x t));
  }

-- products of alike automata
module _ {Q Q' R R' S S' : Type 0} (g : Spaces) (guide : IsGuide g)
    (A : Automaton Q) (has_A : ℕ → Q → Type 0) (of_A : IsStable g A)
    (A' : Automaton Q') (has_A' : ℕ → Q' → Type 0) (of_A' : IsStable g A') (alike_A : AreAlike g A has_A A' has_A')
    (B : Automaton R) (has_B : ℕ → R → Type 0) (of_B : IsStable g B)
    (B' : Automaton R') (has_B' : ℕ → R' → Type 0) (of_B' : IsStable g B') (alike_B : AreAlike g B has_B B' has_B')
    (C : Automaton S) (has_C : ℕ → S → Type 0) (pair_C : ℕ → S → Q × R) (of_C : IsProduct g A B C has_C pair_C)
    (C' : Automaton S') (has_C' : ℕ → S' → Type 0) (pair_C' : ℕ → S' → Q' × R') (of_C' : IsProduct g A' B' C' has_C' pair_C') where
  stable : IsStable g C
  stable = IsStable-product g guide A B of_A of_B C has_C pair_C of_C

  stable' : IsStable g C'
  stable' = IsStable-product g guide A' B' of_A' of_B' C' has_C' pair_C' of_C'

  -- the parts of twins are twins
  twins-parts : (s : ℕ) (p : S) (q : S') → IsSpace g s → AreTwins g C C' s p q →
      AreTwins g A A' s (pair_C s p).0 (pair_C' s q).0 × AreTwins g B B' s (pair_C s p).1 (pair_C' s q).1
  twins-parts s p q there t =
      let a = t.assignment in
      let n = t.depth in
      let of_p : (value g A s n a, value g B s n a) ≡ pair_C s p =
      sym (name-value g guide C has_C (pairs A B) pair_C (IsClosed-reached g guide C stable has_C of_C.reached) of_C.naming s n a there
      ∙ value-pairs g A B s n a) ∙ ap (pair_C s) t.first in
      let of_q : (value g A' s n a, value g B' s n a) ≡ pair_C' s q =
      sym (name-value g guide C' has_C' (pairs A' B') pair_C' (IsClosed-reached g guide C' stable' has_C' of_C'.reached) of_C'.naming s n a there
      ∙ value-pairs g A' B' s n a) ∙ ap (pair_C' s) t.second in (
        record { assignment = a; depth = n; covers = t.covers; first = ap (λ z. z.0) of_p; second = ap (λ z. z.0) of_q },
        record { assignment = a; depth = n; covers = t.covers; first = ap (λ z. z.1) of_p; second = ap (λ z. z.1) of_q },
      )

  pub AreAlike-products_alike : AreAlike g C has_C C' has_C'
  AreAlike-products_alike =
      AreAlike-reached g guide C has_C stable of_C.reached C' has_C' stable' of_C'.reached
      (λ s p q r there one other.
      let in_q = twins-parts s p q there one in
      let in_r = twins-parts s p r there other in
      (of_C'.once).once s q r there
      (second-there g guide C has_C stable of_C.reached C' has_C' stable' of_C'.reached s p q there one)
      (second-there g guide C has_C stable of_C.reached C' has_C' stable' of_C'.reached s p r there other)
      (λ i. (
        alike_A.one_there s (pair_C s p).0 (pair_C' s q).0 (pair_C' s r).0 there in_q.0 in_r.0 i,
        alike_B.one_there s (pair_C s p).1 (pair_C' s q).1 (pair_C' s r).1 there in_q.1 in_r.1 i,
      )))
      (λ s p q r there one other.
      let in_p = twins-parts s p r there one in
      let in_q = twins-parts s q r there other in
      (of_C.once).once s p q there
      (first-there g guide C has_C stable of_C.reached C' has_C' stable' of_C'.reached s p r there one)
      (first-there g guide C has_C stable of_C.reached C' has_C' stable' of_C'.reached s q r there other)
      (λ i. (
        alike_A.one_back s (pair_C s p).0 (pair_C s q).0 (pair_C' s r).0 there in_p.0 in_q.0 i,
        alike_B.one_back s (pair_C s p).1 (pair_C s q).1 (pair_C' s r).1 there in_p.1 in_q.1 i,
      )))
      (λ p q t.
      let parts = twins-parts 0 p q guide.not_empty t in
      (of_C.naming).accepting p (first-there g guide C has_C stable of_C.reached C' has_C' stable' of_C'.reached 0 p q guide.not_empty t)
      ∙ (λ i. alike_A.accepting (pair_C 0 p).0 (pair_C' 0 q).0 parts.0 i && alike_B.accepting (pair_C 0 p).1 (pair_C' 0 q).1 parts.1 i)
      ∙ sym ((of_C'.naming).accepting q (second-there g guide C has_C stable of_C.reached C' has_C' stable' of_C'.reached 0 p q guide.not_empty t)))

-- a member of a value has a twin in the value of a subset automaton of another one
module _ {Q Q' S S' : Type 0} (g : Spaces) (guide : IsGuide g) (A : Automaton Q) (of_A : IsStable g A) (A' : Automaton Q')
    (of_A' : IsStable g A') (t : ℕ)
    (C : Automaton S) (has_C : ℕ → S → Type 0) (member_C : ℕ → S → Q → Type 0) (of_C : IsSubset g A t C has_C member_C)
    (C' : Automaton S') (has_C' : ℕ → S' → Type 0) (member_C' : ℕ → S' → Q' → Type 0) (of_C' : IsSubset g A' t C' has_C' member_C') where
  member-twin : (s : ℕ) (x : S) (y : S') → IsSpace g s → AreTwins g C C' s x y → (q : Q) → member_C s x q →
      (q' : Q') × AreTwins g A A' s q q' × member_C' s y q'
  member-twin s x y there twins q m =
      let a = twins.assignment in
      let n = twins.depth in
      let c = chosen-member g guide A of_A t C has_C member_C of_C n s a q there twins.covers (subst (λ z. member_C s z q) (sym twins.first) m) in
      let full = replace a t c.set in (
        value g A' s c.depth full,
        record {
          assignment = full;
          depth = c.depth;
          covers = Covers-replace c.depth a t c.set (Covers-more n c.depth a c.deep twins.covers) c.within;
          first = c.gives;
          second = refl;
        },
        subst (λ z. member_C' s z (value g A' s c.depth full)) twins.second
            (member-chosen g guide A' of_A' t C' has_C' member_C' of_C' n s c.depth a c.set there twins.covers c.deep),
      )

module _ {Q Q' S S' : Type 0} (g : Spaces) (guide : IsGuide g)
    (A : Automaton Q) (has_A : ℕ → Q → Type 0) (of_A : IsStable g A)
    (A' : Automaton Q') (has_A' : ℕ → Q' → Type 0) (of_A' : IsStable g A') (alike : AreAlike g A has_A A' has_A') (t : ℕ)
    (C : Automaton S) (has_C : ℕ → S → Type 0) (member_C : ℕ → S → Q → Type 0) (of_C : IsSubset g A t C has_C member_C)
    (C' : Automaton S') (has_C' : ℕ → S' → Type 0) (member_C' : ℕ → S' → Q' → Type 0) (of_C' : IsSubset g A' t C' has_C' member_C') where
  subset : IsStable g C
  subset = IsStable-subset g guide A of_A t C has_C member_C of_C

  subset' : IsStable g C'
  subset' = IsStable-subset g guide A' of_A' t C' has_C' member_C' of_C'

  there-twin : (s : ℕ) (x : S) (y : S') → IsSpace g s → AreTwins g C C' s x y → (q : Q) → member_C s x q →
      (q' : Q') × AreTwins g A A' s q q' × member_C' s y q'
  there-twin = member-twin g guide A of_A A' of_A' t C has_C member_C of_C C' has_C' member_C' of_C'

  back-twin : (s : ℕ) (x : S) (y : S') → IsSpace g s → AreTwins g C C' s x y → (q' : Q') → member_C' s y q' →
      (q : Q) × AreTwins g A' A s q' q × member_C s x q
  back-twin s x y there twins = member-twin g guide A' of_A' A of_A t C' has_C' member_C' of_C' C has_C member_C of_C s y x there
      (twins-turned g C C' s x y twins)

  -- two twins of one set have the same members
  same-there : (s : ℕ) (x : S) (y z : S') → IsSpace g s → AreTwins g C C' s x y → AreTwins g C C' s x z →
      (q' : Q') → member_C' s y q' → member_C' s z q'
  same-there s x y z there one other q' m =
      let q = back-twin s x y there one q' m in
      let r = there-twin s x z there other q.0 q.2 in
      subst (member_C' s z) (sym (alike.one_there s q.0 q' r.0 there (twins-turned g A' A s q' q.0 q.1) r.1)) r.2

  same-back : (s : ℕ) (x y : S) (z : S') → IsSpace g s → AreTwins g C C' s x z → AreTwins g C C' s y z →
      (q : Q) → member_C s x q → member_C s y q
  same-back s x y z there one other q m =
      let q' = there-twin s x z there one q m in
      let r = back-twin s y z there other q'.0 q'.2 in
      subst (member_C s y) (sym (alike.one_back s q r.0 q'.0 there q'.1 (twins-turned g A' A s q'.0 r.0 r.1))) r.2

  pub AreAlike-subsets_alike : AreAlike g C has_C C' has_C'
  AreAlike-subsets_alike =
      AreAlike-reached g guide C has_C subset of_C.reached C' has_C' subset' of_C'.reached
      (λ s x y z there one other. of_C'.once s y z there
      (second-there g guide C has_C subset of_C.reached C' has_C' subset' of_C'.reached s x y there one)
      (second-there g guide C has_C subset of_C.reached C' has_C' subset' of_C'.reached s x z there other)
      (λ q'. (same-there s x y z there one other q', same-there s x z y there other one q')))
      (λ s x y z there one other. of_C.once s x y there
      (first-there g guide C has_C subset of_C.reached C' has_C' subset' of_C'.reached s x z there one)
      (first-there g guide C has_C subset of_C.reached C' has_C' subset' of_C'.reached s y z there other)
      (λ q. (same-back s x y z there one other q, same-back s y x z there other one q)))
      (λ x y twins.
      let in_C = first-there g guide C has_C subset of_C.reached C' has_C' subset' of_C'.reached 0 x y guide.not_empty twins in
      let in_C' = second-there g guide C has_C subset of_C.reached C' has_C' subset' of_C'.reached 0 x y guide.not_empty twins in
      one_answer (C.accepting x) (C'.accepting y) ((λ is. is), (λ is. is)) (
        (λ is.
            let some = (of_C'.accepting y in_C').0 is in
            let q = back-twin 0 x y guide.not_empty twins some.state some.inside in
            (of_C.accepting x in_C).1 (record {
              state = q.0;
              inside = q.2;
              accepting = alike.accepting q.0 some.state (twins-turned g A' A 0 some.state q.0 q.1) ∙ some.accepting;
            })),
        (λ is.
            let some = (of_C.accepting x in_C).0 is in
            let q' = there-twin 0 x y guide.not_empty twins some.state some.inside in
            (of_C'.accepting y in_C').1 (record {
              state = q'.0;
              inside = q'.2;
              accepting = sym (alike.accepting some.state q'.0 q'.1) ∙ some.accepting;
            })),
      ))
