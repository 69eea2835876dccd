-- On the tracks that steps look at: products, subset automata and automata of classes look no further.
use Rattle.std.proofs.Common.{◌≡◌, ℕ, Bool, cond, eqb, ◌↔◌, refl, sym, ap, subst, ◌∙◌}
use Rattle.labels.specs.Labels.{Label, with_track}
use Rattle.gta_theory.specs.Assignments.{replace}
use Rattle.gta_theory.specs.Guides.{Spaces, IsSpace, IsGuide, left, right}
use Rattle.gta_theory.specs.Automata.{Automaton, value, IsStable}
use Rattle.gta_theory.specs.Constructions.{pairs, IsReached, IsClosed, IsNaming, IsOnce, IsStepOf, IsProduct, IsSubset}
use Rattle.gta_theory.specs.Sizes.{AreSameBelow, LooksBelow}
use Rattle.gta_theory.proofs.AssignmentsLemmas.{Covers-more, Covers-replace}
use Rattle.gta_theory.proofs.AutomataLemmas.{IsClosed-reached, name-value, value-pairs, IsStable-product}
use Rattle.gta_theory.proofs.SubsetLemmas.{chosen-member, IsStable-subset}

-- names, each once, of states whose steps look below k
pub LooksBelow-named : {Q R : Type 0} (g : Spaces) (guide : IsGuide g) (A : Automaton Q) (has : ℕ → Q → Type 0)
    (B : Automaton R) (has_B : ℕ → R → Type 0) (name : ℕ → Q → R) (k : ℕ) →
    IsClosed g A has → IsNaming g A has B name → IsOnce g has name →
    ((s : ℕ) (q : Q) → IsSpace g s → has s q → has_B s (name s q)) → LooksBelow g B has_B k → LooksBelow g A has k
LooksBelow-named g guide A has B has_B name k closed naming once inside looks = record {
  step = λ s p q l m there in_p in_q same.
      once.once s (A.step s p q l) (A.step s p q m) there (closed.step s p q l there in_p in_q) (closed.step s p q m there in_p in_q)
      (naming.step s p q l there in_p in_q
      ∙ looks.step s (name (left g s) p) (name (right g s) q) l m there
      (inside (left g s) p (guide.left_inside s there) in_p) (inside (right g s) q (guide.right_inside s there) in_q) same
      ∙ sym (naming.step s p q m there in_p in_q));
}

-- classes of states whose steps look below k
pub LooksBelow-classes : {Q R : Type 0} (g : Spaces) (guide : IsGuide g) (A : Automaton Q) (has : ℕ → Q → Type 0)
    (M : Automaton R) (has_M : ℕ → R → Type 0) (class_of : ℕ → Q → R) (k : ℕ) → IsNaming g A has M class_of →
    ((s : ℕ) (x : R) → IsSpace g s → has_M s x ↔ ((q : Q) × has s q × (class_of s q ≡ x))) →
    LooksBelow g A has k → LooksBelow g M has_M k
LooksBelow-classes g guide A has M has_M class_of k naming image looks = record {
  step = λ s x y l m there in_x in_y same.
      let p = (image (left g s) x (guide.left_inside s there)).0 in_x in
      let q = (image (right g s) y (guide.right_inside s there)).0 in_y in
      let of_classes : M.step s (class_of (left g s) p.0) (class_of (right g s) q.0) l
      ≡ M.step s (class_of (left g s) p.0) (class_of (right g s) q.0) m
      = sym (naming.step s p.0 q.0 l there p.1 q.1)
      ∙ ap (class_of s) (looks.step s p.0 q.0 l m there p.1 q.1 same)
      ∙ naming.step s p.0 q.0 m there p.1 q.1 in
      subst (λ z. M.step s z y l ≡ M.step s z y m) p.2
      (subst (λ z. M.step s (class_of (left g s) p.0) z l ≡ M.step s (class_of (left g s) p.0) z m) q.2 of_classes);
}

-- products
module _ {Q R S : Type 0} (g : Spaces) (guide : IsGuide g) (A : Automaton Q) (has_A : ℕ → Q → Type 0) (of_A : IsStable g A)
    (reached_A : IsReached g A has_A) (B : Automaton R) (has_B : ℕ → R → Type 0) (of_B : IsStable g B)
    (reached_B : IsReached g B has_B) (C : Automaton S) (has : ℕ → S → Type 0) (pair : ℕ → S → Q × R)
    (product : IsProduct g A B C has pair) where
  closed : IsClosed g C has
  closed = IsClosed-reached g guide C (IsStable-product g guide A B of_A of_B C has pair product) has product.reached

  -- the parts of a state are states
  pub parts-inside : (s : ℕ) (x : S) → IsSpace g s → has s x → has_A s (pair s x).0 × has_B s (pair s x).1
  parts-inside s x there in_x =
      let v = ((product.reached).state s x there).0 in_x in
      let n = v.depth in
      let a = v.assignment in
      let is : pair s x ≡ (value g A s n a, value g B s n a) =
      sym (ap (pair s) v.is_value) ∙ name-value g guide C has (pairs A B) pair closed product.naming s n a there ∙ value-pairs g A B s n a in (
        subst (has_A s) (sym (ap (λ z. z.0) is))
            ((reached_A.state s (value g A s n a) there).1 (record { assignment = a; depth = n; covers = v.covers; is_value = refl })),
        subst (has_B s) (sym (ap (λ z. z.1) is))
            ((reached_B.state s (value g B s n a) there).1 (record { assignment = a; depth = n; covers = v.covers; is_value = refl })),
      )

  pub LooksBelow-product : (k : ℕ) → LooksBelow g A has_A k → LooksBelow g B has_B k → LooksBelow g C has k
  LooksBelow-product k looks_A looks_B =
      LooksBelow-named g guide C has (pairs A B) (λ s x. has_A s x.0 × has_B s x.1) pair k closed product.naming product.once parts-inside
      (record {
        step = λ s p q l m there in_p in_q same i. (
          looks_A.step s p.0 q.0 l m there in_p.0 in_q.0 same i,
          looks_B.step s p.1 q.1 l m there in_p.1 in_q.1 same i,
        );
      })

-- labels that are the same below k still are with one track set or unset
AreSameBelow-with_track : (k t : ℕ) (bit : Bool) (l m : Label) → AreSameBelow k l m → AreSameBelow k (with_track l t bit) (with_track m t bit)
AreSameBelow-with_track k t bit l m same u below = λ i. cond (eqb u t) bit (same u below i)

-- a step of a set, on a label that is the same below k
pub IsStepOf-looks : {Q : Type 0} (g : Spaces) (A : Automaton Q) (has : ℕ → Q → Type 0) (k : ℕ) → LooksBelow g A has k → (t s : ℕ)
    (Left Right : Q → Type 0) → IsSpace g s → ((p : Q) → Left p → has (left g s) p) → ((p : Q) → Right p → has (right g s) p) →
    (l m : Label) (q : Q) → AreSameBelow k l m → IsStepOf A t s Left Right l q → IsStepOf A t s Left Right m q
IsStepOf-looks g A has k looks t s Left Right there of_left of_right l m q same h = record {
  left = h.left;
  right = h.right;
  bit = h.bit;
  in_left = h.in_left;
  in_right = h.in_right;
  is_step = sym (looks.step s h.left h.right (with_track l t h.bit) (with_track m t h.bit) there
      (of_left h.left h.in_left) (of_right h.right h.in_right) (AreSameBelow-with_track k t h.bit l m same)) ∙ h.is_step;
}

-- subset automata
module _ {Q R : Type 0} (g : Spaces) (guide : IsGuide g) (A : Automaton Q) (has_A : ℕ → Q → Type 0) (of_A : IsStable g A)
    (reached_A : IsReached g A has_A) (t : ℕ) (B : Automaton R) (has : ℕ → R → Type 0) (member : ℕ → R → Q → Type 0)
    (subset : IsSubset g A t B has member) where
  -- the members of a state are states
  pub member-inside : (s : ℕ) (x : R) (q : Q) → IsSpace g s → has s x → member s x q → has_A s q
  member-inside s x q there in_x m =
      let v = ((subset.reached).state s x there).0 in_x in
      let c = chosen-member g guide A of_A t B has member subset v.depth s v.assignment q there v.covers
      (subst (λ z. member s z q) (sym v.is_value) m) in
      (reached_A.state s q there).1 (record {
        assignment = replace v.assignment t c.set;
        depth = c.depth;
        covers = Covers-replace c.depth v.assignment t c.set (Covers-more v.depth c.depth v.assignment c.deep v.covers) c.within;
        is_value = c.gives;
      })

  pub LooksBelow-subset : (k : ℕ) → LooksBelow g A has_A k → LooksBelow g B has k
  LooksBelow-subset k looks = record {
    step = λ s x y l m there in_x in_y same.
        subset.once s (B.step s x y l) (B.step s x y m) there (closed.step s x y l there in_x in_y) (closed.step s x y m there in_x in_y)
        (λ q. (
          (λ h. (subset.step s x y m q there in_x in_y).1 (step-same s x y l m q there in_x in_y same ((subset.step s x y l q there in_x in_y).0 h))),
          (λ h. (subset.step s x y l q there in_x in_y).1
              (step-same s x y m l q there in_x in_y (λ u below. sym (same u below)) ((subset.step s x y m q there in_x in_y).0 h))),
        ));
  }
    where
      closed : IsClosed g B has
      closed = IsClosed-reached g guide B (IsStable-subset g guide A of_A t B has member subset) has subset.reached

      step-same : (s : ℕ) (x y : R) (l m : Label) (q : Q) → IsSpace g s → has (left g s) x → has (right g s) y → AreSameBelow k l m →
          IsStepOf A t s (member (left g s) x) (member (right g s) y) l q → IsStepOf A t s (member (left g s) x) (member (right g s) y) m q
      step-same s x y l m q there in_x in_y same = IsStepOf-looks g A has_A k looks t s (member (left g s) x) (member (right g s) y) there
          (λ p. member-inside (left g s) x p (guide.left_inside s there) in_x) (λ p. member-inside (right g s) y p (guide.right_inside s there) in_y)
          l m q same
