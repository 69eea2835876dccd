-- On values: the depth is free once it covers, and complements, pairs and names.
use Rattle.std.proofs.Common.{◌≡◌, ℕ, zero, suc, ◌+◌, ◌-◌, ◌≤◌, max, Bool, true, false, not, IsTrue, ◌↔◌, refl, sym, ap, ◌∙◌, arith}
use Rattle.std.proofs.lemmas.Bool.{and_from, and_parts, both_ways, not-true}
use Rattle.labels.specs.Labels.{empty_label}
use Rattle.gta_theory.specs.Assignments.{Assignment, Covers, half, root_label, empty_assignment}
use Rattle.gta_theory.specs.Guides.{Spaces, IsSpace, IsGuide, left, right}
use Rattle.gta_theory.specs.Automata.{Automaton, value, IsStable, Accepts, IsValue}
use Rattle.gta_theory.specs.Constructions.{complement, pairs, IsReached, IsClosed, IsNaming, IsOnce, IsProduct}
use Rattle.gta_theory.proofs.AssignmentsLemmas.{Covers-half, Covers-more, root_label-covered, joined, Covers-joined, Covers-empty}

-- k more
up : ℕ → ℕ → ℕ
up zero n = n
up (suc k) n = suc (up k n)

up-is : (k n : ℕ) → up k n ≡ n + k
unfolding up
up-is zero n = omega arith
up-is (suc k) n = ap suc (up-is k n) ∙ omega arith

module _ {Q : Type 0} (g : Spaces) (guide : IsGuide g) (A : Automaton Q) (stable : IsStable g A) where
  pub value-suc : (s n : ℕ) (a : Assignment) → IsSpace g s → Covers n a → value g A s (suc n) a ≡ value g A s n a
  value-suc s zero a there covers =
      ap (A.step s (A.initial (left g s)) (A.initial (right g s))) (root_label-covered a covers) ∙ stable.at s there
  value-suc s (suc n) a there covers = λ i. A.step s
      (value-suc (left g s) n (half false a) (guide.left_inside s there) (Covers-half n false a covers) i)
      (value-suc (right g s) n (half true a) (guide.right_inside s there) (Covers-half n true a covers) i)
      (root_label a)

  value-up : (k s n : ℕ) (a : Assignment) → IsSpace g s → Covers n a → value g A s (up k n) a ≡ value g A s n a
  unfolding up
  value-up zero s n a there covers = refl
  value-up (suc k) s n a there covers =
      value-suc s (up k n) a there (Covers-more n (up k n) a (omega (arith, up-is k n)) covers) ∙ value-up k s n a there covers

  -- the value at a deeper depth is the same
  pub value-deeper : (s n m : ℕ) (a : Assignment) → IsSpace g s → Covers n a → n ≤ m → value g A s m a ≡ value g A s n a
  value-deeper s n m a there covers deeper =
      let same : up (m - n) n ≡ m = up-is (m - n) n ∙ omega arith in
      sym (ap (λ d. value g A s d a) same) ∙ value-up (m - n) s n a there covers

  -- the value is the same at any two depths that cover
  pub value-same : (s n m : ℕ) (a : Assignment) → IsSpace g s → Covers n a → Covers m a → value g A s n a ≡ value g A s m a
  value-same s n m a there in_n in_m =
      sym (value-deeper s n (max n m) a there in_n (omega arith)) ∙ value-deeper s m (max n m) a there in_m (omega arith)

  -- an accepted assignment has an accepting value at each depth that covers it
  pub Accepts-at : (n : ℕ) (a : Assignment) → Covers n a → Accepts g A a → IsTrue (A.accepting (value g A 0 n a))
  Accepts-at n a covers accepts =
      ap (λ q. A.accepting q) (value-same 0 n accepts.depth a guide.not_empty covers accepts.covers) ∙ accepts.accepted

  -- the values are closed under steps
  pub IsClosed-values : IsClosed g A (IsValue g A)
  IsClosed-values = record {
    initial = λ s there. record { assignment = empty_assignment; depth = 0; covers = Covers-empty; is_value = refl };
    step = λ s p q label there l r.
        let n : ℕ = max l.depth r.depth in
        let in_l : Covers n l.assignment = Covers-more l.depth n l.assignment (omega arith) l.covers in
        let in_r : Covers n r.assignment = Covers-more r.depth n r.assignment (omega arith) r.covers in
        let is_l = value-same (left g s) n l.depth l.assignment (guide.left_inside s there) in_l l.covers ∙ l.is_value in
        let is_r = value-same (right g s) n r.depth r.assignment (guide.right_inside s there) in_r r.covers ∙ r.is_value in
        record {
          assignment = joined label l.assignment r.assignment;
          depth = suc n;
          covers = Covers-joined n label l.assignment r.assignment in_l in_r;
          is_value = λ i. A.step s (is_l i) (is_r i) label;
        };
  }

  pub IsClosed-reached : (has : ℕ → Q → Type 0) → IsReached g A has → IsClosed g A has
  IsClosed-reached has reached = record {
    initial = λ s there. (reached.state s _ there).1 (IsClosed-values.initial s there);
    step = λ s p q label there l r. (reached.state s _ there).1
        (IsClosed-values.step s p q label there
        ((reached.state _ p (guide.left_inside s there)).0 l) ((reached.state _ q (guide.right_inside s there)).0 r));
  }

  -- the complement is stable, and accepts exactly what was not accepted
  pub IsStable-complement : IsStable g (complement A)
  IsStable-complement = record { at = stable.at }

  pub value-complement : (s n : ℕ) (a : Assignment) → value g (complement A) s n a ≡ value g A s n a
  value-complement s zero a = refl
  value-complement s (suc n) a = λ i. A.step s
      (value-complement (left g s) n (half false a) i) (value-complement (right g s) n (half true a) i) (root_label a)

  pub Accepts-complement : (n : ℕ) (a : Assignment) → Covers n a → Accepts g (complement A) a ↔ (Accepts g A a → ⊥)
  Accepts-complement n a covers = (there, back)
    where
      there : Accepts g (complement A) a → Accepts g A a → ⊥
      there other accepts =
          both_ways (A.accepting (value g A 0 other.depth a))
          (not-true _ (sym (ap (λ q. not (A.accepting q)) (value-complement 0 other.depth a)) ∙ other.accepted))
          (Accepts-at other.depth a other.covers accepts)

      decided : (b : Bool) → A.accepting (value g A 0 n a) ≡ b → (Accepts g A a → ⊥) → Accepts g (complement A) a
      decided true is other = absurd (other (record { depth = n; covers = covers; accepted = is }))
      decided false is other = record {
        depth = n;
        covers = covers;
        accepted = ap (λ q. not (A.accepting q)) (value-complement 0 n a) ∙ ap not is;
      }

      back : (Accepts g A a → ⊥) → Accepts g (complement A) a
      back other = decided (A.accepting (value g A 0 n a)) refl other

-- the values of pairs are pairs of values
pub value-pairs : {Q R : Type 0} (g : Spaces) (A : Automaton Q) (B : Automaton R) (s n : ℕ) (a : Assignment) →
    value g (pairs A B) s n a ≡ (value g A s n a, value g B s n a)
value-pairs g A B s zero a = refl
value-pairs g A B s (suc n) a = λ i. (pairs A B).step s
    (value-pairs g A B (left g s) n (half false a) i) (value-pairs g A B (right g s) n (half true a) i) (root_label a)

pub IsStable-pairs : {Q R : Type 0} (g : Spaces) (A : Automaton Q) (B : Automaton R) → IsStable g A → IsStable g B →
    IsStable g (pairs A B)
IsStable-pairs g A B of_A of_B = record { at = λ s there i. (of_A.at s there i, of_B.at s there i) }

pub Accepts-pairs : {Q R : Type 0} (g : Spaces) (guide : IsGuide g) (A : Automaton Q) (B : Automaton R) →
    IsStable g A → IsStable g B → (a : Assignment) → Accepts g (pairs A B) a ↔ (Accepts g A a × Accepts g B a)
Accepts-pairs g guide A B of_A of_B a = (there, back)
  where
    there : Accepts g (pairs A B) a → Accepts g A a × Accepts g B a
    there accepts =
        let both = and_parts _ _ (sym (ap (λ q. (pairs A B).accepting q) (value-pairs g A B 0 accepts.depth a)) ∙ accepts.accepted) in (
          record { depth = accepts.depth; covers = accepts.covers; accepted = both.0 },
          record { depth = accepts.depth; covers = accepts.covers; accepted = both.1 },
        )

    back : Accepts g A a × Accepts g B a → Accepts g (pairs A B) a
    back both = record {
      depth = (both.0).depth;
      covers = (both.0).covers;
      accepted = ap (λ q. (pairs A B).accepting q) (value-pairs g A B 0 (both.0).depth a)
          ∙ and_from _ _ (both.0).accepted (Accepts-at g guide B of_B (both.0).depth a (both.0).covers both.1);
    }

-- names keep values and acceptance
module _ {Q R : Type 0} (g : Spaces) (guide : IsGuide g) (A : Automaton Q) (has : ℕ → Q → Type 0) (B : Automaton R)
    (name : ℕ → Q → R) (closed : IsClosed g A has) (naming : IsNaming g A has B name) where
  pub value-has : (s n : ℕ) (a : Assignment) → IsSpace g s → has s (value g A s n a)
  value-has s zero a there = closed.initial s there
  value-has s (suc n) a there = closed.step s _ _ (root_label a) there
      (value-has (left g s) n (half false a) (guide.left_inside s there))
      (value-has (right g s) n (half true a) (guide.right_inside s there))

  pub name-value : (s n : ℕ) (a : Assignment) → IsSpace g s → name s (value g A s n a) ≡ value g B s n a
  name-value s zero a there = naming.initial s there
  name-value s (suc n) a there =
      naming.step s _ _ (root_label a) there
      (value-has (left g s) n (half false a) (guide.left_inside s there))
      (value-has (right g s) n (half true a) (guide.right_inside s there))
      ∙ (λ i. B.step s
      (name-value (left g s) n (half false a) (guide.left_inside s there) i)
      (name-value (right g s) n (half true a) (guide.right_inside s there) i) (root_label a))

  accepting-value : (n : ℕ) (a : Assignment) → A.accepting (value g A 0 n a) ≡ B.accepting (value g B 0 n a)
  accepting-value n a =
      naming.accepting _ (value-has 0 n a guide.not_empty) ∙ ap (λ q. B.accepting q) (name-value 0 n a guide.not_empty)

  pub Accepts-named : (a : Assignment) → Accepts g A a ↔ Accepts g B a
  Accepts-named a = (
    (λ of_A. record { depth = of_A.depth; covers = of_A.covers; accepted = sym (accepting-value of_A.depth a) ∙ of_A.accepted }),
    (λ of_B. record { depth = of_B.depth; covers = of_B.covers; accepted = accepting-value of_B.depth a ∙ of_B.accepted }),
  )

-- an automaton whose states are names, each once, of those of a stable one, and are values, is stable
module _ {Q R : Type 0} (g : Spaces) (guide : IsGuide g) (A : Automaton Q) (has : ℕ → Q → Type 0) (B : Automaton R)
    (name : ℕ → Q → R) (reached : IsReached g A has) (naming : IsNaming g A has B name) where
  named-initial : (s : ℕ) → IsSpace g s → has s (A.initial s)
  named-initial s there = (reached.state s _ there).1
      (record { assignment = empty_assignment; depth = 0; covers = Covers-empty; is_value = refl })

  named-step : (s : ℕ) → IsSpace g s → has s (A.step s (A.initial (left g s)) (A.initial (right g s)) empty_label)
  named-step s there = (reached.state s _ there).1
      (record { assignment = empty_assignment; depth = 1; covers = λ u p deep. refl; is_value = refl })

  pub IsStable-named : IsOnce g has name → IsStable g B → IsStable g A
  IsStable-named once stable = record {
    at = λ s there. once.once s _ _ there (named-step s there) (named-initial s there)
        (naming.step s _ _ empty_label there (named-initial (left g s) (guide.left_inside s there)) (named-initial (right g s) (guide.right_inside s there))
        ∙ (λ i. B.step s (naming.initial (left g s) (guide.left_inside s there) i) (naming.initial (right g s) (guide.right_inside s there) i) empty_label)
        ∙ stable.at s there
        ∙ sym (naming.initial s there));
  }

-- a product accepts exactly what both accept
module _ {Q R S : Type 0} (g : Spaces) (guide : IsGuide g) (A : Automaton Q) (B : Automaton R) (of_A : IsStable g A)
    (of_B : IsStable g B) (C : Automaton S) (has : ℕ → S → Type 0) (pair : ℕ → S → Q × R)
    (product : IsProduct g A B C has pair) where
  pub IsStable-product : IsStable g C
  IsStable-product = IsStable-named g guide C has (pairs A B) pair product.reached product.naming product.once
      (IsStable-pairs g A B of_A of_B)

  pub Accepts-product : (a : Assignment) → Accepts g C a ↔ (Accepts g A a × Accepts g B a)
  Accepts-product a =
      let closed = IsClosed-reached g guide C IsStable-product has product.reached in
      let names = Accepts-named g guide C has (pairs A B) pair closed product.naming a in
      let both = Accepts-pairs g guide A B of_A of_B a in
      ((λ h. both.0 (names.0 h)), (λ h. names.1 (both.1 h)))
