-- On worklists: closed states that are generated and named once are exactly the values, and their automaton is stable.
use Rattle.std.proofs.Common.{ℕ, zero, suc, true, false, subst}
use Rattle.gta_theory.specs.Assignments.{Assignment, half, root_label}
use Rattle.gta_theory.specs.Guides.{Spaces, IsSpace, IsGuide, left, right}
use Rattle.gta_theory.specs.Automata.{Automaton, value, IsStable, IsValue}
use Rattle.gta_theory.specs.Constructions.{pairs, IsReached, IsClosed, IsNaming, IsOnce, IsProduct, IsSubset}
use Rattle.gta_theory.specs.Generated.{Generated, starts, steps, IsGenerated, IsNamingSets}
use Rattle.gta_theory.proofs.AutomataLemmas.{IsClosed-values, IsStable-named, IsStable-pairs}
use Rattle.gta_theory.proofs.SubsetLemmas.{IsStable-subset}

-- the values are the reached states
pub IsReached-values : {Q : Type 0} (g : Spaces) (A : Automaton Q) → IsReached g A (IsValue g A)
IsReached-values g A = record { state = λ s q there. ((λ is. is), (λ is. is)) }

module _ {Q : Type 0} (g : Spaces) (guide : IsGuide g) (A : Automaton Q) where
  -- closed states hold each value
  module _ (has : ℕ → Q → Type 0) (closed : IsClosed g A has) where
    pub value-closed : (s n : ℕ) (a : Assignment) → IsSpace g s → has s (value g A s n a)
    value-closed s zero a there = closed.initial s there
    value-closed s (suc n) a there = closed.step s _ _ (root_label a) there
        (value-closed (left g s) n (half false a) (guide.left_inside s there))
        (value-closed (right g s) n (half true a) (guide.right_inside s there))

    pub IsValue-closed : (s : ℕ) (q : Q) → IsSpace g s → IsValue g A s q → has s q
    IsValue-closed s q there v = subst (has s) v.is_value (value-closed s v.depth v.assignment there)

  module _ (stable : IsStable g A) where
    -- what is generated is a value
    pub IsValue-generated : (s : ℕ) (q : Q) → Generated g A s q → IsValue g A s q
    IsValue-generated _ _ (starts s there) = (IsClosed-values g guide A stable).initial s there
    IsValue-generated _ _ (steps s p q label there l r) = (IsClosed-values g guide A stable).step s p q label there
        (IsValue-generated (left g s) p l) (IsValue-generated (right g s) q r)

    -- closed and generated states are the reached ones
    pub IsReached-generated : (has : ℕ → Q → Type 0) → IsClosed g A has → IsGenerated g A has → IsReached g A has
    IsReached-generated has closed generated = record {
      state = λ s q there. (
        (λ h. IsValue-generated s q (generated.state s q there h)),
        IsValue-closed has closed s q there,
      );
    }

-- closed names, each once, of the states of a stable automaton
module _ {Q R : Type 0} (g : Spaces) (guide : IsGuide g) (A : Automaton Q) (has : ℕ → Q → Type 0) (B : Automaton R)
    (name : ℕ → Q → R) (closed : IsClosed g A has) (naming : IsNaming g A has B name) (once : IsOnce g has name)
    (stable : IsStable g B) where
  pub IsStable-closed : IsStable g A
  IsStable-closed =
      let inside = IsValue-closed g guide A has closed in
      IsStable-named g guide A (IsValue g A) B name (IsReached-values g A)
      (record {
        initial = naming.initial;
        step = λ s p q label there l r. naming.step s p q label there
            (inside (left g s) p (guide.left_inside s there) l) (inside (right g s) q (guide.right_inside s there) r);
        accepting = λ q v. naming.accepting q (inside 0 q guide.not_empty v);
      })
      (record { once = λ s p q there l r. once.once s p q there (inside s p there l) (inside s q there r) })
      stable

  pub IsReached-closed : IsGenerated g A has → IsReached g A has
  IsReached-closed = IsReached-generated g guide A IsStable-closed has closed

-- closed and generated names of pairs, each once, are the product
pub IsProduct-generated : {Q R S : Type 0} (g : Spaces) (guide : IsGuide g) (A : Automaton Q) (B : Automaton R) →
    IsStable g A → IsStable g B → (C : Automaton S) (has : ℕ → S → Type 0) (pair : ℕ → S → Q × R) →
    IsClosed g C has → IsGenerated g C has → IsNaming g C has (pairs A B) pair → IsOnce g has pair →
    IsProduct g A B C has pair
IsProduct-generated g guide A B of_A of_B C has pair closed generated naming once = record {
  reached = IsReached-closed g guide C has (pairs A B) pair closed naming once (IsStable-pairs g A B of_A of_B) generated;
  naming = naming;
  once = once;
}

-- closed names of sets of states, each once
module _ {Q R : Type 0} (g : Spaces) (guide : IsGuide g) (A : Automaton Q) (stable : IsStable g A) (t : ℕ)
    (B : Automaton R) (has : ℕ → R → Type 0) (member : ℕ → R → Q → Type 0)
    (closed : IsClosed g B has) (naming : IsNamingSets g A t B has member) where
  pub IsStable-closed_sets : IsStable g B
  IsStable-closed_sets =
      let inside = IsValue-closed g guide B has closed in
      IsStable-subset g guide A stable t B (IsValue g B) member (record {
        reached = IsReached-values g B;
        initial = naming.initial;
        step = λ s x y label q there l r. naming.step s x y label q there
            (inside (left g s) x (guide.left_inside s there) l) (inside (right g s) y (guide.right_inside s there) r);
        accepting = λ x v. naming.accepting x (inside 0 x guide.not_empty v);
        once = λ s x y there l r. naming.once s x y there (inside s x there l) (inside s y there r);
      })

  -- and generated, they are the subset automaton
  pub IsSubset-generated : IsGenerated g B has → IsSubset g A t B has member
  IsSubset-generated generated = record {
    reached = IsReached-generated g guide B IsStable-closed_sets has closed generated;
    initial = naming.initial;
    step = naming.step;
    accepting = naming.accepting;
    once = naming.once;
  }
