-- Automata for the forms of a formula.
use Rattle.std.proofs.Common.{ℕ, max, arith}
use Rattle.gta_theory.specs.Assignments.{Assignment, IsFinite, Covers, replace, only_below}
use Rattle.gta_theory.specs.Guides.{Spaces, IsGuide}
use Rattle.gta_theory.specs.Automata.{Automaton, Accepts}
use Rattle.gta_theory.specs.Constructions.{complement, IsReached, IsNaming, IsProduct, IsSubset}
use Rattle.gta_theory.proofs.AssignmentsLemmas.{Covers-more, Covers-replace, Covers-finite, IsWithin-more}
use Rattle.gta_theory.proofs.AutomataLemmas.{IsStable-complement, Accepts-complement, IsStable-product, Accepts-product, Accepts-named, IsClosed-reached}
use Rattle.gta_theory.proofs.SubsetLemmas.{IsStable-subset, Accepts-subset}
use Rattle.gta_theory.proofs.MinimalLemmas.{IsStable-classes}
use Rattle.ws2s_core.specs.declared.track.Track.{Track}
use Rattle.ws2s_core.specs.declared.formula.Formula.{Formula}
use Rattle.ws2s_core.specs.declared.formula.Formula.TheVariants.{And, Not, Ex2}
use Rattle.ws2s_core.specs.Satisfaction.{WSat}
use Rattle.ws2s_core.specs.Tracks.{track_bound}
use Rattle.ws2s_core.specs.Recognising.{Recognises}
use Rattle.ws2s_core.proofs.SatisfactionLemmas.{WSat-And, WSat-Not, WSat-Ex2}
use Rattle.ws2s_core.proofs.TracksLemmas.{Covers-only_below, WSat-only_below}

module _ {Q : Type 0} (g : Spaces) (guide : IsGuide g) (A : Automaton Q) (f : Formula) (of_A : Recognises g A f) where
  pub Recognises-Not : Recognises g (complement A) (Not f)
  Recognises-Not = record {
    stable = IsStable-complement g guide A of_A.stable;
    exactly = λ n a covers.
        let other = Accepts-complement g guide A of_A.stable n a covers in (
          (λ h. (WSat-Not f a).1 (λ k. other.0 h ((of_A.exactly n a covers).1 k))),
          (λ h. other.1 (λ k. (WSat-Not f a).0 h ((of_A.exactly n a covers).0 k))),
        );
  }

  pub Recognises-And : {R S : Type 0} (B : Automaton R) (h : Formula) → Recognises g B h → (C : Automaton S)
      (has : ℕ → S → Type 0) (pair : ℕ → S → Q × R) → IsProduct g A B C has pair → Recognises g C (And f h)
  Recognises-And B h of_B C has pair product = record {
    stable = IsStable-product g guide A B of_A.stable of_B.stable C has pair product;
    exactly = λ n a covers.
        let both = Accepts-product g guide A B of_A.stable of_B.stable C has pair product a in (
          (λ k. (WSat-And f h a).1 ((of_A.exactly n a covers).0 (both.0 k).0, (of_B.exactly n a covers).0 (both.0 k).1)),
          (λ k. both.1 ((of_A.exactly n a covers).1 ((WSat-And f h a).0 k).0, (of_B.exactly n a covers).1 ((WSat-And f h a).0 k).1)),
        );
  }

  pub Recognises-Ex2 : {R : Type 0} (t : Track) (B : Automaton R) (has : ℕ → R → Type 0) (member : ℕ → R → Q → Type 0) →
      IsSubset g A t.0 B has member → Recognises g B (Ex2 t f)
  Recognises-Ex2 t B has member subset = record {
    stable = IsStable-subset g guide A of_A.stable t.0 B has member subset;
    exactly = λ n a covers.
        let some = Accepts-subset g guide A of_A.stable t.0 B has member subset n a covers in (
          (λ k.
              let set = some.0 k in
              (WSat-Ex2 t f a).1 (set.0, set.1, (of_A.exactly (set.2).depth (replace a t.0 set.0) (set.2).covers).0 set.2)),
          (λ k.
              let set = (WSat-Ex2 t f a).0 k in
              let m : ℕ = max n (set.1).0 in
              let in_m : Covers m (replace a t.0 set.0) =
              Covers-replace m a t.0 set.0 (Covers-more n m a (omega arith) covers) (IsWithin-more (set.1).0 m set.0 (omega arith) (set.1).1) in
              some.1 (set.0, set.1, (of_A.exactly m (replace a t.0 set.0) in_m).1 set.2)),
        );
  }

  -- classes of states recognise the same
  pub Recognises-classes : {R : Type 0} (has : ℕ → Q → Type 0) (M : Automaton R) (name : ℕ → Q → R) →
      IsReached g A has → IsNaming g A has M name → Recognises g M f
  Recognises-classes has M name reached naming = record {
    stable = IsStable-classes g guide A of_A.stable has reached M name naming;
    exactly = λ n a covers.
        let named = Accepts-named g guide A has M name (IsClosed-reached g guide A of_A.stable has reached) naming a in
        ((λ k. (of_A.exactly n a covers).0 (named.1 k)), (λ k. named.0 ((of_A.exactly n a covers).1 k)));
  }

  -- some assignment of finite sets satisfies the formula exactly where some assignment is accepted
  pub accepted-satisfied : (a : Assignment) → Accepts g A a → IsFinite a × WSat f a
  accepted-satisfied a h = (Covers-finite h.depth a h.covers, (of_A.exactly h.depth a h.covers).0 h)

  pub satisfied-accepted : (a : Assignment) → IsFinite a → WSat f a → Accepts g A (only_below (track_bound f) a)
  satisfied-accepted a finite h =
      let n = Covers-only_below (track_bound f) a finite in
      (of_A.exactly n.0 (only_below (track_bound f) a) n.1).1 ((WSat-only_below f a).0 h)
