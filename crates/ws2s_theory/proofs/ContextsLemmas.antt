-- On formulas in a context.
use Rattle.std.proofs.Common.{◌≡◌, ◌⊎◌, ℕ, ◌≤◌, max, Bool, true, false, cond, eqb, ◌↔◌, List, [], ◌∷◌, All, Contains, inl, inr}
use Rattle.std.proofs.Common.{refl, sym, ap, subst, ◌∙◌, arith, eq-eqb}
use Rattle.std.proofs.lemmas.Bool.{cases_eq, false≢true}
use Rattle.std.proofs.lemmas.List.Elements.{All-nil, All-cons, All-head, All-tail, All-weaker}
use Rattle.gta_theory.specs.Assignments.{PositionSet, Assignment, IsFinite, IsFiniteSet, Covers, replace, only_below}
use Rattle.gta_theory.specs.Guides.{Spaces, IsGuide}
use Rattle.gta_theory.specs.Automata.{Automaton, value}
use Rattle.gta_theory.specs.Weights.{weight}
use Rattle.gta_theory.proofs.AssignmentsLemmas.{Covers-more, Covers-finite, Covers-replace, IsWithin-more, replace-same, replace-other}
use Rattle.gta_theory.proofs.AutomataLemmas.{Accepts-at}
use Rattle.gta_theory.proofs.ListsLemmas.{All-from_contains}
use Rattle.gta_theory.proofs.WeightsLemmas.{weight-same, weight-unlisted}
use Rattle.ws2s_core.specs.declared.track.Track.{Track}
use Rattle.ws2s_core.specs.declared.formula.Formula.{Formula}
use Rattle.ws2s_core.specs.declared.formula.Formula.TheVariants.{And, Not, Ex2}
use Rattle.ws2s_core.specs.Satisfaction.{WSat, Same}
use Rattle.ws2s_core.specs.Tracks.{is_free, is_free_in_node, IsFree, track_bound}
use Rattle.ws2s_core.specs.Recognising.{Recognises}
use Rattle.ws2s_core.proofs.FormulaLemmas.{fold-Ex2}
use Rattle.ws2s_core.proofs.SatisfactionLemmas.{WSat-And, WSat-Not, WSat-Ex2}
use Rattle.ws2s_core.proofs.TracksLemmas.{WSat-free, WSat-only_below, Covers-only_below}
use Rattle.ws2s_theory.specs.Contexts.{SatisfiesAll, SameUnder, IsRelevant, Entails, EntailsUnder, conjoined, Rewrites, IsLightestOf}
use Rattle.ws2s_theory.specs.Contexts.{member, left_half, right_half, projected, stays, in_conjunction, in_negation, in_quantifier}

-- replacing sets
pub IsFinite-replace : (a : Assignment) (t : ℕ) (set : PositionSet) → IsFinite a → IsFiniteSet set → IsFinite (replace a t set)
IsFinite-replace a t set finite bounded u = pick (eqb u t)
  where
    pick : (b : Bool) → IsFiniteSet (λ p. cond b (set p) (a u p))
    pick true = bounded
    pick false = finite u

replace-itself : (a : Assignment) (t u : ℕ) → replace a t (a t) u ≡ a u
replace-itself a t u = elim (cases_eq u t) as (λ _. replace a t (a t) u ≡ a u) [
  | inl same ↦ subst (λ v. replace a t (a t) v ≡ a v) (sym same) (replace-same a t (a t))
  | inr other ↦ replace-other a t u (a t) other
]

-- where a track isn't free its set doesn't matter
pub WSat-unbound : (c : Formula) (t : ℕ) (a : Assignment) (set : PositionSet) → (IsFree t c → ⊥) → WSat c a ↔ WSat c (replace a t set)
WSat-unbound c t a set unbound =
    WSat-free c a (replace a t set) (λ u free. sym (replace-other a t u set (λ e. unbound (subst (λ v. IsFree v c) e free))))

-- a quantified track isn't free
pub IsRelevant-unbound : (c f : Formula) (t : Track) → IsRelevant c (Ex2 t f) → IsFree t.0 c → ⊥
IsRelevant-unbound c f t relevant free =
    let none : is_free t.0 (Ex2 t f) ≡ false =
    fold-Ex2 Bool (is_free_in_node t.0) t f ∙ ap (λ b. cond b false (is_free t.0 f)) (eq-eqb t.0 t.0 refl) in
    false≢true (sym none ∙ relevant t.0 free)

-- finite sets that satisfy a formula satisfy it with a track quantified
pub WSat-quantified : (t : Track) (f : Formula) (a : Assignment) → IsFinite a → WSat f a → WSat (Ex2 t f) a
WSat-quantified t f a finite h =
    (WSat-Ex2 t f a).1 (a t.0, finite t.0, (WSat-free f a (replace a t.0 (a t.0)) (λ u free. sym (replace-itself a t.0 u))).0 h)

-- what a context entails holds
pub WSat-entailed : (context : List Formula) (a : Assignment) → IsFinite a → SatisfiesAll context a → (c : Formula) → Entails context c → WSat c a
WSat-entailed context a finite all _ (member c there) = subst (λ d. WSat d a) (there.2) (all there.0 c there.1)
WSat-entailed context a finite all _ (left_half c g both) = ((WSat-And c g a).0 (WSat-entailed context a finite all (And c g) both)).0
WSat-entailed context a finite all _ (right_half f c both) = ((WSat-And f c a).0 (WSat-entailed context a finite all (And f c) both)).1
WSat-entailed context a finite all _ (projected t f entailed) = WSat-quantified t f a finite (WSat-entailed context a finite all f entailed)

pub SatisfiesAll-entailed : (context inner : List Formula) (a : Assignment) → IsFinite a → SatisfiesAll context a → All (Entails context) inner →
    SatisfiesAll inner a
SatisfiesAll-entailed context inner a finite all entailed =
    All-weaker (Entails context) (λ c. WSat c a) (WSat-entailed context a finite all) inner entailed

SatisfiesAll-under : (context inner : List Formula) (t : Track) (a : Assignment) (set : PositionSet) → IsFinite a → SatisfiesAll context a →
    All (EntailsUnder context t.0) inner → SatisfiesAll inner (replace a t.0 set)
SatisfiesAll-under context inner t a set finite all entailed =
    All-weaker (EntailsUnder context t.0) (λ c. WSat c (replace a t.0 set))
    (λ c h. (WSat-unbound c t.0 a set h.unbound).0 (WSat-entailed context a finite all c h.entailed)) inner entailed

-- conjuncts that hold change nothing
WSat-conjoined : (added : List Formula) (f : Formula) (a : Assignment) → SatisfiesAll added a → WSat f a → WSat (conjoined added f) a
WSat-conjoined [] f a all h = h
WSat-conjoined (c ∷ added) f a all h =
    (WSat-And c (conjoined added f) a).1 (
      All-head (λ d. WSat d a) c added all,
      WSat-conjoined added f a (All-tail (λ d. WSat d a) c added all) h,
    )

conjoined-WSat : (added : List Formula) (f : Formula) (a : Assignment) → WSat (conjoined added f) a → WSat f a
conjoined-WSat [] f a h = h
conjoined-WSat (c ∷ added) f a h = conjoined-WSat added f a ((WSat-And c (conjoined added f) a).0 h).1

-- each form, under a context
pub SameUnder-and : (context inner : List Formula) (f g f' g' : Formula) → All (Entails (f ∷ context)) inner → SameUnder context f f' →
    SameUnder inner g g' → SameUnder context (And f g) (And f' g')
SameUnder-and context inner f g f' g' entailed on_left on_right = record {
  satisfied = λ a finite all.
      let both_in : WSat f a → SatisfiesAll inner a =
      λ h. SatisfiesAll-entailed (f ∷ context) inner a finite (All-cons (λ c. WSat c a) f context h all) entailed in (
        (λ h.
            let both = (WSat-And f g a).0 h in
            (WSat-And f' g' a).1 ((on_left.satisfied a finite all).0 both.0, (on_right.satisfied a finite (both_in both.0)).0 both.1)),
        (λ h.
            let both = (WSat-And f' g' a).0 h in
            let first = (on_left.satisfied a finite all).1 both.0 in
            (WSat-And f g a).1 (first, (on_right.satisfied a finite (both_in first)).1 both.1)),
      );
}

pub SameUnder-not : (context : List Formula) (f f' : Formula) → SameUnder context f f' → SameUnder context (Not f) (Not f')
SameUnder-not context f f' same = record {
  satisfied = λ a finite all. (
    (λ h. (WSat-Not f' a).1 (λ k. (WSat-Not f a).0 h ((same.satisfied a finite all).1 k))),
    (λ h. (WSat-Not f a).1 (λ k. (WSat-Not f' a).0 h ((same.satisfied a finite all).0 k))),
  );
}

pub SameUnder-ex2 : (context inner : List Formula) (t : Track) (f f' : Formula) → All (EntailsUnder context t.0) inner → SameUnder inner f f' →
    SameUnder context (Ex2 t f) (Ex2 t f')
SameUnder-ex2 context inner t f f' entailed same = record {
  satisfied = λ a finite all. (
    (λ h.
        let set = (WSat-Ex2 t f a).0 h in
        let inside = SatisfiesAll-under context inner t a set.0 finite all entailed in
        (WSat-Ex2 t f' a).1 (set.0, set.1, (same.satisfied (replace a t.0 set.0) (IsFinite-replace a t.0 set.0 finite set.1) inside).0 set.2)),
    (λ h.
        let set = (WSat-Ex2 t f' a).0 h in
        let inside = SatisfiesAll-under context inner t a set.0 finite all entailed in
        (WSat-Ex2 t f a).1 (set.0, set.1, (same.satisfied (replace a t.0 set.0) (IsFinite-replace a t.0 set.0 finite set.1) inside).1 set.2)),
  );
}

pub SameUnder-trans : (context : List Formula) (f g h : Formula) → SameUnder context f g → SameUnder context g h → SameUnder context f h
SameUnder-trans context f g h first second = record {
  satisfied = λ a finite all.
      let one = first.satisfied a finite all in
      let two = second.satisfied a finite all in
      ((λ k. two.0 (one.0 k)), (λ k. one.1 (two.1 k)));
}

pub SameUnder-entailed : (context inner : List Formula) (f g : Formula) → All (Entails context) inner → SameUnder inner f g → SameUnder context f g
SameUnder-entailed context inner f g entailed same = record {
  satisfied = λ a finite all. same.satisfied a finite (SatisfiesAll-entailed context inner a finite all entailed);
}

pub SameUnder-refl : (context : List Formula) (f : Formula) → SameUnder context f f
SameUnder-refl context f = record { satisfied = λ a finite all. ((λ h. h), (λ h. h)) }

pub SameUnder-sym : (context : List Formula) (f g : Formula) → SameUnder context f g → SameUnder context g f
SameUnder-sym context f g same = record {
  satisfied = λ a finite all. ((same.satisfied a finite all).1, (same.satisfied a finite all).0);
}

-- a context entails its conjuncts
pub All-members : (context : List Formula) → All (Entails context) context
All-members context = All-from_contains (Entails context) context (λ c there. member c there)

pub All-members_under : (context : List Formula) (t : ℕ) → All (λ c. IsFree t c → ⊥) context → All (EntailsUnder context t) context
All-members_under context t unbound = All-from_contains (EntailsUnder context t) context (λ c there. record {
  entailed = member c there;
  unbound = subst (λ d. IsFree t d → ⊥) there.2 (unbound there.0 c there.1);
})

pub SameUnder-conjoined : (context added : List Formula) (f : Formula) → All (Entails context) added → SameUnder context f (conjoined added f)
SameUnder-conjoined context added f entailed = record {
  satisfied = λ a finite all. (
    (λ h. WSat-conjoined added f a (SatisfiesAll-entailed context added a finite all entailed) h),
    (λ h. conjoined-WSat added f a h),
  );
}

-- a rewriting is the same in its context
pub SameUnder-rewritten : (context : List Formula) (f h : Formula) → Rewrites context f h → SameUnder context f h
SameUnder-rewritten _ _ _ (stays context f) = SameUnder-refl context f
SameUnder-rewritten _ _ _ (in_conjunction context inner f g f' g' entailed on_left on_right) =
    SameUnder-and context inner f g f' g' entailed (SameUnder-rewritten context f f' on_left) (SameUnder-rewritten inner g g' on_right)
SameUnder-rewritten _ _ _ (in_negation context added f f' entailed inside) =
    SameUnder-trans context (Not f) (Not f') (conjoined added (Not f')) (SameUnder-not context f f' (SameUnder-rewritten context f f' inside))
    (SameUnder-conjoined context added (Not f') entailed)
SameUnder-rewritten _ _ _ (in_quantifier context inner added t f f' kept entailed inside) =
    SameUnder-ex2 context inner t f (conjoined added f') kept
    (SameUnder-trans inner f f' (conjoined added f') (SameUnder-rewritten inner f f' inside) (SameUnder-conjoined inner added f' entailed))

-- without a context
pub SameUnder-Same : (f g : Formula) → SameUnder [] f g → Same f g
SameUnder-Same f g same = record { satisfied = λ a finite. same.satisfied a finite (All-nil (λ c. WSat c a)) }

pub Same-SameUnder : (context : List Formula) (f g : Formula) → Same f g → SameUnder context f g
Same-SameUnder context f g same = record { satisfied = λ a finite all. same.satisfied a finite }

pub Same-sym : (f g : Formula) → Same f g → Same g f
Same-sym f g same = record { satisfied = λ a finite. ((same.satisfied a finite).1, (same.satisfied a finite).0) }

-- a quantifier, and satisfiability and least weights
pub satisfiable-quantified : (t : Track) (f : Formula) →
    ((a : Assignment) × IsFinite a × WSat (Ex2 t f) a) ↔ ((a : Assignment) × IsFinite a × WSat f a)
satisfiable-quantified t f = (
  (λ h.
      let set = (WSat-Ex2 t f h.0).0 h.2 in
      (replace h.0 t.0 set.0, IsFinite-replace h.0 t.0 set.0 h.1 set.1, set.2)),
  (λ h. (h.0, h.1, WSat-quantified t f h.0 h.1 h.2)),
)

module _ (tracks : List ℕ) (t : Track) (f : Formula) (unweighed : Contains tracks t.0 → ⊥) where
  -- an assignment with the quantified track chosen weighs the same
  chosen : (n : ℕ) (a : Assignment) → Covers n a → WSat (Ex2 t f) a →
      (m : ℕ) × (b : Assignment) × Covers m b × WSat f b × (weight tracks m b ≡ weight tracks n a)
  chosen n a covers h =
      let set = (WSat-Ex2 t f a).0 h in
      let m : ℕ = max n (set.1).0 in
      let more : Covers m a = Covers-more n m a (omega arith) covers in
      let in_m : Covers m (replace a t.0 set.0) = Covers-replace m a t.0 set.0 more (IsWithin-more (set.1).0 m set.0 (omega arith) (set.1).1) in
      (m, replace a t.0 set.0, in_m, set.2, weight-unlisted tracks m t.0 a set.0 unweighed ∙ weight-same tracks m n a more covers)

  pub IsLightestOf-quantified : (w : ℕ) → IsLightestOf tracks (Ex2 t f) w ↔ IsLightestOf tracks f w
  IsLightestOf-quantified w = (
    (λ h.
        let b = chosen h.depth h.assignment h.covers h.satisfied in
        record {
          assignment = b.1;
          depth = b.0;
          covers = b.2;
          satisfied = b.3;
          is_weight = b.4 ∙ h.is_weight;
          least = λ n a covers sat. h.least n a covers (WSat-quantified t f a (Covers-finite n a covers) sat);
        }),
    (λ h. record {
      assignment = h.assignment;
      depth = h.depth;
      covers = h.covers;
      satisfied = WSat-quantified t f h.assignment (Covers-finite h.depth h.assignment h.covers) h.satisfied;
      is_weight = h.is_weight;
      least = λ n a covers sat. (let b = chosen n a covers sat in subst (λ v. w ≤ v) b.4 (h.least b.0 b.1 b.2 b.3));
    }),
  )

-- a quantifier outside a conjunction
pub Same-outside_right : (t : Track) (f g : Formula) → (IsFree t.0 f → ⊥) → Same (And f (Ex2 t g)) (Ex2 t (And f g))
Same-outside_right t f g unbound = record {
  satisfied = λ a finite. (
    (λ h.
        let both = (WSat-And f (Ex2 t g) a).0 h in
        let set = (WSat-Ex2 t g a).0 both.1 in
        (WSat-Ex2 t (And f g) a).1 (set.0, set.1, (WSat-And f g (replace a t.0 set.0)).1 ((WSat-unbound f t.0 a set.0 unbound).0 both.0, set.2))),
    (λ h.
        let set = (WSat-Ex2 t (And f g) a).0 h in
        let both = (WSat-And f g (replace a t.0 set.0)).0 set.2 in
        (WSat-And f (Ex2 t g) a).1 ((WSat-unbound f t.0 a set.0 unbound).1 both.0, (WSat-Ex2 t g a).1 (set.0, set.1, both.1))),
  );
}

pub Same-outside_left : (t : Track) (f g : Formula) → (IsFree t.0 g → ⊥) → Same (And (Ex2 t f) g) (Ex2 t (And f g))
Same-outside_left t f g unbound = record {
  satisfied = λ a finite. (
    (λ h.
        let both = (WSat-And (Ex2 t f) g a).0 h in
        let set = (WSat-Ex2 t f a).0 both.0 in
        (WSat-Ex2 t (And f g) a).1 (set.0, set.1, (WSat-And f g (replace a t.0 set.0)).1 (set.2, (WSat-unbound g t.0 a set.0 unbound).0 both.1))),
    (λ h.
        let set = (WSat-Ex2 t (And f g) a).0 h in
        let both = (WSat-And f g (replace a t.0 set.0)).0 set.2 in
        (WSat-And (Ex2 t f) g a).1 ((WSat-Ex2 t f a).1 (set.0, set.1, both.0), (WSat-unbound g t.0 a set.0 unbound).1 both.1)),
  );
}

-- an automaton decides
pub WSat-decided : {Q : Type 0} (g : Spaces) (A : Automaton Q) (f : Formula) (a : Assignment) → IsGuide g → Recognises g A f → IsFinite a →
    WSat f a ⊎ (WSat f a → ⊥)
WSat-decided g A f a guide of_A finite = pick (A.accepting (value g A 0 n.0 (only_below (track_bound f) a))) refl
  where
    n : (m : ℕ) × Covers m (only_below (track_bound f) a)
    n = Covers-only_below (track_bound f) a finite

    pick : (b : Bool) → A.accepting (value g A 0 n.0 (only_below (track_bound f) a)) ≡ b → WSat f a ⊎ (WSat f a → ⊥)
    pick true accepted =
        inl ((WSat-only_below f a).1 ((of_A.exactly n.0 (only_below (track_bound f) a) n.1).0 (record { depth = n.0; covers = n.1; accepted = accepted })))
    pick false rejected = inr (λ h.
        let accepts = (of_A.exactly n.0 (only_below (track_bound f) a) n.1).1 ((WSat-only_below f a).0 h) in
        false≢true (sym rejected ∙ Accepts-at g guide A of_A.stable n.0 (only_below (track_bound f) a) n.1 accepts))

pub WSat-not_not : {Q : Type 0} (g : Spaces) (A : Automaton Q) (f : Formula) (a : Assignment) → IsGuide g → Recognises g A f → IsFinite a →
    ((WSat f a → ⊥) → ⊥) → WSat f a
WSat-not_not g A f a guide of_A finite h = elim (WSat-decided g A f a guide of_A finite) as (λ _. WSat f a) [
  | inl is ↦ is
  | inr not ↦ absurd (h not)
]
