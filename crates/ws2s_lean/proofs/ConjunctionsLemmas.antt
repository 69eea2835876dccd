-- On conjunctions that are refolded.
use Rattle.std.proofs.Common.{◌≡◌, ◌<◌, ◌↔◌, List, [], ◌∷◌, ◌++◌, length, slice_get, All, Contains, Some}
use Rattle.std.proofs.Common.{refl, sym, subst, ◌∙◌, arith}
use Rattle.std.proofs.lemmas.List.Elements.{All-nil, All-cons, All-head, All-tail, All-weaker, All-push, All-pop, All-contains}
use Rattle.gta_theory.specs.Assignments.{Assignment}
use Rattle.ws2s_core.specs.declared.track.Track.{Track}
use Rattle.ws2s_core.specs.declared.formula.Formula.{Formula}
use Rattle.ws2s_core.specs.declared.formula.Formula.TheVariants.{And, Not, Ex2}
use Rattle.ws2s_core.specs.declared.node.FormulaId.{FormulaId}
use Rattle.ws2s_core.specs.declared.node.Node.{Node}
use Rattle.ws2s_core.specs.Nodes.{formula_of_node, Extends}
use Rattle.ws2s_core.specs.Satisfaction.{Same, WSat}
use Rattle.ws2s_core.proofs.NodesLemmas.{formula_at-is, at-formula_at}
use Rattle.ws2s_core.proofs.SatisfactionLemmas.{WSat-And}
use Rattle.ws2s_theory.proofs.ContextsLemmas.{SameUnder-not, SameUnder-ex2, SameUnder-Same, Same-SameUnder}
use Rattle.ws2s_theory.specs.Contexts.{EntailsUnder}
use Rattle.ws2s_lean.specs.declared.leaned.Leaning.{Leaning}
use Rattle.ws2s_lean.specs.Conjunctions.{IsThere, formula_of, SatisfiesEach, IsConjunction, IsLeaned, AreLeaned, IsFolded}
use Rattle.ws2s_lean.proofs.NumbersLemmas.{at-extends, there-extends, made-And, made-Not, made-Ex2, there-made}

-- formulas that the same assignments satisfy
Same-refl : (f : Formula) → Same f f
Same-refl f = record { satisfied = λ a finite. ((λ h. h), (λ h. h)) }

pub Same-trans : (f g h : Formula) → Same f g → Same g h → Same f h
Same-trans f g h first second = record {
  satisfied = λ a finite. (
    (λ x. (second.satisfied a finite).0 ((first.satisfied a finite).0 x)),
    (λ x. (first.satisfied a finite).1 ((second.satisfied a finite).1 x)),
  );
}

Same-and : (c f g : Formula) → Same f g → Same (And c f) (And c g)
Same-and c f g same = record {
  satisfied = λ a finite. (
    (λ h. (WSat-And c g a).1 (((WSat-And c f a).0 h).0, (same.satisfied a finite).0 ((WSat-And c f a).0 h).1)),
    (λ h. (WSat-And c f a).1 (((WSat-And c g a).0 h).0, (same.satisfied a finite).1 ((WSat-And c g a).0 h).1)),
  );
}

Same-not : (f g : Formula) → Same f g → Same (Not f) (Not g)
Same-not f g same = SameUnder-Same (Not f) (Not g) (SameUnder-not [] f g (Same-SameUnder [] f g same))

Same-ex2 : (t : Track) (f g : Formula) → Same f g → Same (Ex2 t f) (Ex2 t g)
Same-ex2 t f g same = SameUnder-Same (Ex2 t f) (Ex2 t g) (SameUnder-ex2 [] [] t f g (All-nil (EntailsUnder [] t.0)) (Same-SameUnder [] f g same))

-- a formula stands for itself
pub IsLeaned-itself : (formulas : List Formula) (id : FormulaId) → IsThere formulas id → IsLeaned formulas id id
IsLeaned-itself formulas id there = record { from_there = there; to_there = there; same = Same-refl (formula_of formulas id) }

-- what a formula was refolded to, by the formula that was made
IsLeaned-made : (old new : List Formula) (id made : FormulaId) (f : Formula) → Extends old new → IsThere old id → Same (formula_of old id) f →
    formula_of new made ≡ f → IsThere new made → IsLeaned new id made
IsLeaned-made old new id made f h there same is made_there = record {
  from_there = there-extends old new id h there;
  to_there = made_there;
  same = subst (λ (x : Formula). Same x (formula_of new made)) (sym (at-extends old new id h there))
      (subst (λ (x : Formula). Same (formula_of old id) x) (sym is) same);
}

IsLeaned-extends : (old new : List Formula) (id to : FormulaId) → Extends old new → IsLeaned old id to → IsLeaned new id to
IsLeaned-extends old new id to h was =
    IsLeaned-made old new id to (formula_of old to) h was.from_there was.same (at-extends old new to h was.to_there)
    (there-extends old new to h was.to_there)

pub AreLeaned-extends : (old new : List Formula) (made : List Leaning) → Extends old new → AreLeaned old made → AreLeaned new made
AreLeaned-extends old new made h all =
    All-weaker (λ (l : Leaning). IsLeaned old l.from l.to) (λ (l : Leaning). IsLeaned new l.from l.to)
    (λ l was. IsLeaned-extends old new l.from l.to h was) made all

pub IsLeaned-negation : (old new : List Formula) (id f inner made : FormulaId) → Extends old new → IsThere old id →
    formula_of old id ≡ Not (formula_of old f) → IsLeaned old f inner → slice_get new made.0 ≡ Some (formula_of_node old (Node.Not inner)) →
    IsLeaned new id made
IsLeaned-negation old new id f inner made h there is on_inner value =
    IsLeaned-made old new id made (Not (formula_of old inner)) h there
    (subst (λ (x : Formula). Same x (Not (formula_of old inner))) (sym is) (Same-not (formula_of old f) (formula_of old inner) on_inner.same))
    (made-Not old new made inner value) (there-made new made.0 _ value)

pub IsLeaned-quantifier : (old new : List Formula) (id : FormulaId) (t : Track) (f inner made : FormulaId) → Extends old new → IsThere old id →
    formula_of old id ≡ Ex2 t (formula_of old f) → IsLeaned old f inner → slice_get new made.0 ≡ Some (formula_of_node old (Node.Ex2 t inner)) →
    IsLeaned new id made
IsLeaned-quantifier old new id t f inner made h there is on_inner value =
    IsLeaned-made old new id made (Ex2 t (formula_of old inner)) h there
    (subst (λ (x : Formula). Same x (Ex2 t (formula_of old inner))) (sym is) (Same-ex2 t (formula_of old f) (formula_of old inner) on_inner.same))
    (made-Ex2 old new t made inner value) (there-made new made.0 _ value)

-- a list without its last one
popped : {X : Type 0} (P : X → Type 0) (xs : List X) (x : X) → All P (xs ++ x ∷ []) → All P xs × P x
popped P xs x all = All-pop P (xs ++ x ∷ []) xs (Some x) refl all

-- one formula is its own conjunction
pub IsConjunction-one : (formulas : List Formula) (none : List FormulaId) (id : FormulaId) → none ≡ [] → IsThere formulas id →
    IsConjunction formulas (formula_of formulas id) (none ++ id ∷ [])
IsConjunction-one formulas none id e there = record {
  there = subst (λ (ids : List FormulaId). All (IsThere formulas) (ids ++ id ∷ [])) (sym e)
      (All-cons (IsThere formulas) id [] there (All-nil (IsThere formulas)));
  exactly = λ a finite.
      let P : FormulaId → Type 0 = λ one. WSat (formula_of formulas one) a in (
        (λ sat. subst (λ (ids : List FormulaId). All P (ids ++ id ∷ [])) (sym e) (All-cons P id [] sat (All-nil P))),
        (λ all. All-head P id [] (subst (λ (ids : List FormulaId). All P (ids ++ id ∷ [])) e all)),
      );
}

-- the last one taken apart
pub IsConjunction-step : (formulas : List Formula) (f : Formula) (ids new : List FormulaId) (last g h : FormulaId) → new ≡ ids ++ g ∷ [] →
    formula_of formulas last ≡ And (formula_of formulas g) (formula_of formulas h) → (g.0 < last.0) × (h.0 < last.0) →
    IsConjunction formulas f (ids ++ last ∷ []) → IsConjunction formulas f (new ++ h ∷ [])
IsConjunction-step formulas f ids new last g h e is below was = record {
  there =
      let split = popped (IsThere formulas) ids last was.there in
      let last_there : last.0 < length formulas = split.1 in
      let g_there : g.0 < length formulas = omega (arith, last_there, below.0) in
      let h_there : h.0 < length formulas = omega (arith, last_there, below.1) in
      subst (λ (some : List FormulaId). All (IsThere formulas) (some ++ h ∷ [])) (sym e)
      (All-push (IsThere formulas) (ids ++ g ∷ []) h (All-push (IsThere formulas) ids g split.0 g_there) h_there);
  exactly = λ a finite.
      let P : FormulaId → Type 0 = λ one. WSat (formula_of formulas one) a in (
        (λ sat.
            let split = popped P ids last ((was.exactly a finite).0 sat) in
            let both = (WSat-And (formula_of formulas g) (formula_of formulas h) a).0 (subst (λ (w : Formula). WSat w a) is split.1) in
            subst (λ (some : List FormulaId). All P (some ++ h ∷ [])) (sym e) (All-push P (ids ++ g ∷ []) h (All-push P ids g split.0 both.0) both.1)),
        (λ all.
            let outer = popped P (ids ++ g ∷ []) h (subst (λ (some : List FormulaId). All P (some ++ h ∷ [])) e all) in
            let inner = popped P ids g outer.0 in
            let whole : WSat (formula_of formulas last) a = subst (λ (w : Formula). WSat w a) (sym is)
            ((WSat-And (formula_of formulas g) (formula_of formulas h) a).1 (inner.1, outer.1)) in
            (was.exactly a finite).1 (All-push P ids last inner.0 whole)),
      );
}

-- a conjunct that was folded
pub Same-folded : (formulas : List Formula) (whole conjunct : FormulaId) (ids : List FormulaId) →
    IsConjunction formulas (formula_of formulas whole) ids → Contains ids conjunct →
    Same (And (formula_of formulas whole) (formula_of formulas conjunct)) (formula_of formulas whole)
Same-folded formulas whole conjunct ids conjunction there = record {
  satisfied = λ a finite. (
    (λ h. ((WSat-And (formula_of formulas whole) (formula_of formulas conjunct) a).0 h).0),
    (λ h. (WSat-And (formula_of formulas whole) (formula_of formulas conjunct) a).1 (
      h,
      All-contains (λ id. WSat (formula_of formulas id) a) ids conjunct ((conjunction.exactly a finite).0 h) there,
    )),
  );
}

-- a conjunct that wasn't
pub Same-made : (old new : List Formula) (whole conjunct made : FormulaId) → slice_get new made.0 ≡ Some (formula_of_node old (Node.And whole conjunct)) →
    Same (And (formula_of old whole) (formula_of old conjunct)) (formula_of new made)
Same-made old new whole conjunct made value =
    subst (λ (x : Formula). Same (And (formula_of old whole) (formula_of old conjunct)) x) (sym (made-And old new made whole conjunct value))
    (Same-refl (And (formula_of old whole) (formula_of old conjunct)))

all_there-extends : (old new : List Formula) (ids : List FormulaId) → Extends old new → All (IsThere old) ids → All (IsThere new) ids
all_there-extends old new ids h all = All-weaker (IsThere old) (IsThere new) (λ id there. there-extends old new id h there) ids all

-- formulas keep what satisfies them
SatisfiesEach-extends : (old new : List Formula) (ids : List FormulaId) (a : Assignment) → Extends old new → All (IsThere old) ids →
    SatisfiesEach old ids a ↔ SatisfiesEach new ids a
SatisfiesEach-extends old new [] a h all = (
  (λ _. All-nil (λ id. WSat (formula_of new id) a)),
  (λ _. All-nil (λ id. WSat (formula_of old id) a)),
)
SatisfiesEach-extends old new (id ∷ ids) a h all =
    let P : FormulaId → Type 0 = λ one. WSat (formula_of old one) a in
    let Q : FormulaId → Type 0 = λ one. WSat (formula_of new one) a in
    let e = at-extends old new id h (All-head (IsThere old) id ids all) in
    let rest = SatisfiesEach-extends old new ids a h (All-tail (IsThere old) id ids all) in (
      (λ each. All-cons Q id ids (subst (λ (f : Formula). WSat f a) (sym e) (All-head P id ids each)) (rest.0 (All-tail P id ids each))),
      (λ each. All-cons P id ids (subst (λ (f : Formula). WSat f a) e (All-head Q id ids each)) (rest.1 (All-tail Q id ids each))),
    )

pub IsConjunction-added : (old new : List Formula) (whole conjunct made : FormulaId) (ids more : List FormulaId) → Extends old new →
    IsConjunction old (formula_of old whole) ids → IsThere old conjunct → slice_get new made.0 ≡ Some (formula_of_node old (Node.And whole conjunct)) →
    more ≡ ids ++ conjunct ∷ [] → IsConjunction new (formula_of new made) more
IsConjunction-added old new whole conjunct made ids more h was there value e = record {
  there = subst (λ (some : List FormulaId). All (IsThere new) some) (sym e)
      (All-push (IsThere new) ids conjunct (all_there-extends old new ids h was.there) (there-extends old new conjunct h there));
  exactly = λ a finite.
      let P : FormulaId → Type 0 = λ one. WSat (formula_of new one) a in
      let is = made-And old new made whole conjunct value in
      let same = at-extends old new conjunct h there in
      let each = SatisfiesEach-extends old new ids a h was.there in (
        (λ sat.
            let both = (WSat-And (formula_of old whole) (formula_of old conjunct) a).0 (subst (λ (f : Formula). WSat f a) is sat) in
            subst (λ (some : List FormulaId). All P some) (sym e)
            (All-push P ids conjunct (each.0 ((was.exactly a finite).0 both.0)) (subst (λ (f : Formula). WSat f a) (sym same) both.1))),
        (λ all.
            let split = popped P ids conjunct (subst (λ (some : List FormulaId). All P some) e all) in
            subst (λ (f : Formula). WSat f a) (sym is) ((WSat-And (formula_of old whole) (formula_of old conjunct) a).1 (
              (was.exactly a finite).1 (each.1 split.0),
              subst (λ (f : Formula). WSat f a) same split.1,
            ))),
      );
}

-- nothing is left to be folded
pub IsFolded-none : (formulas : List Formula) (f : Formula) (none : List FormulaId) → none ≡ [] → IsFolded formulas f none f
IsFolded-none formulas f none e = record {
  exactly = λ a finite.
      let P : FormulaId → Type 0 = λ one. WSat (formula_of formulas one) a in (
        (λ sat. (sat, subst (λ (some : List FormulaId). All P some) (sym e) (All-nil P))),
        (λ both. both.0),
      );
}

-- the next conjunct is folded
pub IsFolded-step : (old now : List Formula) (f f' g : Formula) (id to : FormulaId) (rest more : List FormulaId) → Extends old now →
    rest ≡ id ∷ more → IsLeaned old id to → Same (And f (formula_of now to)) f' → IsFolded old f' more g → IsFolded old f rest g
IsFolded-step old now f f' g id to rest more h e leaned added was =
    let whole : Same (And f (formula_of old id)) f' = Same-trans (And f (formula_of old id)) (And f (formula_of now to)) f'
    (Same-and f (formula_of old id) (formula_of now to)
    (subst (λ (x : Formula). Same (formula_of old id) x) (sym (at-extends old now to h leaned.to_there)) leaned.same)) added in
    record {
      exactly = λ a finite.
          let P : FormulaId → Type 0 = λ one. WSat (formula_of old one) a in (
            (λ sat.
                let both = (was.exactly a finite).0 sat in
                let two = (WSat-And f (formula_of old id) a).0 ((whole.satisfied a finite).1 both.0) in
                (two.0, subst (λ (some : List FormulaId). All P some) (sym e) (All-cons P id more two.1 both.1))),
            (λ both.
                let all = subst (λ (some : List FormulaId). All P some) e both.1 in
                (was.exactly a finite).1 (
                  (whole.satisfied a finite).0 ((WSat-And f (formula_of old id) a).1 (both.0, All-head P id more all)),
                  All-tail P id more all,
                )),
          );
    }

-- all conjuncts were folded
pub IsLeaned-refolded : (old new : List Formula) (id first to made : FormulaId) (ids more : List FormulaId) → Extends old new → IsThere old id →
    IsConjunction old (formula_of old id) ids → ids ≡ first ∷ more → IsLeaned old first to → IsThere new made →
    IsFolded old (formula_of old to) more (formula_of new made) → IsLeaned new id made
IsLeaned-refolded old new id first to made ids more h there conjunction e leaned made_there folded =
    IsLeaned-made old new id made (formula_of new made) h there
    (record {
      satisfied = λ a finite.
          let P : FormulaId → Type 0 = λ one. WSat (formula_of old one) a in (
            (λ sat.
                let all = subst (λ (some : List FormulaId). All P some) e ((conjunction.exactly a finite).0 sat) in
                (folded.exactly a finite).1 ((leaned.same.satisfied a finite).0 (All-head P first more all), All-tail P first more all)),
            (λ sat.
                let both = (folded.exactly a finite).0 sat in
                (conjunction.exactly a finite).1 (subst (λ (some : List FormulaId). All P some) (sym e)
                (All-cons P first more ((leaned.same.satisfied a finite).1 both.0) both.1))),
          );
    })
    refl made_there

-- what a formula was refolded to, by numbers
pub leaned-value : (old new : List Formula) (id made : FormulaId) → Extends old new → IsThere old id → IsLeaned new id made →
    (f : Formula) → slice_get old id.0 ≡ Some f → (g : Formula) × (slice_get new made.0 ≡ Some g) × Same f g
leaned-value old new id made h there leaned f e = (
  formula_of new made,
  at-formula_at new made.0 leaned.to_there,
  subst (λ (x : Formula). Same x (formula_of new made)) (at-extends old new id h there ∙ formula_at-is old id.0 f e) leaned.same,
)
