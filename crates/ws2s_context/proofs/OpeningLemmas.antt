-- On quantifiers that are opened.
use Rattle.std.proofs.Common.{◌≡◌, ℕ, max, List, [], ◌∷◌, ◌++◌, Contains, refl, ap, subst, ◌∙◌, arith}
use Rattle.std.proofs.Common.{Result, Ok, Err, IfOk, Some, slice_get}
use Rattle.std.proofs.lemmas.List.{map-append}
use Rattle.std.specs.List.{AllByRecursion}
use Rattle.gta_theory.specs.Assignments.{Covers, replace}
use Rattle.gta_theory.proofs.AssignmentsLemmas.{Covers-more, Covers-finite, Covers-replace, IsWithin-more}
use Rattle.gta_theory.proofs.WeightsLemmas.{weight-same, weight-unlisted}
use Rattle.ws2s_core.specs.declared.track.Track.{Track}
use Rattle.ws2s_core.specs.declared.formula.Formula.{Formula}
use Rattle.ws2s_core.specs.declared.formula.Formula.TheVariants.{And, Ex2}
use Rattle.ws2s_core.specs.declared.node.FormulaId.{FormulaId}
use Rattle.ws2s_core.specs.Satisfaction.{Same}
use Rattle.ws2s_core.specs.Tracks.{IsFree}
use Rattle.ws2s_core.proofs.SatisfactionLemmas.{WSat-And, WSat-Ex2}
use Rattle.ws2s_theory.specs.Contexts.{conjoined}
use Rattle.ws2s_theory.proofs.ContextsLemmas.{WSat-quantified, Same-outside_right}
use Rattle.ws2s_core.proofs.NodesLemmas.{formula_at-is, at-formula_at}
use Rattle.ws2s_facts.specs.Conjuncts.{IsThere, formula_of, formulas_at}
use Rattle.ws2s_context.specs.Opening.{IsModel, IsOpened, AreOf}

module _ (tracks : List ℕ) where
  pub IsOpened-refl : (f : Formula) → IsOpened tracks f f
  IsOpened-refl f = record {
    satisfies = λ a finite sat. sat;
    satisfied = λ n a covers sat. record { assignment = a; depth = n; covers = covers; satisfied = sat; is_weight = refl };
  }

  pub IsOpened-trans : (f g h : Formula) → IsOpened tracks f g → IsOpened tracks g h → IsOpened tracks f h
  IsOpened-trans f g h first second = record {
    satisfies = λ a finite sat. first.satisfies a finite (second.satisfies a finite sat);
    satisfied = λ n a covers sat.
        let b = first.satisfied n a covers sat in
        subst (IsModel tracks h) b.is_weight (second.satisfied b.depth b.assignment b.covers b.satisfied);
  }

  pub IsOpened-Same : (f g : Formula) → Same f g → IsOpened tracks f g
  IsOpened-Same f g same = record {
    satisfies = λ a finite sat. (same.satisfied a finite).1 sat;
    satisfied = λ n a covers sat. record {
      assignment = a;
      depth = n;
      covers = covers;
      satisfied = (same.satisfied a (Covers-finite n a covers)).0 sat;
      is_weight = refl;
    };
  }

  -- one quantifier
  pub IsOpened-quantified : (t : Track) (f : Formula) → (Contains tracks t.0 → ⊥) → IsOpened tracks (Ex2 t f) f
  IsOpened-quantified t f unweighed = record {
    satisfies = λ a finite sat. WSat-quantified t f a finite sat;
    satisfied = λ n a covers sat.
        let set = (WSat-Ex2 t f a).0 sat in
        let m : ℕ = max n (set.1).0 in
        let more : Covers m a = Covers-more n m a (omega arith) covers in
        record {
          assignment = replace a t.0 set.0;
          depth = m;
          covers = Covers-replace m a t.0 set.0 more (IsWithin-more (set.1).0 m set.0 (omega arith) (set.1).1);
          satisfied = set.2;
          is_weight = weight-unlisted tracks m t.0 a set.0 unweighed ∙ weight-same tracks m n a more covers;
        };
  }

-- a quantifier goes outside the conjuncts before it
Same-and : (c f g : Formula) → Same f g → Same (And c f) (And c g)
Same-and c f g same = record {
  satisfied = λ a finite. (
    (λ h. (WSat-And c g a).1 (((WSat-And c f a).0 h).0, (same.satisfied a finite).0 ((WSat-And c f a).0 h).1)),
    (λ h. (WSat-And c f a).1 (((WSat-And c g a).0 h).0, (same.satisfied a finite).1 ((WSat-And c g a).0 h).1)),
  );
}

Same-trans : (f g h : Formula) → Same f g → Same g h → Same f h
Same-trans f g h first second = record {
  satisfied = λ a finite. (
    (λ x. (second.satisfied a finite).0 ((first.satisfied a finite).0 x)),
    (λ x. (first.satisfied a finite).1 ((second.satisfied a finite).1 x)),
  );
}

Same-conjoined : (t : Track) (formulas : List Formula) (ids : List FormulaId) (f : Formula) → AllByRecursion (λ c. IsFree t.0 (formula_of formulas c) → ⊥) ids →
    Same (conjoined (formulas_at formulas ids) (Ex2 t f)) (Ex2 t (conjoined (formulas_at formulas ids) f))
Same-conjoined t formulas [] f unbound = record { satisfied = λ a finite. ((λ h. h), (λ h. h)) }
Same-conjoined t formulas (id ∷ ids) f unbound =
    let c : Formula = formula_of formulas id in
    let rest : Formula → Formula = λ g. conjoined (formulas_at formulas ids) g in
    Same-trans (And c (rest (Ex2 t f))) (And c (Ex2 t (rest f))) (Ex2 t (And c (rest f)))
    (Same-and c (rest (Ex2 t f)) (Ex2 t (rest f)) (Same-conjoined t formulas ids f unbound.1))
    (Same-outside_right t c (rest f) unbound.0)

-- a quantifier after conjuncts that haven't its track free
pub IsOpened-conjoined : (tracks : List ℕ) (t : Track) (formulas : List Formula) (ids : List FormulaId) (f : Formula) → (Contains tracks t.0 → ⊥) →
    AllByRecursion (λ c. IsFree t.0 (formula_of formulas c) → ⊥) ids →
    IsOpened tracks (conjoined (formulas_at formulas ids) (Ex2 t f)) (conjoined (formulas_at formulas ids) f)
IsOpened-conjoined tracks t formulas ids f unweighed unbound =
    let rest : Formula → Formula = λ g. conjoined (formulas_at formulas ids) g in
    IsOpened-trans tracks (rest (Ex2 t f)) (Ex2 t (rest f)) (rest f)
    (IsOpened-Same tracks (rest (Ex2 t f)) (Ex2 t (rest f)) (Same-conjoined t formulas ids f unbound))
    (IsOpened-quantified tracks t (rest f) unweighed)

-- one more conjunct at the end
conjoined-push : (cs : List Formula) (f g : Formula) → conjoined (cs ++ f ∷ []) g ≡ conjoined cs (And f g)
conjoined-push [] f g = refl
conjoined-push (c ∷ cs) f g = ap (And c) (conjoined-push cs f g)

pub conjoined-pushed : (formulas : List Formula) (ids new : List FormulaId) (id : FormulaId) (g : Formula) → new ≡ ids ++ id ∷ [] →
    conjoined (formulas_at formulas new) g ≡ conjoined (formulas_at formulas ids) (And (formula_of formulas id) g)
conjoined-pushed formulas ids new id g e =
    ap (λ (xs : List FormulaId). conjoined (formulas_at formulas xs) g) e
    ∙ ap (λ (fs : List Formula). conjoined fs g) (map-append (formula_of formulas) ids (id ∷ []))
    ∙ conjoined-push (formulas_at formulas ids) (formula_of formulas id) g

-- what an opened formula is, by numbers
pub opened-value : {E : Type 0} (old new : List Formula) (weigh : List Track) (id : FormulaId) (r : Result FormulaId E) → IfOk r (IsThere new) →
    IfOk r (λ made. (tracks : List ℕ) → AreOf weigh tracks → IsOpened tracks (formula_of old id) (formula_of new made)) →
    IfOk r (λ made. (f : Formula) → slice_get old id.0 ≡ Some f →
    (g : Formula) × (slice_get new made.0 ≡ Some g) × ((tracks : List ℕ) → AreOf weigh tracks → IsOpened tracks f g))
opened-value old new weigh id (Ok made) there opened = λ f e. (
  formula_of new made,
  at-formula_at new made.0 there,
  λ tracks of. subst (λ h. IsOpened tracks h (formula_of new made)) (formula_at-is old id.0 f e) (opened tracks of),
)
opened-value old new weigh id (Err e) there opened = there
