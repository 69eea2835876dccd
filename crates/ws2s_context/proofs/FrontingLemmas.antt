-- On chains with a formula in front.
use Rattle.std.proofs.Common.{◌≡◌, ◌<◌, List, [], ◌∷◌, ◌++◌, length, All, Some, refl, sym, subst, arith}
use Rattle.std.proofs.lemmas.List.Elements.{All-nil, All-push, All-pop}
use Rattle.ws2s_core.specs.declared.formula.Formula.{Formula}
use Rattle.ws2s_core.specs.declared.formula.Formula.TheVariants.{And}
use Rattle.ws2s_core.specs.declared.node.FormulaId.{FormulaId}
use Rattle.ws2s_core.specs.Satisfaction.{Same, WSat}
use Rattle.ws2s_core.proofs.SatisfactionLemmas.{WSat-And}
use Rattle.ws2s_theory.specs.Contexts.{SameUnder}
use Rattle.ws2s_lean.specs.Conjunctions.{IsConjunction}
use Rattle.ws2s_facts.specs.Conjuncts.{IsThere, formula_of}
use Rattle.ws2s_context.specs.Fronting.{IsFronting}
use Rattle.ws2s_context.proofs.GoingLemmas.{SameUnder-beside}

-- a list without its last one
popped : {X : Type 0} (P : X → Type 0) (xs : List X) (x : X) → All P (xs ++ x ∷ []) → All P xs × P x
popped P xs x all = All-pop P (xs ++ x ∷ []) xs (Some x) refl all

-- the first one taken apart: its right half comes to the others
pub IsConjunction-left : (formulas : List Formula) (f : Formula) (ids new : List FormulaId) (first g h : FormulaId) → new ≡ ids ++ h ∷ [] →
    formula_of formulas first ≡ And (formula_of formulas g) (formula_of formulas h) → (g.0 < first.0) × (h.0 < first.0) →
    IsConjunction formulas f (ids ++ first ∷ []) → IsConjunction formulas f (new ++ g ∷ [])
IsConjunction-left formulas f ids new first g h e is below was = record {
  there =
      let split = popped (IsThere formulas) ids first was.there in
      let first_there : first.0 < length formulas = split.1 in
      let g_there : g.0 < length formulas = omega (arith, first_there, below.0) in
      let h_there : h.0 < length formulas = omega (arith, first_there, below.1) in
      subst (λ (some : List FormulaId). All (IsThere formulas) (some ++ g ∷ [])) (sym e)
      (All-push (IsThere formulas) (ids ++ h ∷ []) g (All-push (IsThere formulas) ids h split.0 h_there) g_there);
  exactly = λ a finite.
      let P : FormulaId → Type 0 = λ one. WSat (formula_of formulas one) a in (
        (λ sat.
            let split = popped P ids first ((was.exactly a finite).0 sat) in
            let both = (WSat-And (formula_of formulas g) (formula_of formulas h) a).0 (subst (λ (w : Formula). WSat w a) is split.1) in
            subst (λ (some : List FormulaId). All P (some ++ g ∷ [])) (sym e) (All-push P (ids ++ h ∷ []) g (All-push P ids h split.0 both.1) both.0)),
        (λ all.
            let outer = popped P (ids ++ h ∷ []) g (subst (λ (some : List FormulaId). All P (some ++ g ∷ [])) e all) in
            let inner = popped P ids h outer.0 in
            let whole : WSat (formula_of formulas first) a = subst (λ (w : Formula). WSat w a) (sym is)
            ((WSat-And (formula_of formulas g) (formula_of formulas h) a).1 (outer.1, inner.1)) in
            (was.exactly a finite).1 (All-push P ids first inner.0 whole)),
      );
}

-- the first conjunct is conjoined to what is known
pub IsFronting-first : (formulas : List Formula) (known made : Formula) (first : FormulaId) (others : List FormulaId) →
    made ≡ And known (formula_of formulas first) → IsFronting formulas known (others ++ first ∷ []) made others
IsFronting-first formulas known made first others is = record {
  exactly = λ a finite.
      let P : FormulaId → Type 0 = λ one. WSat (formula_of formulas one) a in (
        (λ h.
            let both = (WSat-And known (formula_of formulas first) a).0 (subst (λ (f : Formula). WSat f a) is h.0) in
            (both.0, All-push P others first h.1 both.1)),
        (λ h.
            let split = popped P others first h.1 in
            (subst (λ (f : Formula). WSat f a) (sym is) ((WSat-And known (formula_of formulas first) a).1 (h.0, split.1)), split.0)),
      );
}

-- the next one is conjoined
pub IsFronting-next : (formulas : List Formula) (known made more : Formula) (ids left rest : List FormulaId) (id : FormulaId) → left ≡ rest ++ id ∷ [] →
    more ≡ And made (formula_of formulas id) → IsFronting formulas known ids made left → IsFronting formulas known ids more rest
IsFronting-next formulas known made more ids left rest id e is was = record {
  exactly = λ a finite.
      let P : FormulaId → Type 0 = λ one. WSat (formula_of formulas one) a in (
        (λ h.
            let both = (WSat-And made (formula_of formulas id) a).0 (subst (λ (f : Formula). WSat f a) is h.0) in
            (was.exactly a finite).0 (both.0, subst (λ (some : List FormulaId). All P some) (sym e) (All-push P rest id h.1 both.1))),
        (λ h.
            let before = (was.exactly a finite).1 h in
            let split = popped P rest id (subst (λ (some : List FormulaId). All P some) e before.1) in
            (subst (λ (f : Formula). WSat f a) (sym is) ((WSat-And made (formula_of formulas id) a).1 (before.0, split.1)), split.0)),
      );
}

-- none is left
pub Same-fronted : (formulas : List Formula) (known made f : Formula) (ids left : List FormulaId) → left ≡ [] →
    IsFronting formulas known ids made left → IsConjunction formulas f ids → Same (And known f) made
Same-fronted formulas known made f ids left e fronting conjunction = record {
  satisfied = λ a finite.
      let P : FormulaId → Type 0 = λ one. WSat (formula_of formulas one) a in (
        (λ h.
            let both = (WSat-And known f a).0 h in
            ((fronting.exactly a finite).1 (both.0, (conjunction.exactly a finite).0 both.1)).0),
        (λ h.
            let both = (fronting.exactly a finite).0 (h, subst (λ (some : List FormulaId). All P some) (sym e) (All-nil P)) in
            (WSat-And known f a).1 (both.0, (conjunction.exactly a finite).1 both.1)),
      );
}

-- beside what is known
pub SameUnder-fronted : (known f made : Formula) → Same (And known f) made → SameUnder (known ∷ []) f made
SameUnder-fronted known f made same = record {
  satisfied = λ a finite all.
      let beside = (SameUnder-beside known f).satisfied a finite all in
      ((λ h. (same.satisfied a finite).0 (beside.0 h)), (λ h. beside.1 ((same.satisfied a finite).1 h)));
}
