use Rattle.std.proofs.Common.{◌∙◌, List, ap, sym, subst}
use Rattle.std.specs.List.{AllByRecursion}
use Rattle.ws2s_core.specs.declared.node.FormulaId.{FormulaId}
use Rattle.ws2s_core.specs.Tracks.{IsFree}
use Rattle.ws2s_core.specs.declared.formula.Formula.{Formula}
use Rattle.ws2s_core.specs.declared.formula.Formula.TheVariants.{rolls-And, rolls-Ex2}
use Rattle.ws2s_core.specs.Nodes.{formula_of_node}
use Rattle.ws2s_core.proofs.NodesLemmas.{formula_at-is}
use Rattle.ws2s_theory.specs.Contexts.{conjoined}
use Rattle.ws2s_facts.specs.Conjuncts.{formula_of, formulas_at}
use Rattle.ws2s_context.specs.Opening.{IsOpened, spined}
use Rattle.ws2s_context.proofs.OpeningLemmas.{IsOpened-refl, IsOpened-conjoined, conjoined-pushed}
use Rattle.ws2s_context.proofs.opening.descend.Goals as goal

pub returns-in_ok-push-in-And-clause-opened : goal.returns-in_ok-push-in-And-clause-opened
returns-in_ok-push-in-And-clause-opened c = λ tracks of.
    let fs = c.args.interner.now in
    let old = c.args.spine.now in
    let same = ap (conjoined (formulas_at fs old.conjuncts.items))
    (formula_at-is fs old.last.0 _ (sym c.in-Some.ensures.value) ∙ ap (formula_of_node fs) c.in-And.is
    ∙ rolls-And (formula_of fs c.in-And.f) (formula_of fs c.in-And.g)) in
    subst (IsOpened tracks (spined fs old))
    (same ∙ sym (conjoined-pushed fs old.conjuncts.items _ c.in-And.f (formula_of fs c.in-And.g) c.in_ok-push-in-And.ensures.items))
    (IsOpened-refl tracks (spined fs old))

pub returns-then-may-clause-opened : goal.returns-then-may-clause-opened
returns-then-may-clause-opened c = λ tracks of.
    let fs = c.args.interner.now in
    let old = c.args.spine.now in
    let same = ap (conjoined (formulas_at fs old.conjuncts.items))
    (formula_at-is fs old.last.0 _ (sym c.in-Some.ensures.value) ∙ ap (formula_of_node fs) c.in-Ex2.is ∙ rolls-Ex2 c.in-Ex2.t (formula_of fs c.in-Ex2.f)) in
    subst (λ (f : Formula). IsOpened tracks f (conjoined (formulas_at fs old.conjuncts.items) (formula_of fs c.in-Ex2.f))) (sym same)
    (IsOpened-conjoined tracks c.in-Ex2.t fs old.conjuncts.items (formula_of fs c.in-Ex2.f)
    (λ there. c.may_open-may.ensures.unweighed c.if-may.true (of c.in-Ex2.t there))
    (subst (λ (ids : List FormulaId). AllByRecursion (λ id. IsFree c.in-Ex2.t.0 (formula_of fs id) → ⊥) ids) c.as_slice.ensures.value
    (c.may_open-may.ensures.unbound c.if-may.true fs c.requires.facts)))
