use Rattle.std.proofs.Common.{ℕ, List, [], ◌∷◌, ◌++◌, ◌∙◌, ap, nat_eq, refl, sym}
use Rattle.std.specs.List.{list_any}
use Rattle.ws2s_core.specs.declared.node.FormulaId.{FormulaId}
use Rattle.ws2s_facts.specs.Conjuncts.{formula_of}
use Rattle.ws2s_plan.proofs.PlanLemmas.{none-long, IsTaking-start, IsTaking-popped, IsConjunction-taken, IsConjunction-alone}
use Rattle.ws2s_plan.proofs.conjuncts.conjuncts_of.Goals as goal

pub looks-init : goal.looks-init
looks-init c =
    IsTaking-start c.args.interner.now (formula_of c.args.interner.now c.args.id) _ c.args.id
    (c.in_ok-push.ensures.items ∙ ap (λ (ids : List FormulaId). ids ++ c.args.id ∷ []) c.new.ensures.items) c.new-2.ensures.items
    (λ k. ap (λ (keys : List ℕ). list_any (nat_eq k) keys) c.new-3.ensures.empty) c.requires refl

pub looks-preserved : goal.looks-preserved
looks-preserved c =
    let f = formula_of c.args.interner.now c.args.id in
    c.in_ok-look.ensures f
    (IsTaking-popped c.args.interner.now f c.looks.taking (record c.looks.taking { waiting = c.pop.new.self }) c.in-Some.next
    c.in-Some.ensures.items refl (λ k. refl) c.looks.invariant)

pub returns : goal.returns
returns c = IsConjunction-alone c.args.interner.now c.args.id c.in_ok-found.found.items c.requires c.in_ok-found.ensures

pub returns-in_default : goal.returns-in_default
returns-in_default c =
    IsConjunction-taken c.args.interner.now (formula_of c.args.interner.now c.args.id) c.looks.taking
    (none-long c.looks.taking.waiting.items (sym (c.looks.taking.waiting.ok).0 ∙ c.in_default.ensures.cases.0)) c.looks.invariant
