use Rattle.std.proofs.Common.{All, List, sym, subst}
use Rattle.ws2s_core.specs.declared.formula.Formula.{Formula}
use Rattle.ws2s_core.specs.declared.node.FormulaId.{FormulaId}
use Rattle.ws2s_core.specs.Tracks.{IsFree}
use Rattle.ws2s_facts.specs.Conjuncts.{IsUnbound, Implies, context_at}
use Rattle.ws2s_facts.proofs.ConjunctsLemmas.{All-chosen, IsUnbound-conjuncts, IsConjunct-there, Implies-joined, unbound-joined}
use Rattle.ws2s_context.proofs.context.inside.Goals as goal

pub conjunction_of-requires-clause-there : goal.conjunction_of-requires-clause-there
conjunction_of-requires-clause-there c =
    let fs = c.args.interner.now in
    let context = context_at fs c.args.context in
    IsConjunct-there fs context c.choose.new.chosen.items (IsUnbound-conjuncts fs context c.args.t.0 c.choose.new.chosen.items
    (All-chosen (IsUnbound fs context c.args.t.0) c.new-chosen.result.items c.deref.result.now c.choose.new.chosen.items c.new-chosen.ensures.items
    c.in_ok-choose.ensures (subst (λ (ids : List FormulaId). All (IsUnbound fs context c.args.t.0) ids) (sym c.deref.ensures.value) c.in_ok-unbound.ensures)))

pub returns-clause-implied : goal.returns-clause-implied
returns-clause-implied c =
    let fs = c.args.interner.now in
    let context = context_at fs c.args.context in
    subst (λ (inner : List Formula). Implies context inner) (sym c.in_ok-made.ensures.value)
    (Implies-joined fs context c.choose.new.chosen.items (IsUnbound-conjuncts fs context c.args.t.0 c.choose.new.chosen.items
    (All-chosen (IsUnbound fs context c.args.t.0) c.new-chosen.result.items c.deref.result.now c.choose.new.chosen.items c.new-chosen.ensures.items
    c.in_ok-choose.ensures (subst (λ (ids : List FormulaId). All (IsUnbound fs context c.args.t.0) ids) (sym c.deref.ensures.value) c.in_ok-unbound.ensures))))

pub returns-clause-unbound : goal.returns-clause-unbound
returns-clause-unbound c =
    let fs = c.args.interner.now in
    let context = context_at fs c.args.context in
    subst (λ (inner : List Formula). All (λ f. IsFree c.args.t.0 f → ⊥) inner) (sym c.in_ok-made.ensures.value)
    (unbound-joined fs context c.args.t.0 c.choose.new.chosen.items
    (All-chosen (IsUnbound fs context c.args.t.0) c.new-chosen.result.items c.deref.result.now c.choose.new.chosen.items c.new-chosen.ensures.items
    c.in_ok-choose.ensures (subst (λ (ids : List FormulaId). All (IsUnbound fs context c.args.t.0) ids) (sym c.deref.ensures.value) c.in_ok-unbound.ensures)))
