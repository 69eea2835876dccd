use Rattle.std.proofs.Common.{All, List, sym, subst}
use Rattle.ws2s_core.specs.declared.node.FormulaId.{FormulaId}
use Rattle.ws2s_facts.specs.Conjuncts.{IsConjunct, context_at}
use Rattle.ws2s_facts.proofs.ConjunctsLemmas.{there-chosen, Implies-chosen}
use Rattle.ws2s_context.proofs.crossing.crossing.Goals as goal

pub conjunction_of-requires-clause-there : goal.conjunction_of-requires-clause-there
conjunction_of-requires-clause-there c =
    let context = context_at c.args.interner.now c.args.place.context in
    there-chosen c.args.interner.now context c.new-chosen.result.items c.deref.result.now c.choose_crossing.new.chosen.items c.new-chosen.ensures.items
    c.in_ok-choose_crossing.ensures
    (subst (λ (ids : List FormulaId). All (IsConjunct c.args.interner.now context) ids) (sym c.deref.ensures.value) c.in_ok-members.ensures)

pub returns-clause-implied : goal.returns-clause-implied
returns-clause-implied c =
    let context = context_at c.args.interner.now c.args.place.context in
    Implies-chosen c.args.interner.now c.conjunction_of.new.interner context c.new-chosen.result.items c.deref.result.now c.choose_crossing.new.chosen.items
    c.in_ok-made.made c.new-chosen.ensures.items c.in_ok-choose_crossing.ensures
    (subst (λ (ids : List FormulaId). All (IsConjunct c.args.interner.now context) ids) (sym c.deref.ensures.value) c.in_ok-members.ensures)
    c.in_ok-made.ensures.value
