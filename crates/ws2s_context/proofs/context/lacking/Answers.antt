use Rattle.std.proofs.Common.{◌∙◌, All, List, ap, sym, subst, Vec}
use Rattle.std.specs.declared.alloc.Global.{Global}
use Rattle.ws2s_core.specs.declared.node.FormulaId.{FormulaId}
use Rattle.ws2s_facts.specs.Conjuncts.{IsConjunct, IsUnbound, context_at}
use Rattle.ws2s_facts.proofs.ConjunctsLemmas.{All-pushed}
use Rattle.ws2s_context.proofs.context.lacking.Goals as goal
use Rattle.ws2s_context.proofs.context.lacking.Goals.{then-lacks+in_ok-push, else-lacks}

pub loop-conjunct-preserved : goal.loop-conjunct-preserved
loop-conjunct-preserved c =
    let l = c.loop-conjunct in
    let fs = c.args.interner.now in
    let context = context_at fs c.args.context in
    let members = subst (λ (ids : List FormulaId). All (IsConjunct fs context) ids) (sym c.deref-conjunct-items.ensures.value) c.in_ok-members_of.ensures in
    elim c.if-lacks.branch [
      | then-lacks+in_ok-push w ↦
          All-pushed (IsUnbound fs context c.args.t.0) l.unbound.items c.if-lacks.unbound.items _
          (ap (λ (v : Vec FormulaId Global). v.items) w.unbound-is ∙ w.in_ok-push.ensures.items) l.invariant
          (record { conjunct = members l.conjunct-index _ c.loop-conjunct-test.true; unbound = c.lacks.ensures w.if-lacks.true fs c.requires.facts })
      | else-lacks w ↦
          subst (λ (v : Vec FormulaId Global). All (IsUnbound fs context c.args.t.0) v.items) (sym w.unbound-is) l.invariant
    ]
