use Rattle.std.proofs.Common.{◌∙◌, ap, sym, subst, Vec}
use Rattle.std.specs.declared.alloc.Global.{Global}
use Rattle.ws2s_core.specs.declared.node.FormulaId.{FormulaId}
use Rattle.ws2s_facts.specs.Conjuncts.{IsAmong}
use Rattle.ws2s_facts.proofs.ConjunctsLemmas.{IsAmong-push, Contains-at}
use Rattle.ws2s_context.proofs.crossing.choose_crossing.Goals as goal
use Rattle.ws2s_context.proofs.crossing.choose_crossing.Goals.{then-is_crossing+in_ok-push, else-is_crossing}

pub loop-conjunct-preserved : goal.loop-conjunct-preserved
loop-conjunct-preserved c =
    let l = c.loop-conjunct in
    elim c.if-is_crossing.branch [
      | then-is_crossing+in_ok-push w ↦
          IsAmong-push c.args.chosen.now.items c.args.conjuncts.now l.chosen.items c.if-is_crossing.chosen.items _ l.invariant
          (Contains-at c.args.conjuncts.now l.conjunct-index _ c.loop-conjunct-test.true)
          (ap (λ (v : Vec FormulaId Global). v.items) w.chosen-is ∙ w.in_ok-push.ensures.items)
      | else-is_crossing w ↦
          subst (λ (v : Vec FormulaId Global). IsAmong c.args.chosen.now.items c.args.conjuncts.now v.items) (sym w.chosen-is) l.invariant
    ]
