use Rattle.std.proofs.Common.{◌∙◌, ap, sym, subst, Vec}
use Rattle.std.specs.declared.alloc.Global.{Global}
use Rattle.ws2s_core.specs.declared.node.FormulaId.{FormulaId}
use Rattle.ws2s_facts.specs.Conjuncts.{IsAmong}
use Rattle.ws2s_facts.proofs.ConjunctsLemmas.{IsAmong-push, Contains-at}
use Rattle.ws2s_context.proofs.context.choose.Goals as goal
use Rattle.ws2s_context.proofs.context.choose.Goals.{then-len-lt-MANY_CONJUNCTS+then-is_relevant+then-not-contains+in_ok-note+in_ok-push}
use Rattle.ws2s_context.proofs.context.choose.Goals.{else-len-lt-MANY_CONJUNCTS}

pub loop-conjunct-preserved : goal.loop-conjunct-preserved
loop-conjunct-preserved c =
    let l = c.loop-conjunct in
    elim c.if-len-lt-MANY_CONJUNCTS.branch [
      | then-len-lt-MANY_CONJUNCTS+then-is_relevant+then-not-contains+in_ok-note+in_ok-push w ↦
          IsAmong-push c.args.chosen.now.items c.args.conjuncts.now l.chosen.items c.if-len-lt-MANY_CONJUNCTS.chosen.items _ l.invariant
          (Contains-at c.args.conjuncts.now l.conjunct-index _ c.loop-conjunct-test.true)
          (ap (λ (v : Vec FormulaId Global). v.items) w.chosen-is ∙ w.in_ok-push.ensures.items)
      | else-len-lt-MANY_CONJUNCTS w ↦
          subst (λ (v : Vec FormulaId Global). IsAmong c.args.chosen.now.items c.args.conjuncts.now v.items) (sym w.chosen-is) l.invariant
    ]
