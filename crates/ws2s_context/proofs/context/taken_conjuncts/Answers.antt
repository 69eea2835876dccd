use Rattle.std.proofs.Common.{◌∙◌, All, List, [], ◌∷◌, ap, sym, subst, Vec}
use Rattle.std.specs.declared.alloc.Global.{Global}
use Rattle.ws2s_core.specs.declared.node.FormulaId.{FormulaId}
use Rattle.ws2s_facts.specs.Conjuncts.{IsConjunct, formula_of}
use Rattle.ws2s_facts.proofs.ConjunctsLemmas.{All-pushed}
use Rattle.ws2s_context.proofs.context.taken_conjuncts.Goals as goal
use Rattle.ws2s_context.proofs.context.taken_conjuncts.Goals.{then-takes+in_ok-push, else-takes}

pub loop-conjunct-preserved : goal.loop-conjunct-preserved
loop-conjunct-preserved c =
    let l = c.loop-conjunct in
    let fs = c.args.interner.now in
    let left = formula_of fs c.args.left ∷ [] in
    let conjuncts = subst (λ (ids : List FormulaId). All (IsConjunct fs left) ids) (sym c.deref-conjunct-items.ensures.value) c.in_ok-conjuncts_of.ensures in
    elim c.if-takes.branch [
      | then-takes+in_ok-push w ↦
          All-pushed (IsConjunct fs left) l.taken.items c.if-takes.taken.items _
          (ap (λ (v : Vec FormulaId Global). v.items) w.taken-is ∙ w.in_ok-push.ensures.items) l.invariant
          (conjuncts l.conjunct-index _ c.loop-conjunct-test.true)
      | else-takes w ↦
          subst (λ (v : Vec FormulaId Global). All (IsConjunct fs left) v.items) (sym w.taken-is) l.invariant
    ]
