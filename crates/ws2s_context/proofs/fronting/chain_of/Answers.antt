use Rattle.std.proofs.Common.{sym, subst}
use Rattle.ws2s_lean.specs.Conjunctions.{IsConjunction}
use Rattle.ws2s_lean.proofs.ConjunctionsLemmas.{IsConjunction-one}
use Rattle.ws2s_context.specs.declared.fronting.Chain.{Chain}
use Rattle.ws2s_facts.specs.Conjuncts.{formula_of}
use Rattle.ws2s_context.specs.Fronting.{links}
use Rattle.ws2s_context.proofs.fronting.chain_of.Goals as goal
use Rattle.ws2s_context.proofs.fronting.chain_of.Goals.{else-steps-test, then-steps-test+in_ok-go_left+then-not-branch}

pub steps-init : goal.steps-init
steps-init c = IsConjunction-one c.args.interner.now c.new.result.items c.args.id c.new.ensures.items c.requires

pub steps-preserved : goal.steps-preserved
steps-preserved c = c.in_ok-go_left.ensures (formula_of c.args.interner.now c.args.id) c.steps.invariant

pub returns : goal.returns
returns c =
    let fs = c.args.interner.now in
    let Wanted : Chain → Type 0 = λ chain. IsConjunction fs (formula_of fs c.args.id) (links chain) in
    elim c.steps-test.branch [
      | else-steps-test w ↦ subst Wanted (sym w.chain-is) c.steps.invariant
      | then-steps-test+in_ok-go_left+then-not-branch w ↦
          subst Wanted (sym w.chain-is) (w.in_ok-go_left.ensures (formula_of fs c.args.id) c.steps.invariant)
    ]
