use Rattle.std.proofs.Common.{sym, subst}
use Rattle.ws2s_lean.specs.declared.chain.Chain.{Chain}
use Rattle.ws2s_lean.specs.Conjunctions.{IsThere, IsConjunction, formula_of, members}
use Rattle.ws2s_lean.proofs.ConjunctionsLemmas.{IsConjunction-one}
use Rattle.ws2s_lean.proofs.chain.chain_of.Goals as goal
use Rattle.ws2s_lean.proofs.chain.chain_of.Goals.{else-steps-test, then-steps-test+in_ok-go_on+then-not-branch}

pub steps-init : goal.steps-init
steps-init c = λ there. IsConjunction-one c.args.interner.now c.new.result.items c.args.id c.new.ensures.items there

pub steps-preserved : goal.steps-preserved
steps-preserved c = λ there. c.in_ok-go_on.ensures (formula_of c.args.interner.now c.args.id) (c.steps.invariant there)

pub returns : goal.returns
returns c =
    let fs = c.args.interner.now in
    let Wanted : Chain → Type 0 = λ chain. IsThere fs c.args.id → IsConjunction fs (formula_of fs c.args.id) (members chain) in
    elim c.steps-test.branch [
      | else-steps-test w ↦ subst Wanted (sym w.chain-is) c.steps.invariant
      | then-steps-test+in_ok-go_on+then-not-branch w ↦
          subst Wanted (sym w.chain-is) (λ there. w.in_ok-go_on.ensures (formula_of fs c.args.id) (c.steps.invariant there))
    ]
