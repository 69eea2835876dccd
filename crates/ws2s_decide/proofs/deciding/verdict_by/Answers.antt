use Rattle.std.proofs.Common.{subst}
use Rattle.gta_core.specs.Auto.{automaton_of}
use Rattle.gta_witness.specs.Answers.{IsLightestOf}
use Rattle.ws2s_decide.proofs.VerdictLemmas.{IsUnsatisfiable-none, IsLightestModel-tree, AreTooLarge-model}
use Rattle.ws2s_decide.proofs.deciding.verdict_by.Goals as goal

pub returns-in-None-clause-value : goal.returns-in-None-clause-value
returns-in-None-clause-value c = λ f minimal.
    IsUnsatisfiable-none c.args.g.now c.args.shelf.now c.args.auto f minimal
    (subst (IsLightestOf c.args.g.now (automaton_of c.args.shelf.now c.args.auto) c.args.weigh.now) c.in-None.is c.in_ok-found.ensures.value)

pub returns-in-Tree-clause-value : goal.returns-in-Tree-clause-value
returns-in-Tree-clause-value c = λ f minimal.
    IsLightestModel-tree c.args.g.now c.args.shelf.now c.args.auto f minimal c.args.weigh.now c.in-Tree.tree c.in-Tree.weight
    (subst (IsLightestOf c.args.g.now (automaton_of c.args.shelf.now c.args.auto) c.args.weigh.now) c.in-Tree.is c.in_ok-found.ensures.value)

pub returns-in-TooLarge-clause-value : goal.returns-in-TooLarge-clause-value
returns-in-TooLarge-clause-value c = λ f minimal.
    AreTooLarge-model c.args.g.now c.args.shelf.now c.args.auto f minimal c.args.weigh.now
    (subst (IsLightestOf c.args.g.now (automaton_of c.args.shelf.now c.args.auto) c.args.weigh.now) c.in-TooLarge.is c.in_ok-found.ensures.value)
