use Rattle.std.proofs.Common.{[]}
use Rattle.ws2s_facts.specs.Conjuncts.{formula_of}
use Rattle.ws2s_plan.specs.Steps.{IsTaking}
use Rattle.ws2s_plan.proofs.conjuncts.conjuncts_of.Given as goal

abbrev pub invariant-looks : goal.invariant-looks
invariant-looks l = IsTaking l.interner (formula_of l.interner l.fn.id) [] l.taking
