use Rattle.ws2s_facts.specs.Conjuncts.{formula_of}
use Rattle.ws2s_plan.proofs.PlanLemmas.{IsPlanning-start}
use Rattle.ws2s_plan.proofs.planning.first_planning.Goals as goal

pub returns : goal.returns
returns c =
    IsPlanning-start c.args.interner.now c.args.weigh.now (formula_of c.args.interner.now c.args.id) _ c.in_ok-units.ensures c.in_ok-waiting.ensures
    c.new.ensures
