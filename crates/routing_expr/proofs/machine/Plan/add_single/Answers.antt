use Rattle.std.proofs.Common.{sym, subst}
use Rattle.routing_expr.specs.Machines.{arcs_of, IsPlan}
use Rattle.routing_expr.proofs.MachineLemmas.{OnOk-by, IsPlan-same}
use Rattle.routing_expr.proofs.machine.Plan.add_single.Goals as goal

pub returns-clause-plan : goal.returns-clause-plan
returns-clause-plan c = OnOk-by c.add_step.result c.add_step.ensures.arcs c.add_step.ensures.places
    (λ arcs places. record {
      still = λ whole plan. subst (λ n. IsPlan whole (arcs_of c.add_step.new.self) n) (sym places)
          (IsPlan-same whole (arcs_of c.args.self.now) (arcs_of c.add_step.new.self) c.args.self.now.places _ plan arcs);
    })
