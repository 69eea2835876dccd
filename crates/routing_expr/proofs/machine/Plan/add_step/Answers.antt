use Rattle.routing_expr.proofs.MachineLemmas.{step-added}
use Rattle.routing_expr.proofs.machine.Plan.add_step.Goals as goal

pub returns-clause-arcs : goal.returns-clause-arcs
returns-clause-arcs c = step-added c.args.self.now.edges.items _ c.args.self.now.parts.items _ c.in_ok-push.ensures.items
