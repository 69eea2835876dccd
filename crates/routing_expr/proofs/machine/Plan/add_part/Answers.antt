use Rattle.routing_expr.proofs.MachineLemmas.{part-added}
use Rattle.routing_expr.proofs.machine.Plan.add_part.Goals as goal

pub returns-clause-arcs : goal.returns-clause-arcs
returns-clause-arcs c = part-added c.args.self.now.edges.items c.args.self.now.parts.items _ _ c.in_ok-push.ensures.items
