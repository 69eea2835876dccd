use Rattle.std.proofs.Common.{◌∙◌}
use Rattle.routing_expr.specs.Machines.{arcs_of}
use Rattle.routing_expr.proofs.MachineLemmas.{OnOk-by, both-in}
use Rattle.routing_expr.proofs.machine.Plan.add_both.Goals as goal

pub returns-clause-plan : goal.returns-clause-plan
returns-clause-plan c = OnOk-by c.add_part-2.result c.add_part-2.ensures.arcs c.add_part-2.ensures.places
    (λ arcs places. record {
      still = λ whole plan. both-in whole (arcs_of c.args.self.now) (arcs_of c.new_place.new.self) c.args.self.now.places
          c.args.from c.args.to c.in_ok-between.between _
          c.args.first.now c.args.second.now (arcs_of c.add_part.new.self) (arcs_of c.add_part-2.new.self) plan
          c.in_ok-between.ensures.value c.new_place.ensures.arcs c.in_ok-add_part.ensures.arcs arcs
          (places ∙ c.in_ok-add_part.ensures.places ∙ c.in_ok-between.ensures.places);
    })
