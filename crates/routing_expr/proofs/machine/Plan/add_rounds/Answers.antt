use Rattle.std.proofs.Common.{◌∙◌}
use Rattle.routing_expr.specs.Machines.{arcs_of}
use Rattle.routing_expr.proofs.MachineLemmas.{OnOk-by, rounds-in}
use Rattle.routing_expr.proofs.machine.Plan.add_rounds.Goals as goal

pub returns-clause-plan : goal.returns-clause-plan
returns-clause-plan c = OnOk-by c.add_step-2.result c.add_step-2.ensures.arcs c.add_step-2.ensures.places
    (λ arcs places. record {
      still = λ whole plan. rounds-in whole (arcs_of c.args.self.now) (arcs_of c.new_place.new.self) c.args.self.now.places
          c.args.from c.args.to c.in_ok-turn.turn _
          c.args.round.now (arcs_of c.add_step.new.self) (arcs_of c.add_part.new.self) (arcs_of c.add_step-2.new.self) plan
          c.in_ok-turn.ensures.value c.new_place.ensures.arcs c.in_ok-add_step.ensures.arcs c.in_ok-add_part.ensures.arcs arcs
          (places ∙ c.in_ok-add_part.ensures.places ∙ c.in_ok-add_step.ensures.places ∙ c.in_ok-turn.ensures.places);
    })
