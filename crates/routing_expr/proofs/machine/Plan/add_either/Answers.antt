use Rattle.std.proofs.Common.{◌∙◌, sym, subst}
use Rattle.routing_walks.proofs.GatheringLemmas.{Gathers-both}
use Rattle.routing_expr.specs.Machines.{arcs_of, IsPlan}
use Rattle.routing_expr.proofs.MachineLemmas.{OnOk-by, IsPlan-either}
use Rattle.routing_expr.proofs.machine.Plan.add_either.Goals as goal

pub returns-clause-plan : goal.returns-clause-plan
returns-clause-plan c = OnOk-by c.add_part-2.result c.add_part-2.ensures.arcs c.add_part-2.ensures.places
    (λ arcs places. record {
      still = λ whole plan. subst (λ n. IsPlan whole (arcs_of c.add_part-2.new.self) n) (sym (places ∙ c.in_ok-add_part.ensures.places))
          (IsPlan-either whole (arcs_of c.args.self.now) (arcs_of c.add_part-2.new.self) c.args.self.now.places c.args.from c.args.to
          c.args.one.now c.args.other.now plan
          (Gathers-both (arcs_of c.args.self.now) (arcs_of c.add_part.new.self) (arcs_of c.add_part-2.new.self) _ _ c.in_ok-add_part.ensures.arcs arcs));
    })
