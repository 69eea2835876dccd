use Rattle.std.proofs.Common.{◌++◌, ◌∷◌, [], ap, ◌∙◌, sym, subst, map}
use Rattle.routing_expr.specs.Machines.{arc_of, part_of, IsPlan}
use Rattle.routing_expr.proofs.MachineLemmas.{IsPlan-whole}
use Rattle.routing_expr.proofs.machine.Plan.new.Goals as goal

pub returns : goal.returns
returns c =
    subst (λ arcs. IsPlan c.args.route.now arcs 2)
    (sym ((λ i. map arc_of (c.new.ensures.items i) ++ map part_of (c.in_ok-push.ensures.items i)) ∙
    ap (λ parts. map part_of (parts ++ record { from = 0; route = c.args.route; to = 1 } ∷ [])) c.new-parts.ensures.items))
    (IsPlan-whole c.args.route.now)
