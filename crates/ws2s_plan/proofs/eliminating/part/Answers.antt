use Rattle.std.proofs.Common.{refl, arith}
use Rattle.ws2s_plan.proofs.PlanLemmas.{IsParted-other, IsParted-member}
use Rattle.ws2s_plan.proofs.eliminating.part.Goals as goal

pub returns-in_ok-push : goal.returns-in_ok-push
returns-in_ok-push c = λ formulas units rest known was.
    IsParted-other formulas c.args.t units rest c.args.unit c.args.parted.now (record c.args.parted.now { others = c.push.new.self }) refl
    c.in_ok-push.ensures.items refl (c.lacks.ensures c.if-lacks.true formulas known) was

pub returns-in_ok-push-2 : goal.returns-in_ok-push-2
returns-in_ok-push-2 c = λ formulas units rest known was.
    IsParted-member formulas c.args.t units rest c.args.unit c.args.parted.now _ c.in_ok-push-2.ensures.items refl (omega arith) was
