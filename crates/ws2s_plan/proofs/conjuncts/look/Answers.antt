use Rattle.std.proofs.Common.{refl}
use Rattle.ws2s_plan.proofs.PlanLemmas.{IsTaking-apart}
use Rattle.ws2s_plan.proofs.conjuncts.look.Goals as goal

pub returns : goal.returns
returns c = λ f was.
    IsTaking-apart c.args.interner.now f c.args.taking.now (record c.args.taking.now { waiting = c.push-2.new.self }) c.args.next c.in-Some.halves
    c.push.new.self.items c.in-Some.ensures c.in_ok-push.ensures.items c.in_ok-push-2.ensures.items refl (λ k. refl) was
