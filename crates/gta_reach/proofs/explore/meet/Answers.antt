-- What is new waits.
use Rattle.std.proofs.Common.{refl}
use Rattle.gta_reach.proofs.ExploreLemmas.{waiting-push}
use Rattle.gta_reach.proofs.explore.meet.Goals as goal

pub returns-clause-met : goal.returns-clause-met
returns-clause-met c = λ form met gives.
    let marked = c.mark_listed.ensures.met form met gives in
    record {
      states = marked.states;
      waiting = waiting-push form c.args.s c.args.listed (record { s = c.args.s; listed = c.args.listed }) c.mark_listed.new.met.waiting c.push.new.self
          refl refl c.in_ok-push.ensures.ok gives marked.waiting;
    }
