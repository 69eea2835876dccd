use Rattle.ws2s_context.proofs.GoingLemmas.{IsGoing-first_task}
use Rattle.ws2s_context.proofs.rewriting.first_machine.Goals as goal

pub returns : goal.returns
returns c =
    IsGoing-first_task c.args.interner.now c.args.place c.new-tasks.result c.push.new.self c.new-rewritings.result.made.items c.requires c.new-tasks.ensures
    c.in_ok-push.ensures.ok (c.new-rewritings.ensures c.args.interner.now)
