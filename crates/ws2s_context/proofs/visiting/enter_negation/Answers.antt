use Rattle.ws2s_context.proofs.GoingLemmas.{IsGoing-negating, IsNegating-new}
use Rattle.ws2s_context.proofs.visiting.enter_negation.Goals as goal

pub returns : goal.returns
returns c = record {
  ok = IsGoing-negating c.args.interner.now c.args.place _ c.args.machine.now.tasks c.push.new.self c.push-2.new.self
      c.args.machine.now.rewritings.made.items
      (IsNegating-new c.args.interner.now c.args.place c.args.f c.requires.place c.requires.inner c.requires.is)
      c.requires.going c.in_ok-push.ensures.ok c.in_ok-push-2.ensures.ok;
}
