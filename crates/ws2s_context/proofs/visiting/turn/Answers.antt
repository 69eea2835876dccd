use Rattle.ws2s_context.proofs.GoingLemmas.{IsGoing-extends, IsGoing-turning}
use Rattle.ws2s_context.proofs.visiting.turn.Goals as goal

pub right_context-requires-clause-first : goal.right_context-requires-clause-first
right_context-requires-clause-first c = c.to-first.ensures c.args.interner.now c.requires.going.made c.requires.place.left_here

pub returns-clause-ok : goal.returns-clause-ok
returns-clause-ok c =
    let a = c.args.interner.now in
    let b = c.right_context.new.interner in
    IsGoing-turning b c.args.place c.args.left _ c.args.machine.now.tasks c.push.new.self c.push-2.new.self
    c.args.machine.now.rewritings.made.items c.in_ok-around.ensures.right
    (IsGoing-extends a b c.right_context.ensures.kept c.args.machine.now.tasks c.args.machine.now.rewritings.made.items c.requires.going)
    c.in_ok-push.ensures.ok c.in_ok-push-2.ensures.ok
