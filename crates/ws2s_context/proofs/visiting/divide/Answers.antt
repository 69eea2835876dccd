use Rattle.ws2s_context.proofs.GoingLemmas.{IsGoing-extends, IsGoing-dividing, IsTurning-new}
use Rattle.ws2s_context.proofs.visiting.divide.Goals as goal

pub returns-clause-ok : goal.returns-clause-ok
returns-clause-ok c =
    let a = c.args.interner.now in
    let b = c.narrowed.new.interner in
    IsGoing-dividing b c.args.place _ c.args.g c.args.machine.now.tasks c.push.new.self c.push-2.new.self
    c.args.machine.now.rewritings.made.items
    (IsTurning-new a b c.args.place c.args.f c.args.g c.in_ok-around.around c.narrowed.ensures.kept c.requires.place c.requires.left c.requires.right
    c.requires.is c.in_ok-around.ensures.there c.in_ok-around.ensures.implied)
    (IsGoing-extends a b c.narrowed.ensures.kept c.args.machine.now.tasks c.args.machine.now.rewritings.made.items c.requires.going)
    c.in_ok-push.ensures.ok c.in_ok-push-2.ensures.ok
