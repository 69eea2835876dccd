use Rattle.ws2s_context.proofs.GoingLemmas.{IsGoing-extends, IsGoing-quantifying, IsQuantifying-new}
use Rattle.ws2s_context.proofs.visiting.enter_quantifier.Goals as goal

pub returns-clause-ok : goal.returns-clause-ok
returns-clause-ok c =
    let old = c.args.interner.now in
    let new = c.inside.new.interner in
    IsGoing-quantifying new c.args.place c.args.t _ c.args.machine.now.tasks c.push.new.self c.push-2.new.self
    c.args.machine.now.rewritings.made.items
    (IsQuantifying-new old new c.args.place c.args.t c.args.f c.in_ok-around.around c.inside.ensures.kept c.requires.place c.requires.inner c.requires.is
    c.in_ok-around.ensures.there c.in_ok-around.ensures.implied c.in_ok-around.ensures.unbound)
    (IsGoing-extends old new c.inside.ensures.kept c.args.machine.now.tasks c.args.machine.now.rewritings.made.items c.requires.going)
    c.in_ok-push.ensures.ok c.in_ok-push-2.ensures.ok
