use Rattle.ws2s_facts.proofs.ConjunctsLemmas.{Extends-trans, IsContext-extends}
use Rattle.ws2s_context.proofs.GoingLemmas.{IsGoing-extends, IsGoing-made, IsSame-negation, IsNegating-extends}
use Rattle.ws2s_context.proofs.making.make_negation.Goals as goal

pub crossed-requires-clause-same : goal.crossed-requires-clause-same
crossed-requires-clause-same c = c.to-part.ensures c.args.interner.now c.requires.going.made c.requires.place.inner_here

pub negated-requires-clause-part : goal.negated-requires-clause-part
negated-requires-clause-part c = c.in_ok-crossed.ensures.same.to_there

pub returns-clause-ok : goal.returns-clause-ok
returns-clause-ok c =
    let a = c.args.interner.now in
    let b = c.crossed.new.interner in
    let last = c.negated.new.interner in
    let kept = Extends-trans a b last c.crossed.ensures.kept c.negated.ensures.kept in
    let going = IsGoing-extends a last kept c.args.machine.now.tasks c.args.machine.now.rewritings.made.items c.requires.going in
    let was = IsNegating-extends a b c.crossed.ensures.kept c.args.place c.args.inner c.requires.place in
    let same = IsSame-negation b last c.args.place c.args.inner c.in_ok-crossed.crossed c.in_ok-made.made c.negated.ensures.kept was
    c.in_ok-crossed.ensures.same c.in_ok-made.ensures.same c.in_ok-made.ensures.there in
    IsGoing-made last c.args.machine.now.tasks c.args.machine.now.rewritings.made.items c.add.new.self.made.items going
    (c.in_ok-add.ensures last going.made same)

pub negated-requires-clause-context : goal.negated-requires-clause-context
negated-requires-clause-context c =
    IsContext-extends c.args.interner.now c.crossed.new.interner c.args.place.context c.crossed.ensures.kept c.requires.place.here.context_there

pub returns-clause-kept : goal.returns-clause-kept
returns-clause-kept c =
    Extends-trans c.args.interner.now c.crossed.new.interner c.negated.new.interner c.crossed.ensures.kept c.negated.ensures.kept
