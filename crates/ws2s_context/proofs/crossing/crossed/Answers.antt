use Rattle.ws2s_facts.proofs.ConjunctsLemmas.{there-extends, Extends-trans}
use Rattle.ws2s_context.proofs.GoingLemmas.{IsSame-beside}
use Rattle.ws2s_context.proofs.crossing.crossed.Goals as goal

pub put_context_first-requires-clause-id : goal.put_context_first-requires-clause-id
put_context_first-requires-clause-id c =
    there-extends c.args.interner.now c.crossing.new.interner c.args.to c.crossing.ensures.kept c.requires.same.to_there

pub returns-clause-same : goal.returns-clause-same
returns-clause-same c =
    IsSame-beside c.args.interner.now c.crossing.new.interner c.put_context_first.new.interner c.args.place c.in_ok-known.known c.args.to
    c.in_ok-made.made c.crossing.ensures.kept c.put_context_first.ensures.kept c.requires.same c.in_ok-known.ensures.implied
    c.in_ok-made.ensures.same c.in_ok-made.ensures.there

pub returns-clause-kept : goal.returns-clause-kept
returns-clause-kept c =
    Extends-trans c.args.interner.now c.crossing.new.interner c.put_context_first.new.interner c.crossing.ensures.kept c.put_context_first.ensures.kept
