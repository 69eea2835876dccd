use Rattle.ws2s_facts.proofs.ConjunctsLemmas.{Extends-trans, IsContext-extends, there-extends}
use Rattle.ws2s_context.proofs.GoingLemmas.{IsConjoining-turned}
use Rattle.ws2s_context.proofs.visiting.right_context.Goals as goal

pub projected-requires-clause-id : goal.projected-requires-clause-id
projected-requires-clause-id c = c.requires.first.to_there

pub beside-requires-clause-context : goal.beside-requires-clause-context
beside-requires-clause-context c =
    IsContext-extends c.args.interner.now c.projected.new.interner c.args.place.context c.projected.ensures.kept c.requires.place.here.context_there

pub beside-requires-clause-left : goal.beside-requires-clause-left
beside-requires-clause-left c =
    there-extends c.args.interner.now c.projected.new.interner c.args.first c.projected.ensures.kept c.requires.first.to_there

pub returns-clause-right : goal.returns-clause-right
returns-clause-right c =
    IsConjoining-turned c.args.interner.now c.projected.new.interner c.beside.new.interner c.args.place c.args.left c.args.g c.args.first
    c.in_ok-around.around c.projected.ensures.kept c.beside.ensures.kept c.requires.place c.requires.first c.in_ok-around.ensures.there
    c.in_ok-around.ensures.implied

pub returns-clause-kept : goal.returns-clause-kept
returns-clause-kept c =
    Extends-trans c.args.interner.now c.projected.new.interner c.beside.new.interner c.projected.ensures.kept c.beside.ensures.kept
