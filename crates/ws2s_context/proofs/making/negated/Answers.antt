use Rattle.std.proofs.Common.{length}
use Rattle.ws2s_facts.proofs.ConjunctsLemmas.{parts-Not, made-Not, there-made, there-extends, IsContext-extends, Extends-trans}
use Rattle.ws2s_context.proofs.GoingLemmas.{SameUnder-negated}
use Rattle.ws2s_context.proofs.making.negated.Goals as goal

pub make-requires-clause-parts : goal.make-requires-clause-parts
make-requires-clause-parts c =
    parts-Not (length c.needed_by.new.interner) c.args.part
    (there-extends c.args.interner.now c.needed_by.new.interner c.args.part c.needed_by.ensures.kept c.requires.part)

pub beside_context-requires-clause-context : goal.beside_context-requires-clause-context
beside_context-requires-clause-context c =
    IsContext-extends c.needed_by.new.interner c.make.new.interner c.in_ok-needed.needed c.make.ensures.kept c.in_ok-needed.ensures.there

pub beside_context-requires-clause-id : goal.beside_context-requires-clause-id
beside_context-requires-clause-id c = there-made c.make.new.interner c.in_ok-negation.negation.0 _ c.in_ok-negation.ensures.value

pub returns-clause-same : goal.returns-clause-same
returns-clause-same c =
    let a = c.args.interner.now in
    let b = c.needed_by.new.interner in
    let last = c.make.new.interner in
    SameUnder-negated a b last c.beside_context.new.interner c.args.context c.in_ok-needed.needed c.args.part c.in_ok-negation.negation c.in_ok-made.made
    c.needed_by.ensures.kept c.make.ensures.kept c.requires.part c.in_ok-needed.ensures.there c.in_ok-needed.ensures.implied
    (made-Not b last c.in_ok-negation.negation c.args.part c.in_ok-negation.ensures.value) c.in_ok-made.ensures.same

pub returns-clause-kept : goal.returns-clause-kept
returns-clause-kept c =
    Extends-trans c.args.interner.now c.make.new.interner c.beside_context.new.interner
    (Extends-trans c.args.interner.now c.needed_by.new.interner c.make.new.interner c.needed_by.ensures.kept c.make.ensures.kept)
    c.beside_context.ensures.kept
