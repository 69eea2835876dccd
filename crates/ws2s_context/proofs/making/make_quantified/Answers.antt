use Rattle.std.proofs.Common.{length}
use Rattle.ws2s_facts.proofs.ConjunctsLemmas.{parts-Ex2, made-Ex2, there-made, Extends-trans}
use Rattle.ws2s_context.proofs.GoingLemmas.{IsGoing-extends, IsGoing-made, IsSame-quantified}
use Rattle.ws2s_context.proofs.making.make_quantified.Goals as goal

pub beside_context-requires-clause-id : goal.beside_context-requires-clause-id
beside_context-requires-clause-id c =
    (c.to-part.ensures c.args.interner.now c.requires.going.made c.requires.place.inner_here).to_there

pub make-requires-clause-parts : goal.make-requires-clause-parts
make-requires-clause-parts c = parts-Ex2 (length c.beside_context.new.interner) c.args.t c.in_ok-beside.beside c.in_ok-beside.ensures.there

pub returns-clause-ok : goal.returns-clause-ok
returns-clause-ok c =
    let a = c.args.interner.now in
    let b = c.beside_context.new.interner in
    let last = c.make.new.interner in
    let kept = Extends-trans a b last c.beside_context.ensures.kept c.make.ensures.kept in
    let inner = c.to-part.ensures a c.requires.going.made c.requires.place.inner_here in
    let going = IsGoing-extends a last kept c.args.machine.now.tasks c.args.machine.now.rewritings.made.items c.requires.going in
    let same = IsSame-quantified a b last c.args.place c.args.t c.args.inner c.to-part.result c.in_ok-beside.beside c.in_ok-made.made
    c.beside_context.ensures.kept c.make.ensures.kept c.requires.place inner c.in_ok-beside.ensures.same
    (made-Ex2 b last c.args.t c.in_ok-made.made c.in_ok-beside.beside c.in_ok-made.ensures.value)
    (there-made last c.in_ok-made.made.0 _ c.in_ok-made.ensures.value) in
    IsGoing-made last c.args.machine.now.tasks c.args.machine.now.rewritings.made.items c.add.new.self.made.items going
    (c.in_ok-add.ensures last going.made same)
