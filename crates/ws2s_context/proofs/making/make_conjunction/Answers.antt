use Rattle.std.proofs.Common.{length}
use Rattle.ws2s_facts.proofs.ConjunctsLemmas.{parts-And, made-And, there-made}
use Rattle.ws2s_context.proofs.GoingLemmas.{IsGoing-extends, IsGoing-made, IsSame-conjunction}
use Rattle.ws2s_context.proofs.making.make_conjunction.Goals as goal

pub make-requires-clause-parts : goal.make-requires-clause-parts
make-requires-clause-parts c =
    let left = c.to-first.ensures c.args.interner.now c.requires.going.made c.requires.place.left_here in
    let right = c.to-second.ensures c.args.interner.now c.requires.going.made c.requires.place.right_here in
    parts-And (length c.args.interner.now) c.to-first.result c.to-second.result left.to_there right.to_there

pub returns-clause-ok : goal.returns-clause-ok
returns-clause-ok c =
    let old = c.args.interner.now in
    let new = c.make.new.interner in
    let left = c.to-first.ensures old c.requires.going.made c.requires.place.left_here in
    let right = c.to-second.ensures old c.requires.going.made c.requires.place.right_here in
    let going = IsGoing-extends old new c.make.ensures.kept c.args.machine.now.tasks c.args.machine.now.rewritings.made.items c.requires.going in
    let same = IsSame-conjunction old new c.args.place c.args.left c.args.right c.to-first.result c.to-second.result c.in_ok-made.made
    c.make.ensures.kept c.requires.place left right (there-made new c.in_ok-made.made.0 _ c.in_ok-made.ensures.value)
    (made-And old new c.in_ok-made.made c.to-first.result c.to-second.result c.in_ok-made.ensures.value) in
    IsGoing-made new c.args.machine.now.tasks c.args.machine.now.rewritings.made.items c.add.new.self.made.items going
    (c.in_ok-add.ensures new going.made same)
