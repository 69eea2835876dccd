use Rattle.std.proofs.Common.{refl}
use Rattle.ws2s_narrow.specs.Taking.{takes_atom, takes_and, takes_not, takes_ex2}
use Rattle.ws2s_narrow.proofs.narrow.take.Goals as goal

pub returns-in_ok-finish-in-Atom : goal.returns-in_ok-finish-in-Atom
returns-in_ok-finish-in-Atom c = takes_atom c.in-Atom.symbol c.in-Atom.is refl c.in_ok-finish-in-Atom.ensures

pub returns-in_ok-divide-in-And : goal.returns-in_ok-divide-in-And
returns-in_ok-divide-in-And c = takes_and c.in-And.shares c.in-And.is c.in_ok-divide-in-And.ensures

pub returns-in_ok-push-in-Not : goal.returns-in_ok-push-in-Not
returns-in_ok-push-in-Not c = takes_not c.new-none.result c.in-Not.is c.new-none.ensures.none c.new-none.ensures.sound c.in_ok-push-in-Not.ensures.items
    c.in_ok-finish-in-Not.ensures

pub returns-in_ok-push-in-Ex2 : goal.returns-in_ok-push-in-Ex2
returns-in_ok-push-in-Ex2 c = takes_ex2 c.in-Ex2.next c.add.new.self c.in-Ex2.is c.in_ok-add-in-Ex2.ensures.waiting c.in_ok-add-in-Ex2.ensures.sound
    c.in_ok-push-in-Ex2.ensures.items refl
