use Rattle.whole_handing.proofs.Merging.{next_alone, next_smaller}
use Rattle.whole_handing.proofs.beside.next_cell.Goals as goal

pub returns-in-Some-body_at : goal.returns-in-Some-body_at
returns-in-Some-body_at c = next_smaller c.args.one.now c.args.other.now c.args.i c.args.j c.in-Some.first.now c.in-Some-body_at.second.now c.smaller.result
    c.in-Some.ensures.cell c.in-Some.ensures.live c.in-Some-body_at.ensures.cell c.in-Some-body_at.ensures.live c.smaller.ensures

pub returns-in-None-body_at : goal.returns-in-None-body_at
returns-in-None-body_at c = next_alone c.args.one.now c.args.other.now c.args.i c.args.j c.in-Some.first.now c.in-Some.ensures.cell c.in-Some.ensures.live
    c.in-None-body_at.ensures.cell

pub returns-in-Some-body_at-2 : goal.returns-in-Some-body_at-2
returns-in-Some-body_at-2 c = next_alone c.args.other.now c.args.one.now c.args.j c.args.i c.in-Some-body_at-2.last.now c.in-Some-body_at-2.ensures.cell
    c.in-Some-body_at-2.ensures.live c.in-None.ensures.cell
