use Rattle.whole_handing.proofs.CellLemmas.{member_is}
use Rattle.whole_handing.proofs.cells.is_member.Goals as goal

pub returns : goal.returns
returns c = member_is c.args.cells.now c.args.number c.has.result c.has.ensures
