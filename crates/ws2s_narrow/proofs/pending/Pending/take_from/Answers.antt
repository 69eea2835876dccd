use Rattle.ws2s_narrow.proofs.MovingLemmas.{All-below, All-above}
use Rattle.ws2s_narrow.proofs.pending.Pending.take_from.Goals as goal

pub returns-clause-below : goal.returns-clause-below
returns-clause-below c = All-below c.args.number c.split_off.new.self.entries c.in_ok-staying.ensures.all_below

pub returns-clause-from : goal.returns-clause-from
returns-clause-from c = All-above c.args.number c.in_ok-staying.staying.entries c.in_ok-staying.ensures.all_from
