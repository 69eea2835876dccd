use Rattle.std.proofs.Common.{arith, sym}
use Rattle.ws2s_example.proofs.ListLemmas.{at-place}
use Rattle.ws2s_example.proofs.TextsLemmas.{Notes-one, Notes-past, AllAscend-set}
use Rattle.ws2s_example.proofs.sets.note_track.Goals as goal

pub returns-in_ok-add-clause-noted : goal.returns-in_ok-add-clause-noted
returns-in_ok-add-clause-noted c =
    let sets = c.args.sets.now.items in
    let old = c.index_mut.result.now in
    Notes-one c.args.track c.args.text.now sets old c.add.new.set
    (at-place sets c.args.track.0 old old (omega (arith, c.if-place-len.true, c.len.ensures)) (sym c.index_mut.ensures.value)) c.in_ok-add.ensures.added

pub returns-in_ok-add-clause-ascend : goal.returns-in_ok-add-clause-ascend
returns-in_ok-add-clause-ascend c = AllAscend-set c.args.sets.now.items c.args.track.0 c.add.new.set c.requires c.in_ok-add.ensures.ascend

pub returns-else-place-len-clause-noted : goal.returns-else-place-len-clause-noted
returns-else-place-len-clause-noted c = Notes-past c.args.track c.args.text.now c.args.sets.now.items (omega (arith, c.if-place-len.false, c.len.ensures))
