use Rattle.gta_keep.proofs.HoldingLemmas.{opened_has_no_tables}
use Rattle.ws2s_decide.proofs.OwnLemmas.{Rests-none}
use Rattle.ws2s_decide.proofs.first_way.open_room.Goals as goal

pub returns : goal.returns
returns c = λ g formulas.
    rw c.in_ok-kept.ensures
    (Rests-none g formulas c.in_ok-shelf.shelf
    (opened_has_no_tables _ c.in_ok-shelf.shelf c.in_ok-shelf.ensures.shelf c.in_ok-shelf.ensures.empty))
