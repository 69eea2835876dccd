use Rattle.bdd_walk.proofs.WaitsLemmas.{IsMemo-none}
use Rattle.bdd_walk.proofs.walk.join_from.Goals as goal

pub join_kept-requires-clause-fits : goal.join_kept-requires-clause-fits
join_kept-requires-clause-fits g c = IsMemo-none _ _ _ _ _ c.new-kept.result.memo c.new-kept.ensures
