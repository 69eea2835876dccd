use Rattle.std.proofs.lemmas.List.Filters.{dedup_is}
use Rattle.bdd_walk.proofs.SetWeightLemmas.{IsSetOf-made}
use Rattle.bdd_walk.proofs.set_roots.ref_set.Goals as goal

pub returns : goal.returns
returns c = IsSetOf-made _ _ _ c.sort_unstable.ensures.permutation (dedup_is _ _ _ c.dedup.ensures.filtered)
