use Rattle.site_list.proofs.WalkLemmas.{walk-passes}
use Rattle.site_list.proofs.laws.the_walk_passes_the_sites.Goals as goal

pub returns : goal.returns
returns c = walk-passes
