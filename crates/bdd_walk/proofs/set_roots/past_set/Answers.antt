use Rattle.bdd_walk.proofs.SidesLemmas.{valid-at}
use Rattle.bdd_walk.proofs.set_roots.past_set.Goals as goal

pub push_both-requires : goal.push_both-requires
push_both-requires c = valid-at c.args.shelf.now c.args.roots.now c.loop-root.root-index _ c.requires c.loop-root-test.true
