use Rattle.bdd_walk.proofs.SidesLemmas.{valid-at}
use Rattle.bdd_walk.proofs.sides.push_sides.Goals as goal

pub side_of-requires : goal.side_of-requires
side_of-requires c = valid-at c.args.shelf.now c.args.roots.now c.loop-root.root-index _ c.requires c.loop-root-test.true
