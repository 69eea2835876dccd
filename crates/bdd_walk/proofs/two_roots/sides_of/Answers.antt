use Rattle.bdd_walk.proofs.KeysLemmas.{left-valid, right-valid}
use Rattle.bdd_walk.proofs.two_roots.sides_of.Goals as goal

pub side_of-requires : goal.side_of-requires
side_of-requires c = left-valid c.args.shelf.now c.args.pair.left c.args.pair.right c.requires

pub side_of-requires-2 : goal.side_of-requires-2
side_of-requires-2 c = right-valid c.args.shelf.now c.args.pair.left c.args.pair.right c.requires
