use Rattle.gta_gallery.proofs.chain.choice.Goals as goal

pub make-requires-clause-low : goal.make-requires-clause-low
make-requires-clause-low c = c.leaf-unset.ensures.side c.args.shelf.now c.args.track

pub make-requires-clause-high : goal.make-requires-clause-high
make-requires-clause-high c = c.leaf-set.ensures.side c.args.shelf.now c.args.track
