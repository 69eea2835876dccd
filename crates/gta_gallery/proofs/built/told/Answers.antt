use Rattle.gta_gallery.proofs.built.told.Goals as goal

pub make-requires-clause-low : goal.make-requires-clause-low
make-requires-clause-low c = c.leaf-zero.ensures.side c.args.shelf.now 0

pub make-requires-clause-high : goal.make-requires-clause-high
make-requires-clause-high c = c.leaf-one.ensures.side c.args.shelf.now 0
