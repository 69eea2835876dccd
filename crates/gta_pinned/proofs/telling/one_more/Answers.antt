use Rattle.gta_pinned.proofs.telling.one_more.Goals as goal

pub make-requires-clause-low : goal.make-requires-clause-low
make-requires-clause-low c = c.leaf-none.ensures.side c.args.shelf.now c.args.track

pub make-requires-else-is_set-clause-high : goal.make-requires-else-is_set-clause-high
make-requires-else-is_set-clause-high c = c.leaf-none.ensures.side c.args.shelf.now c.args.track
