use Rattle.gta_gallery.proofs.steps.after.Goals as goal

pub returns-in-Not-clause-auto : goal.returns-in-Not-clause-auto
returns-in-Not-clause-auto c = c.complement.ensures.auto c.args.g.now c.args.shelf.now c.requires.auto
