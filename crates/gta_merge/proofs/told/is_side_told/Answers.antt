-- One state at most.
use Rattle.gta_merge.specs.Lines.{root_beside}
use Rattle.gta_merge.proofs.ToldLemmas.{AreApart-few}
use Rattle.gta_merge.proofs.told.is_side_told.Goals as goal

pub returns-then-states-lt2 : goal.returns-then-states-lt2
returns-then-states-lt2 c = λ told.
    AreApart-few (root_beside c.args.shelf.now c.args.a.now c.args.space c.args.side) c.args.states.now c.if-states-lt2.true
