use Rattle.gta_gallery.proofs.GridLemmas.{IsAuto-built}
use Rattle.gta_gallery.proofs.grid.grid.Goals as goal

pub returns : goal.returns
returns c =
    IsAuto-built c.args.shelf.now c.from_parts.new.shelf c.args.rows c.args.columns c.args.functions c.in_ok-parts.parts c.args.accepting
    c.in_ok-auto.auto c.requires.columns c.requires.many c.in_ok-parts.ensures c.requires.functions c.requires.some c.in_ok-auto.ensures.ok
    c.in_ok-auto.ensures.table
