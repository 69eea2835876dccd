use Rattle.gta_gallery.proofs.TablesLemmas.{IsAuto-beside}
use Rattle.gta_gallery.proofs.agreeing.agreeing_with.Goals as goal

pub product-requires-clause-first : goal.product-requires-clause-first
product-requires-clause-first c =
    IsAuto-beside c.args.g.now c.args.shelf.now c.pinned.new.shelf c.args.a.now c.in_ok-b.b c.requires.shelf
    c.pinned.ensures.kept c.in_ok-b.ensures.table c.requires.auto
