-- The place is said.
use Rattle.gta_product.proofs.IndexedLemmas.{AreIndexed-noted}
use Rattle.gta_product.proofs.numbering.note.Goals as goal

pub returns-in_ok-insert-clause-kept : goal.returns-in_ok-insert-clause-kept
returns-in_ok-insert-clause-kept c = λ pairs none indexed.
    AreIndexed-noted pairs c.args.places.now c.insert.new.self c.args.pair c.args.place none c.in_ok-insert.ensures.updates indexed
