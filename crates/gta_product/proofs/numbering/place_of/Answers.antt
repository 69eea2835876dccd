-- By neither look.
use Rattle.gta_product.proofs.IndexedLemmas.{number-none, IfNone-map}
use Rattle.gta_product.proofs.numbering.place_of.Goals as goal

pub returns-clause-none : goal.returns-clause-none
returns-clause-none c = IfNone-map c.late_place.result _ _
    (λ late. number-none c.args.pairs.now c.args.places.now c.args.pair c.requires c.in_default.ensures.none late) c.late_place.ensures.none
