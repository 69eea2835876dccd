use Rattle.std.proofs.Common.{◌∙◌, ap, sym}
use Rattle.std.specs.Option.{option_map}
use Rattle.store_core.specs.Tables.{place_of}
use Rattle.store_core.proofs.Names.{position-names}
use Rattle.store_core.proofs.Bodies.{variants_of-body}
use Rattle.store_core.proofs.types.TypeTable.find_variant.Goals as goal

pub returns-in-Some : goal.returns-in-Some
returns-in-Some c =
    ap (option_map (λ i. record { ty = c.args.ty; index = i }))
    (c.in-Some.ensures.index
    ∙ position-names c.args.name.now c.in_ok-body.body.now.variants.entries
    ∙ sym (ap (place_of c.args.name.now) (variants_of-body c.args.self.now c.args.ty c.in_ok-body.body.now c.in_ok-body.ensures.found)))

pub returns-in-None : goal.returns-in-None
returns-in-None c =
    ap (option_map (λ i. record { ty = c.args.ty; index = i }))
    (c.in-None.ensures.index
    ∙ position-names c.args.name.now c.in_ok-body.body.now.variants.entries
    ∙ sym (ap (place_of c.args.name.now) (variants_of-body c.args.self.now c.args.ty c.in_ok-body.body.now c.in_ok-body.ensures.found)))
