use Rattle.std.proofs.Common.{◌∙◌, ap, sym, refl}
use Rattle.std.specs.Option.{option_map}
use Rattle.store_core.specs.Tables.{field_names, place_of}
use Rattle.store_core.specs.TypeBodies.{field_entry}
use Rattle.store_core.proofs.Names.{position-keys}
use Rattle.store_core.proofs.Bodies.{fields_of-body}
use Rattle.store_core.proofs.types.TypeTable.find_field.Goals as goal

pub returns-in-Some : goal.returns-in-Some
returns-in-Some c =
    ap (option_map (λ i. record { ty = c.args.ty; index = i }))
    (c.in-Some.ensures.index
    ∙ position-keys c.args.name.now field_entry (λ f. f.name) (λ e. refl) c.in_ok-body.body.now.fields.entries
    ∙ sym (ap (λ fields. place_of c.args.name.now (field_names fields))
    (fields_of-body c.args.self.now c.args.ty c.in_ok-body.body.now c.in_ok-body.ensures.found)))

pub returns-in-None : goal.returns-in-None
returns-in-None c =
    ap (option_map (λ i. record { ty = c.args.ty; index = i }))
    (c.in-None.ensures.index
    ∙ position-keys c.args.name.now field_entry (λ f. f.name) (λ e. refl) c.in_ok-body.body.now.fields.entries
    ∙ sym (ap (λ fields. place_of c.args.name.now (field_names fields))
    (fields_of-body c.args.self.now c.args.ty c.in_ok-body.body.now c.in_ok-body.ensures.found)))
