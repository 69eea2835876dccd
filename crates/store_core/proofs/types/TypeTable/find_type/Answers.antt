use Rattle.std.proofs.Common.{◌∙◌, ap, refl}
use Rattle.std.specs.Option.{option_map}
use Rattle.store_core.specs.Tables.{type_named}
use Rattle.store_core.specs.TypeBodies.{type_entry}
use Rattle.store_core.proofs.Names.{position-keys}
use Rattle.store_core.proofs.types.TypeTable.find_type.Goals as goal

pub returns-in-Some : goal.returns-in-Some
returns-in-Some c =
    ap (option_map (λ i. record { 0 = i }))
    (c.in-Some.ensures.index ∙ position-keys c.args.name.now type_entry (λ t. t.name) (λ e. refl) c.self.inside.types.entries)
    ∙ ap (λ t. type_named t c.args.name.now) c.self.view_is

pub returns-in-None : goal.returns-in-None
returns-in-None c =
    ap (option_map (λ i. record { 0 = i }))
    (c.in-None.ensures.index ∙ position-keys c.args.name.now type_entry (λ t. t.name) (λ e. refl) c.self.inside.types.entries)
    ∙ ap (λ t. type_named t c.args.name.now) c.self.view_is
