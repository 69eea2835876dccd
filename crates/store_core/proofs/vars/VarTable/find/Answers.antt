use Rattle.std.proofs.Common.{◌∙◌, ap, refl}
use Rattle.std.specs.Option.{option_map}
use Rattle.store_core.specs.Tables.{var_named}
use Rattle.store_core.specs.VarBodies.{var_entry}
use Rattle.store_core.proofs.Names.{position-keys}
use Rattle.store_core.proofs.vars.VarTable.find.Goals as goal

pub returns-in-Some : goal.returns-in-Some
returns-in-Some c =
    ap (option_map (λ i. record { 0 = i }))
    (c.in-Some.ensures.index ∙ position-keys c.args.name.now var_entry (λ t. t.name) (λ e. refl) c.self.inside.vars.entries)
    ∙ ap (λ t. var_named t c.args.name.now) c.self.view_is

pub returns-in-None : goal.returns-in-None
returns-in-None c =
    ap (option_map (λ i. record { 0 = i }))
    (c.in-None.ensures.index ∙ position-keys c.args.name.now var_entry (λ t. t.name) (λ e. refl) c.self.inside.vars.entries)
    ∙ ap (λ t. var_named t c.args.name.now) c.self.view_is
