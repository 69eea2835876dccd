use Rattle.std.proofs.Common.{slice_get, ap, ◌∙◌}
use Rattle.std.specs.Option.{option_map, option_and_then}
use Rattle.store_core.specs.Tables.{place_of}
use Rattle.pale_tables.proofs.NamesLemmas.{variant-missing, variant-found, variant-at}
use Rattle.pale_tables.proofs.type_names.TypeNames.find_variant.Goals as goal

pub returns-in_default-clause-stop : goal.returns-in_default-clause-stop
returns-in_default-clause-stop c =
    rw c.unknown.ensures
    (variant-missing c.args.self.now c.args.ty.now c.args.v.now c.in_ok-ty.ty c.in_ok-ty.ensures.ty
    (variant-at c.args.self.now c.in_ok-ty.ty c.args.v.now.bytes c.place_in-found.result
    (c.place_in-found.ensures ∙ ap (λ name. option_and_then (place_of name) (slice_get c.args.self.now.variants c.in_ok-ty.ty.0)) c.as_slice.ensures)
    ∙ ap (option_map (λ i. record { ty = c.in_ok-ty.ty; index = i })) c.in_default.is))

pub returns-in-Ok-clause-met : goal.returns-in-Ok-clause-met
returns-in-Ok-clause-met c =
    variant-found c.args.self.now c.args.ty.now c.args.v.now c.in_ok-ty.ty _ c.in_ok-ty.ensures.ty
    (variant-at c.args.self.now c.in_ok-ty.ty c.args.v.now.bytes c.place_in-found.result
    (c.place_in-found.ensures ∙ ap (λ name. option_and_then (place_of name) (slice_get c.args.self.now.variants c.in_ok-ty.ty.0)) c.as_slice.ensures)
    ∙ ap (option_map (λ i. record { ty = c.in_ok-ty.ty; index = i })) c.in-Some.is)
