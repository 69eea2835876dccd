use Rattle.std.proofs.Common.{◌<◌, length, subst, arith}
use Rattle.store_core.specs.Tables.{fields_of}
use Rattle.store_text.proofs.SayingLemmas.{field_had-ty, some_within}
use Rattle.store_text.proofs.read.fields.say_field.Goals as goal

pub set-requires : goal.set-requires
set-requires c =
    let field = c.in_ok-field.field in
    let here = some_within (λ entry. entry.kind) (fields_of c.args.types.now field.ty) field.index c.in-Some.kind.now c.in-Some.ensures in
    let within : field.index < length (fields_of c.args.types.now c.args.v.ty) =
    subst (λ ty. field.index < length (fields_of c.args.types.now ty))
    (field_had-ty c.args.types.now c.args.v c.as_slice.result.now field c.in_ok-field.ensures) here in
    omega (arith, within, c.requires)
