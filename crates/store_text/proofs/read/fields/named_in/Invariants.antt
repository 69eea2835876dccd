use Rattle.std.proofs.Common.{◌≡◌, ◌++◌, drop}
use Rattle.std.specs.Option.{option_map}
use Rattle.store_core.specs.Tables.{fields_of}
use Rattle.store_text.specs.Saying.{named_in}
use Rattle.store_text.proofs.read.fields.named_in.Given as goal

abbrev pub invariant-loop-index : goal.invariant-loop-index
invariant-loop-index l =
    option_map (λ more. l.named ++ more) (named_in l.line l.v.index (drop l.index (fields_of l.types l.v.ty)) (drop l.index l.values))
    ≡ named_in l.line l.v.index (fields_of l.types l.v.ty) l.values
