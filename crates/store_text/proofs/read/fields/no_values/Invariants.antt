use Rattle.std.proofs.Common.{◌≡◌, take, map, None}
use Rattle.store_core.specs.Tables.{fields_of}
use Rattle.store_text.proofs.read.fields.no_values.Given as goal

abbrev pub invariant-loop-place : goal.invariant-loop-place
invariant-loop-place l = l.values ≡ map (λ f. None) (take l._place (fields_of l.types l.fn.ty))
