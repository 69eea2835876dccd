use Rattle.std.proofs.Common.{◌≡◌, drop}
use Rattle.std.specs.Prelude.{flat_map}
use Rattle.pale_calls.specs.Calls.{allowed_each, cell_name}
use Rattle.pale_calls.proofs.touched.allow_cells.Given as goal

-- the arguments that are left are still to come
abbrev pub invariant-loop-argument : goal.invariant-loop-argument
invariant-loop-argument l =
    allowed_each l.may l.scope (flat_map (cell_name l.vars) (drop l.argument-index l.arguments))
    ≡ allowed_each l.may l.fn.scope (flat_map (cell_name l.vars) l.arguments)
