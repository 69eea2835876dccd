use Rattle.std.proofs.Common.{◌≡◌, take}
use Rattle.field_judge.specs.OneEach.{vars_from}
use Rattle.field_judge.proofs.variables.one_each.Given as goal

-- those of the types so far
abbrev pub invariant-loop-index : goal.invariant-loop-index
invariant-loop-index l = l.vars ≡ vars_from 0 (take l.index l.types)
