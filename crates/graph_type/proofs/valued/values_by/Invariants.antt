use Rattle.std.proofs.Common.{◌≡◌, take}
use Rattle.graph_view.specs.Cuts.{values_by}
use Rattle.graph_type.specs.Valued.{value_of}
use Rattle.graph_type.proofs.valued.values_by.Given as goal

abbrev pub invariant-loop-index : goal.invariant-loop-index
invariant-loop-index l = l.found.items ≡ values_by (value_of l.fn.pointers) (take l.index l.vars) l.values
