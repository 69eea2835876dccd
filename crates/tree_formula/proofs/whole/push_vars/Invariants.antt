use Rattle.std.proofs.Common.{◌≡◌, ◌++◌, flat_map}
use Rattle.tree_formula.specs.WellEncoded.{named, var_id, var_parts}
use Rattle.tree_formula.proofs.whole.push_vars.Given as goal

abbrev pub invariant-loop-index : goal.invariant-loop-index
invariant-loop-index l = l.parts.items ≡ l.initial.parts.items ++ flat_map (var_parts l.next l.l.types l.l.vars) (named var_id l.index)
