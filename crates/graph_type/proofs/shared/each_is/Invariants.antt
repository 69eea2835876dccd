use Rattle.std.proofs.Common.{◌≡◌, map, take}
use Rattle.graph_view.specs.Syms.{is_in}
use Rattle.graph_type.proofs.shared.each_is.Given as goal

abbrev pub invariant-loop-value : goal.invariant-loop-value
invariant-loop-value l = l.parts.items ≡ map (is_in l.fn.next l.fn.c) (take l.value-index l.values)
