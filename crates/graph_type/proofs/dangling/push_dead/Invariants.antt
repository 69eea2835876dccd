use Rattle.std.proofs.Common.{◌≡◌, ◌++◌, map, take}
use Rattle.graph_view.specs.Live.{is_dead}
use Rattle.graph_view.specs.Sights.{sight_of}
use Rattle.graph_type.proofs.dangling.push_dead.Given as goal

abbrev pub invariant-loop-value : goal.invariant-loop-value
invariant-loop-value l = l.parts.items ≡ l.initial.parts.items ++ map (is_dead l.l.types (sight_of l.l.vars l.view) l.fn.next) (take l.value-index l.cells)
