use Rattle.std.proofs.Common.{◌≡◌, map, take}
use Rattle.graph_view.specs.Routes.{has_truth}
use Rattle.graph_view.specs.Sights.{sight_of}
use Rattle.graph_cells.proofs.steps.each_truth.Given as goal

abbrev pub invariant-loop-f : goal.invariant-loop-f
invariant-loop-f l = l.parts.items ≡ map (has_truth l.l.types (sight_of l.l.vars l.view) l.fn.value l.fn.next l.fn.a) (take l.f-index l.fields)
