use Rattle.std.proofs.Common.{◌≡◌, map, take}
use Rattle.graph_view.specs.Routes.{names}
use Rattle.graph_view.specs.Sights.{sight_of}
use Rattle.graph_routes.proofs.walks.each_names.Given as goal

abbrev pub invariant-loop-f : goal.invariant-loop-f
invariant-loop-f l = l.parts.items ≡ map (λ f. names l.l.types (sight_of l.l.vars l.view) l.fn.next f l.fn.a l.fn.b) (take l.f-index l.fields)
