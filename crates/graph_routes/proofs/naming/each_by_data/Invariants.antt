use Rattle.std.proofs.Common.{◌≡◌, map, take}
use Rattle.graph_view.specs.Routes.{names_by_data}
use Rattle.graph_view.specs.Sights.{sight_of}
use Rattle.graph_routes.proofs.naming.each_by_data.Given as goal

abbrev pub invariant-loop-f : goal.invariant-loop-f
invariant-loop-f l = l.parts.items ≡ map (λ f. names_by_data l.l.types (sight_of l.l.vars l.view) l.fn.next f l.fn.a l.fn.b) (take l.f-index l.fields)
