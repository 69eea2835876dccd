use Rattle.std.proofs.Common.{◌≡◌, ◌++◌, map, take}
use Rattle.graph_view.specs.Cuts.{field_dangles}
use Rattle.graph_view.specs.Sights.{sight_of}
use Rattle.graph_type.proofs.dangling.push_dangling.Given as goal

abbrev pub invariant-loop-f : goal.invariant-loop-f
invariant-loop-f l = l.parts.items ≡ l.initial.parts.items ++ map (field_dangles l.l.types (sight_of l.l.vars l.view) l.fn.next) (take l.f-index l.fields)
