use Rattle.std.proofs.Common.{◌≡◌, flat_map, take}
use Rattle.graph_view.specs.Cuts.{wrong_parts}
use Rattle.graph_view.specs.Sights.{sight_of}
use Rattle.graph_type.proofs.cuts.each_wrong.Given as goal

abbrev pub invariant-loop-f : goal.invariant-loop-f
invariant-loop-f l = l.parts.items ≡ flat_map (wrong_parts l.l.types (sight_of l.l.vars l.view) l.fn.next) (take l.f-index l.fields)
