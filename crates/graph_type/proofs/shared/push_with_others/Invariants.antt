use Rattle.std.proofs.Common.{◌≡◌, ◌++◌, map, take}
use Rattle.graph_view.specs.Cuts.{two_fields}
use Rattle.graph_view.specs.Sights.{sight_of}
use Rattle.graph_type.proofs.shared.push_with_others.Given as goal

abbrev pub invariant-loop-g : goal.invariant-loop-g
invariant-loop-g l = l.parts.items ≡ l.initial.parts.items ++ map (two_fields l.l.types (sight_of l.l.vars l.view) l.fn.next l.fn.c l.fn.f) (take
    l.g-index l.others)
