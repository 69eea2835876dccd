use Rattle.std.proofs.Common.{◌≡◌, ◌++◌, drop}
use Rattle.graph_view.specs.Cuts.{two_fields, pairs}
use Rattle.graph_view.specs.Sights.{sight_of}
use Rattle.graph_type.proofs.shared.push_field_pairs.Given as goal

abbrev pub invariant-loop-place : goal.invariant-loop-place
invariant-loop-place l = l.parts.items ++ pairs (two_fields l.l.types (sight_of l.l.vars l.view) l.fn.next l.fn.c) (drop l.place l.fields)
    ≡ l.initial.parts.items ++ pairs (two_fields l.l.types (sight_of l.l.vars l.view) l.fn.next l.fn.c) l.fields
