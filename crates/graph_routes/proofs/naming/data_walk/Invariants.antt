use Rattle.std.proofs.Common.{◌≡◌, Some, [], ◌∷◌, map, reverse, drop}
use Rattle.graph_view.specs.Routes.{walk_rules, walk_by, names_by_data}
use Rattle.graph_view.specs.Fields.{is_data}
use Rattle.graph_view.specs.Sights.{sight_of}
use Rattle.graph_routes.specs.Legs.{part_of, run_on}
use Rattle.graph_routes.proofs.naming.data_walk.Given as goal

abbrev pub invariant-loop-leg : goal.invariant-loop-leg
invariant-loop-leg l = run_on (walk_rules l.l.types (sight_of l.l.vars l.view) (names_by_data l.l.types (sight_of l.l.vars l.view)) is_data) (map
    part_of (drop l.leg-index l.leg-items)) (reverse l.made.items)
    ≡ Some (walk_by l.l.types (sight_of l.l.vars l.view) (names_by_data l.l.types (sight_of l.l.vars l.view)) is_data l.route l.fn.next l.fn.from l.fn.to ∷ [])
