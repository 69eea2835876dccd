use Rattle.std.proofs.Common.{◌≡◌, ◌++◌, map, drop}
use Rattle.pale_tables.specs.Faults.{first_of}
use Rattle.pale_tables.specs.Routes.{route_of, route_fault}
use Rattle.pale_tables.proofs.routes.+routes.Given as goal

-- what came before has no fault, and the routes that are left come behind those that were found
abbrev pub invariant-read_each-loop-route : goal.invariant-read_each-loop-route
invariant-read_each-loop-route l = record {
  faults : first_of (route_fault l.names l.followed) l.routes ≡ first_of (route_fault l.names l.followed) (drop l.route-index l.routes);
  found : l.found ++ map (route_of l.names) (drop l.route-index l.routes) ≡ map (route_of l.names) l.routes;
}
