use Rattle.std.proofs.Common.{◌≡◌, ◌+◌, map, drop}
use Rattle.pale_tables.specs.Sizes.{route_size, others_size}
use Rattle.pale_tables.proofs.route_sizes.+sizes.Given as goal

-- what is left and all parts are together what there was and the parts that aren't looked at yet
abbrev pub invariant-left_behind_others-loop-route : goal.invariant-left_behind_others-loop-route
invariant-left_behind_others-loop-route l =
    l.left + others_size (map route_size l.others) ≡ l.fn.most + others_size (map route_size (drop l.route-index l.others))
