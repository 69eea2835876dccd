use Rattle.std.proofs.Common.{◌≡◌, map, drop}
use Rattle.pale_calls.specs.Calls.{allowed_each}
use Rattle.pale_calls.proofs.touched.allow_results.Given as goal

-- the names that are left are still to come
abbrev pub invariant-loop-name : goal.invariant-loop-name
invariant-loop-name l =
    allowed_each l.may l.scope (map (λ x. x.bytes) (drop l.name-index l.names)) ≡ allowed_each l.may l.fn.scope (map (λ x. x.bytes) l.names)
