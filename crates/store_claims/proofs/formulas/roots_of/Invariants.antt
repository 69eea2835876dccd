use Rattle.std.proofs.Common.{◌≡◌, map, take}
use Rattle.site_list.specs.States.{value_of}
use Rattle.store_claims.proofs.formulas.roots_of.Given as goal

abbrev pub invariant-loop-v : goal.invariant-loop-v
invariant-loop-v l = l.roots ≡ map (value_of l.values) (take l.v-index l.vars)
