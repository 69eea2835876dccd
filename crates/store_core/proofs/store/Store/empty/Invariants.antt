use Rattle.std.proofs.Common.{◌≡◌, map, take}
use Rattle.store_core.specs.Stores.{blank, var_class}
use Rattle.store_core.proofs.store.Store.empty.Given as goal

-- the variables so far have their values
abbrev pub invariant-loop-index : goal.invariant-loop-index
invariant-loop-index l = l.values ≡ map (λ v. blank (var_class v.kind)) (take l.index l.vars)
