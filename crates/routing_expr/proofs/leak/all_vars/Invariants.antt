use Rattle.std.proofs.Common.{◌<◌}
use Rattle.std.specs.Prelude.{Contains}
use Rattle.store_core.specs.declared.ids.VarId.{VarId}
use Rattle.routing_expr.proofs.leak.all_vars.Given as goal

abbrev pub invariant-loop-index : goal.invariant-loop-index
invariant-loop-index l = (v : VarId) → v.0 < l.index → Contains l.roots.items v
