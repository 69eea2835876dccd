use Rattle.std.proofs.Common.{ℕ, ◌<◌, IfSome, slice_get}
use Rattle.store_core.specs.Tables.{KnowsVarKind}
use Rattle.store_claims.proofs.known.knows_vars.Given as goal

abbrev pub invariant-loop-index : goal.invariant-loop-index
invariant-loop-index l = (k : ℕ) → k < l.index → IfSome (slice_get l.vars k) (λ entry. KnowsVarKind l.types entry.kind)
