use Rattle.store_core.specs.declared.ids.CellId.{CellId}
use Rattle.routing_walks.specs.Gathering.{Before}
use Rattle.routing_expr.proofs.StepLemmas.{LinkOf, IsData}
use Rattle.routing_expr.proofs.search.Search.is_root.Given as goal

-- no link so far is by a data field
abbrev pub invariant-loop-link : goal.invariant-loop-link
invariant-loop-link l = (a : CellId) → Before (LinkOf l.link-items (IsData l.self.types.now)) l.link-index a → ⊥
