use Rattle.std.proofs.Common.{ℕ, ◌<◌}
use Rattle.store_core.specs.declared.ids.CellId.{CellId}
use Rattle.routing_walks.specs.Walks.{DataAlone, Leads}
use Rattle.routing_expr.proofs.search.Search.is_leaf.Given as goal

-- no field so far is a data field that leads to a cell
abbrev pub invariant-loop-index : goal.invariant-loop-index
invariant-loop-index l = (i : ℕ) (d : CellId) → i < l.index → Leads l.self.types.now l.self.store.now DataAlone (record { ty = l.ty; index = i }) l.cell d → ⊥
