use Rattle.std.proofs.Common.{◌≡◌, ℕ, ◌<◌, None, get_or}
use Rattle.store_core.specs.declared.ids.CellId.{CellId}
use Rattle.store_core.specs.Stores.{cell_of}
use Rattle.routing_expr.proofs.dangling.holds_dead.Given as goal

abbrev pub invariant-loop-cell : goal.invariant-loop-cell
invariant-loop-cell l = (k : ℕ) (d : CellId) → k < l.cell-index → cell_of l.store (get_or l.cells k d) ≡ None → ⊥
