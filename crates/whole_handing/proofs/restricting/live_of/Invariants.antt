use Rattle.std.proofs.Common.{◌≡◌, take, filter, is_some}
use Rattle.store_core.specs.declared.ids.CellId.{CellId}
use Rattle.store_core.specs.Stores.{cell_of}
use Rattle.whole_handing.proofs.restricting.live_of.Given as goal

-- those so far
abbrev pub invariant-loop-cell : goal.invariant-loop-cell
invariant-loop-cell l = l.live ≡ filter (λ (c : CellId). is_some (cell_of l.store c)) (take l.cell-index l.cells)
