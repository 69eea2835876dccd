use Rattle.std.proofs.Common.{◌≡◌, take, filter}
use Rattle.store_core.specs.declared.ids.CellId.{CellId}
use Rattle.routing_walks.specs.Regions.{has_number}
use Rattle.whole_handing.proofs.handing.cells_on.Given as goal

-- those so far
abbrev pub invariant-loop-cell : goal.invariant-loop-cell
invariant-loop-cell l = l.on ≡ filter (λ (c : CellId). has_number l.cells c.0) (take l.cell-index l.others)
