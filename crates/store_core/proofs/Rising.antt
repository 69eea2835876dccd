-- Lists of cells in rising order, one longer.
use Rattle.std.proofs.Common.{◌<◌, List, [], ◌∷◌, ◌++◌}
use Rattle.std.specs.List.{AllByRecursion}
use Rattle.store_core.specs.declared.ids.CellId.{CellId}
use Rattle.store_core.specs.CellLists.{AreRising}
use Rattle.store_core.proofs.Growing.{AllByRecursion-push}

-- a cell above all others may go last
pub AreRising-push : (cells : List CellId) (cell : CellId) → AreRising cells → AllByRecursion (λ d. d.0 < cell.0) cells → AreRising (cells ++ cell ∷ [])
AreRising-push [] cell rising below = (tt, tt)
AreRising-push (c ∷ cells) cell rising below = (AllByRecursion-push (λ d. c.0 < d.0) cells cell rising.0 below.0, AreRising-push cells cell rising.1 below.1)
