use Rattle.std.proofs.Common.{◌≡◌, take}
use Rattle.std.specs.List.{filter}
use Rattle.std.specs.FinMap.{entries}
use Rattle.store_core.specs.StoreBodies.{cells_of, AreLive}
use Rattle.whole_handing.specs.Handed.{is_on}
use Rattle.whole_handing.proofs.cells.bodies_on.Given as goal

-- the cells so far that are kept
abbrev pub invariant-loop-place : goal.invariant-loop-place
invariant-loop-place l =
    (cells_of l.kept.items ≡ filter (λ e. is_on l.cells l.inside e.0) (take l.place (entries l.store.cells))) × AreLive l.kept.items
