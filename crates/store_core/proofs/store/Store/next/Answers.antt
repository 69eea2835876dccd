use Rattle.store_core.specs.StoreBodies.{live_of}
use Rattle.store_core.proofs.Cells.{IsAbove-cells}
use Rattle.store_core.proofs.Freed.{IsKept-live}
use Rattle.store_core.proofs.store.Store.next.Goals as goal

pub returns-clause-above : goal.returns-clause-above
returns-clause-above c =
    let bodies = c.self.inside.cells.items in
    IsAbove-cells (live_of bodies) c.self.inside.vars c.self.inside.next c.args.self.now c.self.view_is
    (IsKept-live bodies c.self.inside.next c.self.invariant.kept)
