use Rattle.std.proofs.Common.{arith}
use Rattle.store_core.specs.StoreBodies.{live_of}
use Rattle.store_core.proofs.Cells.{count_is}
use Rattle.store_core.proofs.Freed.{order_live}
use Rattle.store_core.proofs.store.Store.cells.Goals as goal

pub returns : goal.returns
returns c =
    let bodies = c.self.inside.cells.items in
    omega (
      arith,
      c.len.ensures,
      c.self.inside.cells.ok.0,
      c.self.invariant.count,
      count_is (live_of bodies) (order_live bodies c.self.invariant.kept.rising) c.self.inside.vars c.self.inside.next c.args.self.now c.self.view_is,
    )
