use Rattle.std.proofs.Common.{◌<◌, sym, subst}
use Rattle.std.specs.List.{AllByRecursion}
use Rattle.store_core.specs.CellLists.{AreRising}
use Rattle.store_core.proofs.Rising.{AreRising-push}
use Rattle.store_core.proofs.value.CellList.push.Goals as goal

pub invariant_of-self-2 : goal.invariant_of-self-2
invariant_of-self-2 c =
    subst AreRising (sym c.in_ok-push.ensures.items)
    (AreRising-push c.self.inside.cells.items c.args.cell c.self.invariant (subst (AllByRecursion (λ d. d.0 < c.args.cell.0)) (sym c.self.view_is) c.requires))
