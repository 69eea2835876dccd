use Rattle.std.proofs.Common.{refl}
use Rattle.store_core.specs.Stores.{CellEntry, cell_of}
use Rattle.routing_expr.proofs.IndexLemmas.{live-mapped, dead-mapped}
use Rattle.store_sat.proofs.atoms.is_covered.Goals as goal

pub returns-in-Some : goal.returns-in-Some
returns-in-Some c = (
  λ yes live. c.has.ensures.0 yes,
  λ h. c.has.ensures.1 (h (live-mapped (cell_of c.args.store.now c.args.cell) (λ (cell : CellEntry). cell.variant.ty) _ c.in-Some.ensures)),
)

pub returns-in-None : goal.returns-in-None
returns-in-None c = (
  λ yes live. absurd (dead-mapped (cell_of c.args.store.now c.args.cell) (λ (cell : CellEntry). cell.variant.ty) c.in-None.ensures live),
  λ h. refl,
)
