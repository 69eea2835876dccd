use Rattle.std.proofs.Common.{ap, List}
use Rattle.store_core.specs.declared.store.CellBody.{CellBody}
use Rattle.store_core.specs.StoreBodies.{store_of}
use Rattle.store_core.proofs.Freed.{IsStored-live, live_of-live}
use Rattle.store_core.proofs.store.Store.of.Goals as goal

pub invariant_of-result : goal.invariant_of-result
invariant_of-result c = IsStored-live c.args.cells.items c.args.next c.requires.kept c.requires.live

pub returns : goal.returns
returns c = ap (λ (bodies : List CellBody). store_of bodies c.args.vars c.args.next) (live_of-live c.args.cells.items c.requires.live)
