use Rattle.std.proofs.Common.{sym}
use Rattle.store_core.proofs.Bodies.{IsBodyOf-at}
use Rattle.store_core.proofs.types.TypeTable.body.Goals as goal

pub returns-clause-found : goal.returns-clause-found
returns-clause-found c =
    IsBodyOf-at c.self.inside.types.entries c.args.self.now c.args.ty c.in_ok-body.field-0-0.now c.in_ok-body.body.now
    c.self.view_is c.self.invariant (sym c.in_ok-body.ensures.entry)
