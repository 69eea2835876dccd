use Rattle.std.proofs.Common.{◌↔◌, List, Option, IsSomeAnd, IsTrue, IfOk, subst, sym}
use Rattle.store_core.specs.declared.ids.VarId.{VarId}
use Rattle.store_exec.specs.Cuts.{Escapes}
use Rattle.store_runner.proofs.cuts.escapes_at.Goals as goal

pub returns-in-Some : goal.returns-in-Some
returns-in-Some c = subst (λ (o : Option (List VarId)). IfOk c.has_escape.result
    (λ found. IsTrue found ↔ IsSomeAnd o (λ roots. Escapes c.args.types.now c.args.vars.now c.args.store.now roots c.args.inside.now))) (sym c.in-Some.is)
    (subst (λ (xs : List VarId). IfOk c.has_escape.result (λ found. IsTrue found ↔ Escapes c.args.types.now c.args.vars.now c.args.store.now xs
    c.args.inside.now))
    c.as_slice.ensures c.has_escape.ensures)
