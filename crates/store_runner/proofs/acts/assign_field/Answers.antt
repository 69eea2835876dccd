use Rattle.std.proofs.Common.{subst}
use Rattle.store_logic.specs.declared.act.Rhs.{Rhs}
use Rattle.store_logic.specs.declared.act.Rhs.TheVariants as rhs
use Rattle.store_logic.specs.Terms.{cell_in}
use Rattle.store_exec.specs.Steps.{made_of, read_along, variable}
use Rattle.store_exec.specs.Ready.{TakesFieldClass}
use Rattle.store_runner.proofs.BelowLemmas.{cell-below}
use Rattle.store_runner.proofs.FieldLemmas.{found-told, class-through, new-class}
use Rattle.store_runner.proofs.acts.assign_field.Goals as goal

pub write_new-requires-clause-below : goal.write_new-requires-clause-below
write_new-requires-clause-below c =
    let s = c.args.store.now in
    let found = found-told (made_of cell_in (read_along s (variable s c.args.var) c.args.before.now)) c.cell_at.result c.in_ok-through.through
    c.cell_at.ensures c.in_ok-through.was in
    cell-below s c.requires.fresh c.args.var c.args.before.now c.in_ok-through.through found

pub write_new-requires-clause-class : goal.write_new-requires-clause-class
write_new-requires-clause-class c =
    let s = c.args.store.now in
    let through = c.in_ok-through.through in
    let found = found-told (made_of cell_in (read_along s (variable s c.args.var) c.args.before.now)) c.cell_at.result through
    c.cell_at.ensures c.in_ok-through.was in
    new-class c.args.types.now s c.in-New.variant c.args.last through (cell-below s c.requires.fresh c.args.var c.args.before.now through found)
    (class-through c.args.types.now s c.args.var c.args.before.now c.args.last (rhs.New c.in-New.variant) through found
    (subst (λ (x : Rhs). TakesFieldClass c.args.types.now s c.args.var c.args.before.now c.args.last x) c.in-New.is c.requires.class))
