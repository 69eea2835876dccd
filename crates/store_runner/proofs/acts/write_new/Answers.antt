use Rattle.std.proofs.Common.{Some, sym, ◌∙◌}
use Rattle.store_core.specs.declared.value.Value.TheVariants as value
use Rattle.store_core.specs.Stores.{put_cell}
use Rattle.store_runner.proofs.BelowLemmas.{kept-written, written-err, new-fits, new-written}
use Rattle.store_runner.proofs.acts.write_new.Goals as goal

pub set_field-requires : goal.set_field-requires
set_field-requires c = new-fits c.args.types.now c.args.store.now c.args.variant c.args.through c.args.field c.in-Ok.cell c.requires.below
    (sym c.written_cell.ensures ∙ c.in-Ok.is) c.requires.class c.put_cell.new.self c.in_ok-made-in-Ok.ensures.put

pub returns-in_ok-made-in-Ok-clause-leads : goal.returns-in_ok-made-in-Ok-clause-leads
returns-in_ok-made-in-Ok-clause-leads c = new-written c.args.types.now c.args.store.now c.args.variant c.args.through c.args.field c.in-Ok.cell c.requires.below
    (sym c.written_cell.ensures ∙ c.in-Ok.is) c.in_ok-made-in-Ok.made c.put_cell.new.self c.set_field.new.self c.in_ok-made-in-Ok.ensures.put
    c.in_ok-made-in-Ok.ensures.value c.set_field.ensures

pub returns-in-Err-clause-leads : goal.returns-in-Err-clause-leads
returns-in-Err-clause-leads c =
    let s = c.args.store.now in
    written-err (put_cell s c.args.types.now c.args.variant) c.args.through c.args.field (value.Cell (Some (record { 0 = s.next }))) c.in-Err.cause
    (kept-written c.args.types.now s c.args.variant c.args.through c.args.field c.requires.below ∙ sym c.written_cell.ensures ∙ c.in-Err.is)
