use Rattle.std.proofs.Common.{sym, ◌∙◌}
use Rattle.store_runner.proofs.BelowLemmas.{written-err}
use Rattle.store_runner.proofs.acts.write.Goals as goal

pub returns-in-Err-clause-leads : goal.returns-in-Err-clause-leads
returns-in-Err-clause-leads c =
    written-err c.args.store.now c.args.through c.args.field c.args.stored c.in-Err.cause (sym c.written_cell.ensures ∙ c.in-Err.is)
