use Rattle.std.proofs.Common.{◌∙◌, List, option_map, sym, ap, subst}
use Rattle.store_core.specs.Tables.{TypeEntry}
use Rattle.store_exec.specs.declared.triple.Start.{Start}
use Rattle.store_exec.specs.Fits.{StartFits}
use Rattle.hoare_split.specs.Callers.{entry_of}
use Rattle.pale_run.proofs.EntryLemmas.{start_fits}
use Rattle.pale_run.proofs.running.begin_run.Goals as goal

pub begin-requires-clause-start : goal.begin-requires-clause-start
begin-requires-clause-start c =
    let program = c.args.program.now in
    let caller = c.in-Some.caller in
    let there = sym c.caller_at.ensures.entry ∙ ap (option_map entry_of) c.in-Some.is in
    subst (λ (ts : List TypeEntry). StartFits ts caller.vars.now c.in_ok-start.start) (sym c.types.ensures)
    (subst (λ (st : Start). StartFits program.types caller.vars.now st) (sym c.in_ok-start.ensures)
    (start_fits program c.args.number (entry_of caller) there c.requires.program))
