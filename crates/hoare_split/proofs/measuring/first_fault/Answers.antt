use Rattle.std.proofs.Common.{None, min, ap, ◌∙◌, subst}
use Rattle.hoare_split.specs.declared.counts.Count.{Count}
use Rattle.hoare_split.specs.Statements.{block_of}
use Rattle.hoare_split.specs.Callers.{procs_of, vars_of}
use Rattle.hoare_split.proofs.MeasuresStatementLemmas.{Measured, measured-procedure}
use Rattle.hoare_split.proofs.measuring.first_fault.Goals as goal

pub returns : goal.returns
returns c =
    let caller = c.args.caller.now in
    let body = subst (λ body. Measured (block_of (procs_of caller) (vars_of caller) body) c.of_atoms-exit.result c.measure_block-body.result None
    c.measure_block-body.new.found) c.as_slice.ensures
    (record { count = c.measure_block-body.ensures.count; found = c.measure_block-body.ensures.found }) in
    measured-procedure (procs_of caller) (vars_of caller) caller.proc.now c.of_atoms-exit.result c.measure_block-body.result
    c.measure_block-body.new.found c.look.new.found
    (c.of_atoms-exit.ensures ∙ ap (λ n. let made : Count = record { atoms = min 129 n; news = 0 } in made) c.picked_count.ensures)
    body c.look.ensures
