use Rattle.std.proofs.Common.{Result, subst, sym}
use Rattle.std.specs.Prelude.{IfOk, IfErr}
use Rattle.store_text.specs.Lines.{lines_of}
use Rattle.store_text.specs.declared.fault.StoreKind.{StoreKind}
use Rattle.store_text.specs.declared.fault.StoreKind.TheVariants.{Missing}
use Rattle.pale_typed.specs.declared.typed.ProcEntry.{ProcEntry}
use Rattle.pale_run.specs.declared.naming.NamedRun.{NamedRun}
use Rattle.pale_run.specs.Running.{NamesRun, NamesNoRun}
use Rattle.pale_run.proofs.TellingLemmas.{says_refused, empty_part, unnamed, says_part}
use Rattle.pale_run.proofs.running.run_part.Goals as goal

pub returns-then-is_empty : goal.returns-then-is_empty
returns-then-is_empty c =
    let program = c.args.program.now in
    let part = c.args.part.now in
    says_refused program (lines_of part) 1 Missing (empty_part program part (sym c.if-is_empty.ensures)) c.store_refused.result c.store_refused.ensures

pub returns-in-Ok : goal.returns-in-Ok
returns-in-Ok c =
    let program = c.args.program.now in
    let line = c.split_line.result.0.now in
    let (e, names) = subst (λ (r : Result NamedRun StoreKind).
    IfOk r (λ run. (e : ProcEntry) × NamesRun program line run.number run.steps e)) c.in-Ok.is c.in_ok-named.ensures.named in
    says_part program c.args.part.now line c.split_line.result.1.now c.split_line.ensures.lines c.in-Ok.named.number c.in-Ok.named.steps e names
    c.run_text.result c.run_text.ensures

pub returns-in-Err : goal.returns-in-Err
returns-in-Err c =
    let program = c.args.program.now in
    let line = c.split_line.result.0.now in
    let none = subst (λ (r : Result NamedRun StoreKind). IfErr r (NamesNoRun program line)) c.in-Err.is c.in_ok-named.ensures.unnamed in
    says_refused program (lines_of c.args.part.now) 1 c.in-Err.kind
    (unnamed program c.args.part.now line c.split_line.result.1.now c.split_line.ensures.lines c.in-Err.kind none)
    c.store_refused-in-Err.result c.store_refused-in-Err.ensures
