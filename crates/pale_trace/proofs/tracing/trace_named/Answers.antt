use Rattle.std.proofs.Common.{◌∷◌, Result, subst}
use Rattle.std.specs.Prelude.{IfOk, IfErr}
use Rattle.store_text.specs.Lines.{lines_of}
use Rattle.store_text.specs.declared.fault.StoreKind.{StoreKind}
use Rattle.pale_typed.specs.declared.typed.ProcEntry.{ProcEntry}
use Rattle.pale_run.specs.declared.naming.NamedRun.{NamedRun}
use Rattle.pale_run.specs.Running.{NamesRun, NamesNoRun}
use Rattle.pale_trace.proofs.TellingLemmas.{says_refused, says_named, unnamed}
use Rattle.pale_trace.proofs.tracing.trace_named.Goals as goal

pub returns-in-Ok : goal.returns-in-Ok
returns-in-Ok c =
    let whole = c.args.whole.now in
    let line = c.args.line.now in
    let (e, names) = subst (λ (r : Result NamedRun StoreKind).
    IfOk r (λ run. (e : ProcEntry) × NamesRun whole.typed line run.number run.steps e)) c.in-Ok.is c.in_ok-named.ensures.named in
    says_named whole.typed whole.triples c.args.text.now line c.in-Ok.named.number c.in-Ok.named.steps e names c.trace_in_run.result c.trace_in_run.ensures

pub returns-in-Err : goal.returns-in-Err
returns-in-Err c =
    let whole = c.args.whole.now in
    let line = c.args.line.now in
    let text = c.args.text.now in
    let none = subst (λ (r : Result NamedRun StoreKind). IfErr r (NamesNoRun whole.typed line)) c.in-Err.is c.in_ok-named.ensures.unnamed in
    says_refused whole.typed whole.triples (line ∷ lines_of text) 1 c.in-Err.kind
    (unnamed whole.typed whole.triples text line c.in-Err.kind c.requires.other none) c.store_refused.result c.store_refused.ensures
