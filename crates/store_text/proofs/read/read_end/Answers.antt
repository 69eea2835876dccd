use Rattle.std.proofs.Common.{Err, ap, ◌∙◌, sym}
use Rattle.std.specs.List.{find}
use Rattle.store_text.specs.declared.fault.StoreFault.{StoreFault}
use Rattle.store_text.specs.Lines.{lines_of}
use Rattle.store_text.specs.Reading.{is_misnamed, fault_at}
use Rattle.store_text.proofs.ReadingLemmas.{read_end-missing, read_end-store, after_end-over, after_end-more, checked-fine, checked-wrong}
use Rattle.store_text.proofs.read.read_end.Goals as goal

pub returns-in-Err-clause-fault : goal.returns-in-Err-clause-fault
returns-in-Err-clause-fault c = λ n.
    let why = c.in-Err.ensures.stop (λ e. n (ap (λ (f : StoreFault). f.kind) c.fault_at.ensures ∙ e)) in
    read_end-missing c.args.line c.args.draft (lines_of c.args.after.now) why.1 ∙ ap (fault_at c.args.line) (sym why.0) ∙ ap Err (sym c.fault_at.ensures)

pub returns-then-not-is_empty-clause-fault : goal.returns-then-not-is_empty-clause-fault
returns-then-not-is_empty-clause-fault c = λ n.
    read_end-store c.args.line c.args.draft (lines_of c.args.after.now) c.in-Ok.made.0 c.in-Ok.ensures.store.1
    ∙ after_end-more c.args.line c.in-Ok.made.0 c.args.draft.mentions c.args.after.now (sym c.if-not-is_empty.ensures)
    ∙ ap Err (sym c.fault_at-then-not-is_empty.ensures)

pub returns-in-None-clause-store : goal.returns-in-None-clause-store
returns-in-None-clause-store c =
    read_end-store c.args.line c.args.draft (lines_of c.args.after.now) c.in-Ok.made.0 c.in-Ok.ensures.store.1
    ∙ after_end-over c.args.line c.in-Ok.made.0 c.args.draft.mentions c.args.after.now (sym c.if-not-is_empty.ensures)
    ∙ checked-fine c.in-Ok.made.0 c.args.draft.mentions
    (ap (find (is_misnamed c.in-Ok.made.0)) (sym (c.as_slice.ensures ∙ c.in-Ok.ensures.store.0)) ∙ sym c.in-None.ensures)

pub returns-in-Some-clause-fault : goal.returns-in-Some-clause-fault
returns-in-Some-clause-fault c = λ n.
    read_end-store c.args.line c.args.draft (lines_of c.args.after.now) c.in-Ok.made.0 c.in-Ok.ensures.store.1
    ∙ after_end-over c.args.line c.in-Ok.made.0 c.args.draft.mentions c.args.after.now (sym c.if-not-is_empty.ensures)
    ∙ checked-wrong c.in-Ok.made.0 c.args.draft.mentions c.in-Some.mention
    (ap (find (is_misnamed c.in-Ok.made.0)) (sym (c.as_slice.ensures ∙ c.in-Ok.ensures.store.0)) ∙ sym c.in-Some.ensures)
    ∙ ap Err (sym c.fault_at-in-Some.ensures)
