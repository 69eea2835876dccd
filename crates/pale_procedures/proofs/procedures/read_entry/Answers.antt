use Rattle.std.proofs.Common.{◌≡◌, None, OnOk, IfOk, IfErr, sym, subst}
use Rattle.pale_tables.specs.Faults.{IsStop}
use Rattle.pale_sights.specs.declared.sights.Frame.{Frame}
use Rattle.pale_sights.specs.declared.headings.Lists.{Lists}
use Rattle.pale_sights.specs.Sights.{frame_of}
use Rattle.pale_sights.specs.Framing.{IsFrame}
use Rattle.pale_sights.specs.Headings.{lists_of}
use Rattle.pale_procedures.specs.Statements.{block_fault}
use Rattle.pale_procedures.specs.Procedures.{entry_of}
use Rattle.pale_procedures.proofs.procedures.read_entry.Goals as goal

pub read_body-requires-clause-frame : goal.read_body-requires-clause-frame
read_body-requires-clause-frame c = subst IsFrame (sym c.in_ok-frame.ensures) c.requires.frame

pub returns-clause-met : goal.returns-clause-met
returns-clause-met c =
    subst (λ (f : Frame). OnOk c.read_body.result (block_fault c.args.basis.now f c.args.procedure.now.body ≡ None)) c.in_ok-frame.ensures
    c.read_body.ensures.met

pub returns-clause-entry : goal.returns-clause-entry
returns-clause-entry c =
    subst (λ (f : Frame). IfOk c.read_body.result
    (λ entry. entry ≡ entry_of c.args.basis.now (lists_of c.args.heading.now c.args.locals.now) c.args.claims f c.args.procedure.now))
    c.in_ok-frame.ensures
    (subst (λ (l : Lists). IfOk c.read_body.result
    (λ entry. entry ≡ entry_of c.args.basis.now l c.args.claims c.in_ok-frame.frame c.args.procedure.now)) c.in_ok-lists.ensures
    c.read_body.ensures.entry)

pub returns-clause-stop : goal.returns-clause-stop
returns-clause-stop c =
    subst (λ (f : Frame). IfErr c.read_body.result (IsStop (block_fault c.args.basis.now f c.args.procedure.now.body))) c.in_ok-frame.ensures
    c.read_body.ensures.stop
