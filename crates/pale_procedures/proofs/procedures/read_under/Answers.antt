use Rattle.std.proofs.Common.{sym, ap, subst}
use Rattle.std.proofs.lemmas.Result.{on_ok_weaker, IfOk-weaker}
use Rattle.pale_tables.proofs.FaultLemmas.{stop_returned, stop_same}
use Rattle.pale_sights.specs.Sights.{frame_of}
use Rattle.pale_sights.specs.Framing.{IsBody}
use Rattle.pale_sights.specs.Headings.{lists_of}
use Rattle.pale_sights.proofs.HeadingLemmas.{heading-is}
use Rattle.pale_procedures.specs.Statements.{types_of}
use Rattle.pale_procedures.proofs.ReadingLemmas.{claims-stop, locals-stop, body-named, frame-stands, body-stop, procedure-none, procedure-is}
use Rattle.pale_procedures.proofs.procedures.read_under.Goals as goal

pub read_claims-requires-clause-heading : goal.read_claims-requires-clause-heading
read_claims-requires-clause-heading c =
    heading-is (types_of c.args.basis.now) c.args.procedure.now c.requires.met c.args.heading.now c.requires.heading

pub returns-in_err-claims-clause-stop : goal.returns-in_err-claims-clause-stop
returns-in_err-claims-clause-stop c =
    let e = c.in_err-claims.field-0.0 in
    stop_returned _ c.from_residual.result e c.from_residual.ensures.1
    (claims-stop c.args.basis.now c.args.procedure.now c.requires.met c.args.heading.now c.requires.heading e c.in_err-claims.ensures.stop)

pub returns-in_err-locals-clause-stop : goal.returns-in_err-locals-clause-stop
returns-in_err-locals-clause-stop c =
    let e = c.in_err-locals.field-0.0 in
    stop_returned _ c.from_residual-in_err-locals.result e c.from_residual-in_err-locals.ensures.1
    (locals-stop c.args.basis.now c.args.procedure.now c.requires.met c.args.heading.now c.requires.heading
    c.in_ok-claims.ensures.met c.args.before.now c.as_slice.result.now c.requires.names c.as_slice.ensures
    e c.in_err-locals.ensures.stop)

pub read_entry-requires-clause-names : goal.read_entry-requires-clause-names
read_entry-requires-clause-names c =
    subst (IsBody c.args.heading.now) (sym c.as_slice-2.ensures)
    (body-named c.args.basis.now c.args.procedure.now c.requires.met c.args.heading.now c.requires.heading
    c.in_ok-claims.ensures.met c.args.before.now c.as_slice.result.now c.requires.names c.as_slice.ensures
    c.in_ok-locals.ensures.met c.in_ok-locals.locals c.in_ok-locals.ensures.variables)

pub read_entry-requires-clause-frame : goal.read_entry-requires-clause-frame
read_entry-requires-clause-frame c =
    frame-stands c.args.basis.now c.args.procedure.now c.requires.met c.args.heading.now c.requires.heading
    c.in_ok-claims.ensures.met c.args.before.now c.as_slice.result.now c.requires.names c.as_slice.ensures
    c.in_ok-locals.ensures.met c.in_ok-locals.locals c.in_ok-locals.ensures.variables
    (frame_of c.args.heading.now c.as_slice-2.result.now) (ap (frame_of c.args.heading.now) c.as_slice-2.ensures)

pub returns-clause-met : goal.returns-clause-met
returns-clause-met c =
    on_ok_weaker c.read_entry.result
    (procedure-none c.args.basis.now c.args.procedure.now c.requires.met c.args.heading.now c.requires.heading
    c.in_ok-claims.ensures.met c.args.before.now c.as_slice.result.now c.requires.names c.as_slice.ensures
    c.in_ok-locals.ensures.met c.in_ok-locals.locals c.in_ok-locals.ensures.variables
    (frame_of c.args.heading.now c.as_slice-2.result.now) (ap (frame_of c.args.heading.now) c.as_slice-2.ensures))
    c.read_entry.ensures.met

pub returns-clause-entry : goal.returns-clause-entry
returns-clause-entry c =
    IfOk-weaker c.read_entry.result _ _
    (λ entry read. procedure-is c.args.basis.now c.args.procedure.now c.requires.met c.args.heading.now c.requires.heading
    c.in_ok-claims.ensures.met c.args.before.now c.as_slice.result.now c.requires.names c.as_slice.ensures
    c.in_ok-locals.ensures.met c.in_ok-locals.locals c.in_ok-locals.ensures.variables
    (frame_of c.args.heading.now c.as_slice-2.result.now) (ap (frame_of c.args.heading.now) c.as_slice-2.ensures)
    (lists_of c.args.heading.now c.as_slice-2.result.now) c.in_ok-claims.claims entry (ap (lists_of c.args.heading.now) c.as_slice-2.ensures)
    c.in_ok-claims.ensures.claims read)
    c.read_entry.ensures.entry

pub returns-clause-stop : goal.returns-clause-stop
returns-clause-stop c =
    stop_same _ _ c.read_entry.result
    (body-stop c.args.basis.now c.args.procedure.now c.requires.met c.args.heading.now c.requires.heading
    c.in_ok-claims.ensures.met c.args.before.now c.as_slice.result.now c.requires.names c.as_slice.ensures
    c.in_ok-locals.ensures.met c.in_ok-locals.locals c.in_ok-locals.ensures.variables
    (frame_of c.args.heading.now c.as_slice-2.result.now) (ap (frame_of c.args.heading.now) c.as_slice-2.ensures))
    c.read_entry.ensures.stop
