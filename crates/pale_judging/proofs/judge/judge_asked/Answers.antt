use Rattle.std.proofs.Common.{◌-◌, ℕ, length, subst, sym}
use Rattle.bdd_nodes.specs.Shelf.{limit_of}
use Rattle.hoare_split.specs.Fitting.{FitsProgram}
use Rattle.pale_parts.specs.declared.request.Request.{Request}
use Rattle.pale_parts.specs.Requests.{IsRequest}
use Rattle.pale_replay.proofs.ArrivalLemmas.{there}
use Rattle.pale_status.specs.declared.status.Status.{Status}
use Rattle.pale_status.specs.declared.status.Status.TheVariants.{Good}
use Rattle.pale_status.specs.Written.{Wrote, WroteAtMost}
use Rattle.pale_status.proofs.WrittenLemmas.{on_err}
use Rattle.program_judge.specs.Reports.{ReportsTriple}
use Rattle.pale_judging.specs.Judging.{JudgesRequest, status_of_way}
use Rattle.pale_judging.proofs.JudgingLemmas.{asked_there, fields_judged, triple_judged, triple_begun}
use Rattle.pale_judging.proofs.judge.judge_asked.Goals as goal

pub check_triple-requires-clause-triple : goal.check_triple-requires-clause-triple
check_triple-requires-clause-triple g c =
    there (FitsProgram c.args.whole.now.typed) c.args.whole.now.triples (c.in-Triple.number - 1) c.in-Some.t.now c.requires.triples
    (sym c.in-Some.ensures.value)

pub returns-in_err-way-in-Triple-clause-err : goal.returns-in_err-way-in-Triple-clause-err
returns-in_err-way-in-Triple-clause-err g c =
    let a = g.K.Sink.written c.args.sink.now in
    let d = g.K.Sink.written c.check_triple.new.sink in
    let limit = limit_of c.args.shelf.now in
    let program = c.args.whole.now.typed in
    let triples = c.args.whole.now.triples in
    let number = c.in-Triple.number in
    let (lines, asks) = c.requires.request in
    let there-is = asked_there (length triples) lines number (subst (λ (r : Request). IsRequest (length triples) lines r) c.in-Triple.is asks) in
    let err = subst (λ (n : ℕ). WroteAtMost (ReportsTriple limit program n c.in-Some.t.now) a d) c.from.ensures c.in_err-way-in-Triple.ensures.err in
    on_err c.from_residual.result (subst (λ (r : Request). WroteAtMost (JudgesRequest limit program triples r) a d) (sym c.in-Triple.is)
    (triple_begun limit program triples number c.in-Some.t.now a d there-is.0 c.requires.functional (sym c.in-Some.ensures.value) err))

pub returns-in-Fields-clause-ok : goal.returns-in-Fields-clause-ok
returns-in-Fields-clause-ok g c =
    let a = g.K.Sink.written c.args.sink.now in
    let limit = limit_of c.args.shelf.now in
    let program = c.args.whole.now.typed in
    let triples = c.args.whole.now.triples in
    subst (λ (r : Request). Wrote (JudgesRequest limit program triples r) a a Good) (sym c.in-Fields.is)
    (fields_judged limit program triples a c.requires.functional)

pub returns-in_ok-way-in-Triple-clause-ok : goal.returns-in_ok-way-in-Triple-clause-ok
returns-in_ok-way-in-Triple-clause-ok g c =
    let a = g.K.Sink.written c.args.sink.now in
    let d = g.K.Sink.written c.check_triple.new.sink in
    let limit = limit_of c.args.shelf.now in
    let program = c.args.whole.now.typed in
    let triples = c.args.whole.now.triples in
    let number = c.in-Triple.number in
    let way = c.in_ok-way-in-Triple.way in
    let (lines, asks) = c.requires.request in
    let there-is = asked_there (length triples) lines number (subst (λ (r : Request). IsRequest (length triples) lines r) c.in-Triple.is asks) in
    let ok = subst (λ (n : ℕ). Wrote (ReportsTriple limit program n c.in-Some.t.now) a d way) c.from.ensures c.in_ok-way-in-Triple.ensures.ok in
    subst (λ (s : Status). Wrote (JudgesRequest limit program triples c.args.request) a d s) (sym c.status_of_way.ensures)
    (subst (λ (r : Request). Wrote (JudgesRequest limit program triples r) a d (status_of_way way)) (sym c.in-Triple.is)
    (triple_judged limit program triples number c.in-Some.t.now a d there-is.0 c.requires.functional (sym c.in-Some.ensures.value) way ok))
