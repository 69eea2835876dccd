use Rattle.std.proofs.Common.{◌≡◌, ◌∙◌, ℕ, List, Option, true, false, ap, subst, sym}
use Rattle.std.specs.List.{list_all}
use Rattle.std.proofs.lemmas.Result.{IfOk-weaker}
use Rattle.bdd_nodes.specs.Shelf.{limit_of}
use Rattle.pale_status.specs.declared.status.Status.{Status}
use Rattle.program_judge.specs.Reports.{ReportsFields, is_functional, pointer_fields, stopped_ending}
use Rattle.program_judge.proofs.EndingLemmas.{all-functional}
use Rattle.pale_status.specs.Written.{Wrote, WroteAtMost}
use Rattle.pale_status.proofs.WrittenLemmas.{on_err, on_err_weaker}
use Rattle.pale_judging.specs.Checking.{status_of, WroteFields}
use Rattle.pale_judging.specs.Judging.{JudgesRequest, stopped}
use Rattle.pale_judging.proofs.JudgingLemmas.{stopped_begins, stopped_whole, stop_among_fields, behind_fields}
use Rattle.pale_judging.proofs.judge.judge_request.Goals as goal

pub returns-in_err-ways-clause-err : goal.returns-in_err-ways-clause-err
returns-in_err-ways-clause-err g c =
    let a = g.K.Sink.written c.args.sink.now in
    let b = g.K.Sink.written c.check_fields.new.sink in
    let limit = c.args.limit in
    let program = c.args.whole.now.typed in
    let triples = c.args.whole.now.triples in
    let opened : limit_of c.in_ok-shelf.shelf ≡ limit = ap limit_of c.in_ok-shelf.ensures.empty in
    on_err c.from_residual-in_err-ways.result
    (stop_among_fields limit program (JudgesRequest limit program triples c.args.request) (stopped c.args.request) a triples
    c.requires.program c.requires.triples b
    (subst (λ (l : ℕ). WroteFields l program.types a b) opened c.in_err-ways.ensures.err))

pub judge_asked-requires-clause-functional : goal.judge_asked-requires-clause-functional
judge_asked-requires-clause-functional g c =
    let a = g.K.Sink.written c.args.sink.now in
    let b = g.K.Sink.written c.check_fields.new.sink in
    let limit = c.args.limit in
    let program = c.args.whole.now.typed in
    let triples = c.args.whole.now.triples in
    let ways = c.in_ok-ways.ways.items in
    let opened : limit_of c.in_ok-shelf.shelf ≡ limit = ap limit_of c.in_ok-shelf.ensures.empty in
    let fields = subst (λ (l : ℕ). Wrote (ReportsFields l program.types (pointer_fields program.types)) a b ways) opened c.in_ok-ways.ensures.ok in
    let good : list_all is_functional ways ≡ true =
    sym (c.are_functional.ensures ∙ ap (list_all is_functional) c.as_slice.ensures.value) ∙ c.if-are_functional.true in
    all-functional limit program.types fields.output ways fields.allowed good

pub returns-then-are_functional-clause-ok : goal.returns-then-are_functional-clause-ok
returns-then-are_functional-clause-ok g c =
    let a = g.K.Sink.written c.args.sink.now in
    let b = g.K.Sink.written c.check_fields.new.sink in
    let limit = c.args.limit in
    let program = c.args.whole.now.typed in
    let triples = c.args.whole.now.triples in
    let ways = c.in_ok-ways.ways.items in
    let opened : limit_of c.in_ok-shelf.shelf ≡ limit = ap limit_of c.in_ok-shelf.ensures.empty in
    let fields = subst (λ (l : ℕ). Wrote (ReportsFields l program.types (pointer_fields program.types)) a b ways) opened c.in_ok-ways.ensures.ok in
    let good : list_all is_functional ways ≡ true =
    sym (c.are_functional.ensures ∙ ap (list_all is_functional) c.as_slice.ensures.value) ∙ c.if-are_functional.true in
    let d = g.K.Sink.written c.judge_asked.new.sink in
    let same : limit_of c.check_fields.new.shelf ≡ limit = c.in_ok-ways.ensures.same_limit ∙ opened in
    IfOk-weaker c.judge_asked.result _ _
    (λ status is. subst (λ (e : Option (List ℕ)). Wrote (JudgesRequest limit program triples c.args.request) e d status)
    (behind_fields limit program.types a b ways fields good)
    (subst (λ (l : ℕ). Wrote (JudgesRequest l program triples c.args.request) b d status) same is)) c.judge_asked.ensures.ok

pub returns-then-are_functional-clause-err : goal.returns-then-are_functional-clause-err
returns-then-are_functional-clause-err g c =
    let a = g.K.Sink.written c.args.sink.now in
    let b = g.K.Sink.written c.check_fields.new.sink in
    let limit = c.args.limit in
    let program = c.args.whole.now.typed in
    let triples = c.args.whole.now.triples in
    let ways = c.in_ok-ways.ways.items in
    let opened : limit_of c.in_ok-shelf.shelf ≡ limit = ap limit_of c.in_ok-shelf.ensures.empty in
    let fields = subst (λ (l : ℕ). Wrote (ReportsFields l program.types (pointer_fields program.types)) a b ways) opened c.in_ok-ways.ensures.ok in
    let good : list_all is_functional ways ≡ true =
    sym (c.are_functional.ensures ∙ ap (list_all is_functional) c.as_slice.ensures.value) ∙ c.if-are_functional.true in
    let d = g.K.Sink.written c.judge_asked.new.sink in
    let same : limit_of c.check_fields.new.shelf ≡ limit = c.in_ok-ways.ensures.same_limit ∙ opened in
    on_err_weaker c.judge_asked.result
    (λ begun. subst (λ (e : Option (List ℕ)). WroteAtMost (JudgesRequest limit program triples c.args.request) e d)
    (behind_fields limit program.types a b ways fields good)
    (subst (λ (l : ℕ). WroteAtMost (JudgesRequest l program triples c.args.request) b d) same begun)) c.judge_asked.ensures.err

pub returns-in_err-write_all-clause-err : goal.returns-in_err-write_all-clause-err
returns-in_err-write_all-clause-err g c =
    let a = g.K.Sink.written c.args.sink.now in
    let b = g.K.Sink.written c.check_fields.new.sink in
    let limit = c.args.limit in
    let program = c.args.whole.now.typed in
    let triples = c.args.whole.now.triples in
    let ways = c.in_ok-ways.ways.items in
    let opened : limit_of c.in_ok-shelf.shelf ≡ limit = ap limit_of c.in_ok-shelf.ensures.empty in
    let fields = subst (λ (l : ℕ). Wrote (ReportsFields l program.types (pointer_fields program.types)) a b ways) opened c.in_ok-ways.ensures.ok in
    let some : list_all is_functional ways ≡ false =
    sym (c.are_functional.ensures ∙ ap (list_all is_functional) c.as_slice.ensures.value) ∙ c.if-are_functional.false in
    let d = g.K.Sink.written c.write_all.new.sink in
    on_err c.from_residual-in_err-write_all.result
    (stopped_begins limit program (JudgesRequest limit program triples c.args.request)
    (stopped c.args.request) a b d ways fields some c.in_err-write_all.ensures.err)

pub returns-clause-ok : goal.returns-clause-ok
returns-clause-ok g c =
    let a = g.K.Sink.written c.args.sink.now in
    let b = g.K.Sink.written c.check_fields.new.sink in
    let limit = c.args.limit in
    let program = c.args.whole.now.typed in
    let triples = c.args.whole.now.triples in
    let ways = c.in_ok-ways.ways.items in
    let opened : limit_of c.in_ok-shelf.shelf ≡ limit = ap limit_of c.in_ok-shelf.ensures.empty in
    let fields = subst (λ (l : ℕ). Wrote (ReportsFields l program.types (pointer_fields program.types)) a b ways) opened c.in_ok-ways.ensures.ok in
    let some : list_all is_functional ways ≡ false =
    sym (c.are_functional.ensures ∙ ap (list_all is_functional) c.as_slice.ensures.value) ∙ c.if-are_functional.false in
    let d = g.K.Sink.written c.write_all.new.sink in
    subst (λ (status : Status). Wrote (JudgesRequest limit program triples c.args.request) a d status)
    (sym (c.status_of.ensures ∙ ap status_of (c.stopped_ending.ensures ∙ ap stopped_ending c.as_slice-else-are_functional.ensures.value)))
    (stopped_whole limit program (JudgesRequest limit program triples c.args.request)
    (stopped c.args.request) a b d ways fields some c.in_ok-write_all.ensures.whole)
