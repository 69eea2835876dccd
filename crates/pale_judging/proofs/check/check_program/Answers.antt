use Rattle.std.proofs.Common.{◌≡◌, ◌∙◌, ℕ, true, false, ap, subst, sym}
use Rattle.std.specs.List.{list_all}
use Rattle.std.proofs.lemmas.Result.{IfOk-weaker}
use Rattle.bdd_nodes.specs.Shelf.{limit_of}
use Rattle.program_judge.specs.declared.ways.Ending.{Ending}
use Rattle.program_judge.specs.Reports.{ReportsAll, ReportsFields, ReportsProgram, is_functional, pointer_fields, stopped_ending}
use Rattle.program_judge.proofs.EndingLemmas.{all-functional}
use Rattle.pale_status.specs.Written.{Wrote, WroteAtMost}
use Rattle.pale_status.proofs.WrittenLemmas.{on_err, on_err_weaker}
use Rattle.pale_judging.proofs.CheckingLemmas.{fields_cut, judged_begins, judged_whole, stopped_begins, stopped_whole}
use Rattle.pale_judging.specs.Checking.{WroteFields}
use Rattle.pale_judging.proofs.check.check_program.Goals as goal

pub returns-in_err-ways-clause-err : goal.returns-in_err-ways-clause-err
returns-in_err-ways-clause-err g c =
    let a = g.K.Sink.written c.args.sink.now in
    let b = g.K.Sink.written c.check_fields.new.sink in
    let limit = c.args.limit in
    let program = c.args.whole.now.typed in
    let opened : limit_of c.in_ok-shelf.shelf ≡ limit = ap limit_of c.in_ok-shelf.ensures.empty in
    on_err c.from_residual-in_err-ways.result
    (fields_cut limit program c.args.whole.now.triples c.requires.program c.requires.triples a b
    (subst (λ (l : ℕ). WroteFields l program.types a b) opened c.in_err-ways.ensures.err))

pub check_all-requires-clause-functional : goal.check_all-requires-clause-functional
check_all-requires-clause-functional g c =
    let a = g.K.Sink.written c.args.sink.now in
    let b = g.K.Sink.written c.check_fields.new.sink in
    let limit = c.args.limit in
    let program = c.args.whole.now.typed in
    let triples = c.args.whole.now.triples in
    let ways = c.in_ok-ways.ways.items in
    let opened : limit_of c.in_ok-shelf.shelf ≡ limit = ap limit_of c.in_ok-shelf.ensures.empty in
    let fields = subst (λ (l : ℕ). Wrote (ReportsFields l program.types (pointer_fields program.types)) a b ways) opened c.in_ok-ways.ensures.ok in
    let good : list_all is_functional ways ≡ true =
    sym (c.are_functional.ensures ∙ ap (list_all is_functional) c.as_slice.ensures.value) ∙ c.if-are_functional.true in
    all-functional limit program.types fields.output ways fields.allowed good

pub returns-then-are_functional-clause-ok : goal.returns-then-are_functional-clause-ok
returns-then-are_functional-clause-ok g c =
    let a = g.K.Sink.written c.args.sink.now in
    let b = g.K.Sink.written c.check_fields.new.sink in
    let limit = c.args.limit in
    let program = c.args.whole.now.typed in
    let triples = c.args.whole.now.triples in
    let ways = c.in_ok-ways.ways.items in
    let opened : limit_of c.in_ok-shelf.shelf ≡ limit = ap limit_of c.in_ok-shelf.ensures.empty in
    let fields = subst (λ (l : ℕ). Wrote (ReportsFields l program.types (pointer_fields program.types)) a b ways) opened c.in_ok-ways.ensures.ok in
    let good : list_all is_functional ways ≡ true =
    sym (c.are_functional.ensures ∙ ap (list_all is_functional) c.as_slice.ensures.value) ∙ c.if-are_functional.true in
    let d = g.K.Sink.written c.check_all.new.sink in
    let same : limit_of c.check_fields.new.shelf ≡ limit = c.in_ok-ways.ensures.same_limit ∙ opened in
    IfOk-weaker c.check_all.result _ _
    (λ how is. judged_whole limit program triples c.requires.program c.requires.triples a b d ways how fields good
    (subst (λ (l : ℕ). Wrote (ReportsAll l program triples) b d how) same is)) c.check_all.ensures.ok

pub returns-then-are_functional-clause-err : goal.returns-then-are_functional-clause-err
returns-then-are_functional-clause-err g c =
    let a = g.K.Sink.written c.args.sink.now in
    let b = g.K.Sink.written c.check_fields.new.sink in
    let limit = c.args.limit in
    let program = c.args.whole.now.typed in
    let triples = c.args.whole.now.triples in
    let ways = c.in_ok-ways.ways.items in
    let opened : limit_of c.in_ok-shelf.shelf ≡ limit = ap limit_of c.in_ok-shelf.ensures.empty in
    let fields = subst (λ (l : ℕ). Wrote (ReportsFields l program.types (pointer_fields program.types)) a b ways) opened c.in_ok-ways.ensures.ok in
    let good : list_all is_functional ways ≡ true =
    sym (c.are_functional.ensures ∙ ap (list_all is_functional) c.as_slice.ensures.value) ∙ c.if-are_functional.true in
    let d = g.K.Sink.written c.check_all.new.sink in
    let same : limit_of c.check_fields.new.shelf ≡ limit = c.in_ok-ways.ensures.same_limit ∙ opened in
    on_err_weaker c.check_all.result
    (λ begun. judged_begins limit program triples c.requires.program c.requires.triples a b d ways fields good
    (subst (λ (l : ℕ). WroteAtMost (ReportsAll l program triples) b d) same begun)) c.check_all.ensures.err

pub returns-in_err-write_all-clause-err : goal.returns-in_err-write_all-clause-err
returns-in_err-write_all-clause-err g c =
    let a = g.K.Sink.written c.args.sink.now in
    let b = g.K.Sink.written c.check_fields.new.sink in
    let limit = c.args.limit in
    let program = c.args.whole.now.typed in
    let triples = c.args.whole.now.triples in
    let ways = c.in_ok-ways.ways.items in
    let opened : limit_of c.in_ok-shelf.shelf ≡ limit = ap limit_of c.in_ok-shelf.ensures.empty in
    let fields = subst (λ (l : ℕ). Wrote (ReportsFields l program.types (pointer_fields program.types)) a b ways) opened c.in_ok-ways.ensures.ok in
    let some : list_all is_functional ways ≡ false =
    sym (c.are_functional.ensures ∙ ap (list_all is_functional) c.as_slice.ensures.value) ∙ c.if-are_functional.false in
    let d = g.K.Sink.written c.write_all.new.sink in
    on_err c.from_residual-in_err-write_all.result
    (stopped_begins limit program triples c.requires.program c.requires.triples a b d ways fields some c.in_err-write_all.ensures.err)

pub returns-clause-ok : goal.returns-clause-ok
returns-clause-ok g c =
    let a = g.K.Sink.written c.args.sink.now in
    let b = g.K.Sink.written c.check_fields.new.sink in
    let limit = c.args.limit in
    let program = c.args.whole.now.typed in
    let triples = c.args.whole.now.triples in
    let ways = c.in_ok-ways.ways.items in
    let opened : limit_of c.in_ok-shelf.shelf ≡ limit = ap limit_of c.in_ok-shelf.ensures.empty in
    let fields = subst (λ (l : ℕ). Wrote (ReportsFields l program.types (pointer_fields program.types)) a b ways) opened c.in_ok-ways.ensures.ok in
    let some : list_all is_functional ways ≡ false =
    sym (c.are_functional.ensures ∙ ap (list_all is_functional) c.as_slice.ensures.value) ∙ c.if-are_functional.false in
    let d = g.K.Sink.written c.write_all.new.sink in
    subst (λ (how : Ending). Wrote (ReportsProgram limit program triples) a d how)
    (sym (c.stopped_ending.ensures ∙ ap stopped_ending c.as_slice-else-are_functional.ensures.value))
    (stopped_whole limit program triples c.requires.program c.requires.triples a b d ways fields some c.in_ok-write_all.ensures.whole)
