use Rattle.std.proofs.Common.{◌≡◌, ◌∙◌, ℕ, List, ap, subst, sym}
use Rattle.bdd_nodes.specs.Shelf.{limit_of}
use Rattle.pale_io.specs.Whole.{WritesAll, WritesFront}
use Rattle.program_judge.specs.declared.ways.Ending.{Ending}
use Rattle.program_judge.specs.Reports.{ReportsAll, judged_ending, totals_of}
use Rattle.pale_status.specs.Written.{Wrote}
use Rattle.pale_status.proofs.WrittenLemmas.{on_err}
use Rattle.pale_judging.proofs.CheckingLemmas.{before_totals, totals_begin, totals_whole}
use Rattle.pale_judging.proofs.check.check_all.Goals as goal

pub returns-in_err-totals-clause-err : goal.returns-in_err-totals-clause-err
returns-in_err-totals-clause-err g c =
    let a = g.K.Sink.written c.args.sink.now in
    let b = g.K.Sink.written c.check_triples.new.sink in
    let limit = limit_of c.args.shelf.now in
    let program = c.args.whole.now.typed in
    let triples = c.args.whole.now.triples in
    let ways = c.in_ok-ways.ways.items in
    on_err c.from_residual-in_err-totals.result
    (before_totals limit program triples c.requires.program c.requires.triples c.requires.functional a b ways c.in_ok-ways.ensures.ok)

pub returns-in_err-write_all-clause-err : goal.returns-in_err-write_all-clause-err
returns-in_err-write_all-clause-err g c =
    let a = g.K.Sink.written c.args.sink.now in
    let b = g.K.Sink.written c.check_triples.new.sink in
    let limit = limit_of c.args.shelf.now in
    let program = c.args.whole.now.typed in
    let triples = c.args.whole.now.triples in
    let ways = c.in_ok-ways.ways.items in
    let spelled : c.as_slice-2.result.now ≡ totals_of ways =
    c.as_slice-2.ensures.value ∙ (c.in_ok-totals.ensures ∙ ap totals_of c.as_slice.ensures.value) in
    let d = g.K.Sink.written c.write_all.new.sink in
    on_err c.from_residual-in_err-write_all.result
    (totals_begin limit program triples c.requires.program c.requires.triples c.requires.functional a b d ways c.in_ok-ways.ensures.ok
    (subst (λ (piece : List ℕ). WritesFront b d piece) spelled c.in_err-write_all.ensures.err))

pub returns-clause-ok : goal.returns-clause-ok
returns-clause-ok g c =
    let a = g.K.Sink.written c.args.sink.now in
    let b = g.K.Sink.written c.check_triples.new.sink in
    let limit = limit_of c.args.shelf.now in
    let program = c.args.whole.now.typed in
    let triples = c.args.whole.now.triples in
    let ways = c.in_ok-ways.ways.items in
    let spelled : c.as_slice-2.result.now ≡ totals_of ways =
    c.as_slice-2.ensures.value ∙ (c.in_ok-totals.ensures ∙ ap totals_of c.as_slice.ensures.value) in
    let d = g.K.Sink.written c.write_all.new.sink in
    subst (λ (how : Ending). Wrote (ReportsAll limit program triples) a d how) (sym (c.judged_ending.ensures ∙ ap judged_ending c.as_slice-3.ensures.value))
    (totals_whole limit program triples c.requires.program c.requires.triples c.requires.functional a b d ways c.in_ok-ways.ensures.ok
    (subst (λ (piece : List ℕ). WritesAll b d piece) spelled c.in_ok-write_all.ensures.whole))
