use Rattle.std.proofs.Common.{List, ℕ, inl, inr, refl, subst}
use Rattle.pale_io.specs.Whole.{WritesAll, WritesFront}
use Rattle.pale_status.proofs.WrittenLemmas.{on_err}
use Rattle.pale_judging.proofs.check_parts.check_field.Goals as goal

-- nothing was written yet
pub returns-in_err-report-clause-err : goal.returns-in_err-report-clause-err
returns-in_err-report-clause-err g c = on_err c.from_residual.result (inl refl)

pub returns-in_err-write_all-clause-err : goal.returns-in_err-write_all-clause-err
returns-in_err-write_all-clause-err g c =
    let before = g.K.Sink.written c.args.sink.now in
    let after = g.K.Sink.written c.write_all.new.sink in
    on_err c.from_residual-in_err-write_all.result (inr (record {
      output = c.in_ok-report.report.items;
      status = c.in_ok-report.way;
      allowed = c.in_ok-report.ensures.report;
      written = subst (λ (piece : List ℕ). WritesFront before after piece) c.as_slice.ensures.value c.in_err-write_all.ensures.err;
    }))

pub returns-clause-ok : goal.returns-clause-ok
returns-clause-ok g c =
    let before = g.K.Sink.written c.args.sink.now in
    let after = g.K.Sink.written c.write_all.new.sink in
    record {
      output = c.in_ok-report.report.items;
      allowed = c.in_ok-report.ensures.report;
      written = subst (λ (piece : List ℕ). WritesAll before after piece) c.as_slice.ensures.value c.in_ok-write_all.ensures.whole;
    }
