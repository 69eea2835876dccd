use Rattle.std.proofs.Common.{map, subst, sym}
use Rattle.std.specs.String.{string_bytes}
use Rattle.pale_top.specs.Output.{IsAnswer}
use Rattle.pale_top.proofs.CallLemmas.{no_read_fault, text_begun, text_wrote, write_failed}
use Rattle.pale_top.proofs.CompletingLemmas.{completed, counted}
use Rattle.pale_top.proofs.PromiseLemmas.{decided_call, safe_call}
use Rattle.pale_top.proofs.SafeRunLemmas.{safe_run_call}
use Rattle.pale_top.proofs.text.pale_bytes.Goals as goal

pub returns-clause-answer : goal.returns-clause-answer
returns-clause-answer g c =
    text_wrote (map string_bytes c.args.words.now.items) c.args.text.now (g.K.Sink.written c.args.sink.now) (g.K.Sink.written c.answer_words.new.sink)
    c.answer_words.result c.ended.result c.ended.ensures c.answer_words.ensures.ok

pub returns-clause-begins : goal.returns-clause-begins
returns-clause-begins g c =
    text_begun (map string_bytes c.args.words.now.items) c.args.text.now (g.K.Sink.written c.args.sink.now) (g.K.Sink.written c.answer_words.new.sink)
    c.answer_words.result c.ended.result c.ended.ensures c.answer_words.ensures.ok c.answer_words.ensures.err

pub returns-clause-each_answered : goal.returns-clause-each_answered
returns-clause-each_answered g c is settings gives short =
    let words = map string_bytes c.args.words.now.items in
    let before = g.K.Sink.written c.args.sink.now in
    let after = g.K.Sink.written c.answer_words.new.sink in
    let wrote = text_wrote words c.args.text.now before after c.answer_words.result c.ended.result c.ended.ensures c.answer_words.ensures.ok is in
    completed (record {
      one = c.texts_have_one_reading.ensures.one;
      apart = c.texts_have_one_reading.ensures.apart;
      fields = c.reports_tell_each_within_its_peak.ensures.fields;
      triples = c.reports_tell_each_within_its_peak.ensures.triples;
      triple = c.reports_tell_each_within_its_peak.ensures.triple;
      starts = c.starts_are_told_within_their_peaks.ensures;
      program = c.reports_tell_each_within_its_peak.ensures.program;
      spelled = c.formatting_is_one.ensures;
      decided = c.texts_within_their_peaks_are_decided.ensures;
    }) c.args.text.now short words before after c.ended.result wrote settings gives

pub returns-clause-each_counted : goal.returns-clause-each_counted
returns-clause-each_counted g c is settings gives asks short program triples read =
    let words = map string_bytes c.args.words.now.items in
    let before = g.K.Sink.written c.args.sink.now in
    let after = g.K.Sink.written c.answer_words.new.sink in
    let wrote = text_wrote words c.args.text.now before after c.answer_words.result c.ended.result c.ended.ensures c.answer_words.ensures.ok is in
    counted (record {
      one = c.texts_have_one_reading.ensures.one;
      apart = c.texts_have_one_reading.ensures.apart;
      fields = c.reports_tell_each_within_its_peak.ensures.fields;
      triples = c.reports_tell_each_within_its_peak.ensures.triples;
      triple = c.reports_tell_each_within_its_peak.ensures.triple;
      starts = c.starts_are_told_within_their_peaks.ensures;
      program = c.reports_tell_each_within_its_peak.ensures.program;
      spelled = c.formatting_is_one.ensures;
      decided = c.texts_within_their_peaks_are_decided.ensures;
    }) words c.args.text.now before after c.ended.result wrote settings gives asks short program triples read

pub returns-clause-whole_runs : goal.returns-clause-whole_runs
returns-clause-whole_runs g c good =
    let words = map string_bytes c.args.words.now.items in
    let wrote = text_wrote words c.args.text.now (g.K.Sink.written c.args.sink.now) (g.K.Sink.written c.answer_words.new.sink)
    c.answer_words.result c.ended.result c.ended.ensures c.answer_words.ensures.ok (subst IsAnswer (sym good) tt) in
    safe_call c.good_reports_have_safe_runs.ensures words c.args.text.now wrote.output c.ended.result wrote.allowed good

pub returns-clause-safe_runs : goal.returns-clause-safe_runs
returns-clause-safe_runs g c bad asks part after at safe =
    let words = map string_bytes c.args.words.now.items in
    let wrote = text_wrote words c.args.text.now (g.K.Sink.written c.args.sink.now) (g.K.Sink.written c.answer_words.new.sink)
    c.answer_words.result c.ended.result c.ended.ensures c.answer_words.ensures.ok (subst IsAnswer (sym bad) tt) in
    safe_run_call c.texts_have_one_reading.ensures.one c.args.text.now part after at safe words wrote.output c.ended.result wrote.allowed bad asks

pub returns-clause-complete : goal.returns-clause-complete
returns-clause-complete g c is =
    let words = map string_bytes c.args.words.now.items in
    let wrote = text_wrote words c.args.text.now (g.K.Sink.written c.args.sink.now) (g.K.Sink.written c.answer_words.new.sink)
    c.answer_words.result c.ended.result c.ended.ensures c.answer_words.ensures.ok is in
    decided_call (record {
      one = c.texts_have_one_reading.ensures.one;
      apart = c.texts_have_one_reading.ensures.apart;
      verdicts = c.reports_within_the_peaks_are_verdicts.ensures;
    }) words c.args.text.now wrote.output c.ended.result wrote.allowed

pub returns-clause-no_read_fault : goal.returns-clause-no_read_fault
returns-clause-no_read_fault g c =
    no_read_fault (map string_bytes c.args.words.now.items) c.args.text.now (g.K.Sink.written c.args.sink.now)
    (g.K.Sink.written c.answer_words.new.sink) c.answer_words.result c.ended.result c.ended.ensures c.answer_words.ensures.ok

pub returns-clause-write_fault : goal.returns-clause-write_fault
returns-clause-write_fault g c is =
    c.answer_words.ensures.failed (write_failed (map string_bytes c.args.words.now.items) c.args.text.now (g.K.Sink.written c.args.sink.now)
    (g.K.Sink.written c.answer_words.new.sink) c.answer_words.result c.ended.result c.ended.ensures c.answer_words.ensures.ok is)
