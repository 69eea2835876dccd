use Rattle.std.proofs.Common.{rules, refl, inl, inr, [], map}
use Rattle.std.specs.String.{string_bytes}
use Rattle.pale_words.specs.declared.words.Mode.TheVariants.{Check, Run}
use Rattle.pale_top.proofs.CallLemmas.{asks_for_none, asks_for_text, some_text, unread_answers, unread_begins}
use Rattle.pale_top.proofs.CompletingLemmas.{unread_completed}
use Rattle.pale_top.proofs.call.pale_main.Goals as goal

pub returns-in-Ok-true-clause-unread : goal.returns-in-Ok-true-clause-unread
returns-in-Ok-true-clause-unread g c unread =
    absurd (asks_for_text (map string_bytes c.args.words.now.items) unread (c.reads_text.ensures.reads (search rules)))

pub returns-in-Ok-false-clause-answer : goal.returns-in-Ok-false-clause-answer
returns-in-Ok-false-clause-answer g c is =
    unread_answers (map string_bytes c.args.words.now.items) (c.reads_text.ensures.unread (search rules)) [] (g.S.Source.left c.args.source.now)
    (g.K.Sink.written c.args.sink.now) (g.K.Sink.written c.pale_bytes.new.sink) c.pale_bytes.result (c.pale_bytes.ensures.answer is)

pub returns-in-Ok-false-clause-begins : goal.returns-in-Ok-false-clause-begins
returns-in-Ok-false-clause-begins g c cut =
    unread_begins (map string_bytes c.args.words.now.items) (c.reads_text.ensures.unread (search rules)) [] (g.S.Source.left c.args.source.now)
    (g.K.Sink.written c.args.sink.now) (g.K.Sink.written c.pale_bytes.new.sink) (c.pale_bytes.ensures.begins cut)

pub returns-in-Ok-true-clause-each_counted : goal.returns-in-Ok-true-clause-each_counted
returns-in-Ok-true-clause-each_counted g c is settings gives asks short program triples read =
    absurd (asks_for_text (map string_bytes c.args.words.now.items) (inr (settings, gives, asks)) (c.reads_text.ensures.reads (search rules)))

pub returns-in-Ok-false-clause-each_answered : goal.returns-in-Ok-false-clause-each_answered
returns-in-Ok-false-clause-each_answered g c is settings gives =
    unread_completed (map string_bytes c.args.words.now.items) (c.reads_text.ensures.unread (search rules)) settings gives
    (g.S.Source.left c.args.source.now) (g.K.Sink.written c.args.sink.now) (g.K.Sink.written c.pale_bytes.new.sink) c.pale_bytes.result

pub returns-in-Ok-false-clause-whole_runs : goal.returns-in-Ok-false-clause-whole_runs
returns-in-Ok-false-clause-whole_runs g c good asks =
    absurd (asks_for_none (map string_bytes c.args.words.now.items) (c.reads_text.ensures.unread (search rules)) Check (λ same. cc) asks)

pub returns-in-Ok-false-clause-safe_runs : goal.returns-in-Ok-false-clause-safe_runs
returns-in-Ok-false-clause-safe_runs g c bad asks =
    absurd (asks_for_none (map string_bytes c.args.words.now.items) (c.reads_text.ensures.unread (search rules)) Run (λ same. cc) asks)

pub returns-in-Ok-false-clause-complete : goal.returns-in-Ok-false-clause-complete
returns-in-Ok-false-clause-complete g c is settings gives asks =
    absurd (asks_for_none (map string_bytes c.args.words.now.items) (c.reads_text.ensures.unread (search rules)) Check (λ same. cc)
    (settings, gives, asks))

pub returns-in-Ok-false-clause-read : goal.returns-in-Ok-false-clause-read
returns-in-Ok-false-clause-read g c is settings gives reads =
    absurd (asks_for_text (map string_bytes c.args.words.now.items) (c.reads_text.ensures.unread (search rules)) (settings, gives, reads))

pub returns-in-Err-clause-begins : goal.returns-in-Err-clause-begins
returns-in-Err-clause-begins g c _ =
    let text = some_text (g.S.Source.left c.args.source.now) in
    record { text = text.0; told = text.1; wrote = inl refl }
