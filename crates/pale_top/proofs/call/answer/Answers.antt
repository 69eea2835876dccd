use Rattle.std.proofs.Common.{◌≡◌, List, ℕ, rules, refl, sym, subst, inl, map}
use Rattle.std.specs.Prelude.{◌⊎◌, IfSome}
use Rattle.std.specs.String.{string_bytes}
use Rattle.pale_status.specs.declared.status.Status.TheVariants.{Good, Bad, Text}
use Rattle.pale_status.specs.Report.{too_long_line}
use Rattle.pale_status.specs.Texts.{most_bytes}
use Rattle.program_promises.specs.Completeness.{IsWithinPeaks}
use Rattle.pale_top.specs.Output.{CallOutput, IsAnswer, given}
use Rattle.pale_top.proofs.CallLemmas.{all_read, front_read, line_answers, line_begins, line_status, long_text, some_text}
use Rattle.pale_top.proofs.CallLemmas.{told_answers, told_begins, too_long_output}
use Rattle.pale_top.specs.Completing.{Completes}
use Rattle.pale_top.proofs.CompletingLemmas.{told_completed}
use Rattle.pale_top.proofs.PromiseLemmas.{told_decided, told_safe, too_long_decided}
use Rattle.pale_top.proofs.SafeRunLemmas.{told_safe_runs}
use Rattle.pale_top.proofs.call.answer.Goals as goal

pub returns-in-Ok-clause-answer : goal.returns-in-Ok-clause-answer
returns-in-Ok-clause-answer g c is =
    let left = g.S.Source.left c.args.source.now in
    let text = c.deref.result.now in
    let told = subst (λ (t : List ℕ). IfSome left (λ bytes. t ≡ bytes)) (sym c.deref.ensures.value) c.in-Ok.ensures.whole.whole in
    told_answers (map string_bytes c.args.words.now.items) text (g.K.Sink.written c.args.sink.now) (g.K.Sink.written c.pale_bytes.new.sink) left
    c.pale_bytes.result told (c.pale_bytes.ensures.answer is)

pub returns-in-Ok-clause-begins : goal.returns-in-Ok-clause-begins
returns-in-Ok-clause-begins g c cut =
    let left = g.S.Source.left c.args.source.now in
    let text = c.deref.result.now in
    let told = subst (λ (t : List ℕ). IfSome left (λ bytes. t ≡ bytes)) (sym c.deref.ensures.value) c.in-Ok.ensures.whole.whole in
    told_begins (map string_bytes c.args.words.now.items) text (g.K.Sink.written c.args.sink.now) (g.K.Sink.written c.pale_bytes.new.sink) left
    told (c.pale_bytes.ensures.begins cut)

pub returns-in-Ok-clause-each_answered : goal.returns-in-Ok-clause-each_answered
returns-in-Ok-clause-each_answered g c is settings gives =
    let left = g.S.Source.left c.args.source.now in
    let text = c.deref.result.now in
    let told = subst (λ (t : List ℕ). IfSome left (λ bytes. t ≡ bytes)) (sym c.deref.ensures.value) c.in-Ok.ensures.whole.whole in
    told_completed settings left (g.K.Sink.written c.args.sink.now) (g.K.Sink.written c.pale_bytes.new.sink) text c.pale_bytes.result told
    (c.pale_bytes.ensures.each_answered is settings gives)

pub returns-in-Ok-clause-whole_runs : goal.returns-in-Ok-clause-whole_runs
returns-in-Ok-clause-whole_runs g c good asks =
    let left = g.S.Source.left c.args.source.now in
    let text = c.deref.result.now in
    let told = subst (λ (t : List ℕ). IfSome left (λ bytes. t ≡ bytes)) (sym c.deref.ensures.value) c.in-Ok.ensures.whole.whole in
    told_safe left text told (c.pale_bytes.ensures.whole_runs good asks)

pub returns-in-Ok-clause-safe_runs : goal.returns-in-Ok-clause-safe_runs
returns-in-Ok-clause-safe_runs g c bad asks =
    let left = g.S.Source.left c.args.source.now in
    let text = c.deref.result.now in
    let told = subst (λ (t : List ℕ). IfSome left (λ bytes. t ≡ bytes)) (sym c.deref.ensures.value) c.in-Ok.ensures.whole.whole in
    told_safe_runs left text told (c.pale_bytes.ensures.safe_runs bad asks)

pub returns-in-Ok-clause-complete : goal.returns-in-Ok-clause-complete
returns-in-Ok-clause-complete g c is settings gives asks =
    let left = g.S.Source.left c.args.source.now in
    let text = c.deref.result.now in
    let told = subst (λ (t : List ℕ). IfSome left (λ bytes. t ≡ bytes)) (sym c.deref.ensures.value) c.in-Ok.ensures.whole.whole in
    told_decided settings.limit left text c.pale_bytes.result told (c.pale_bytes.ensures.complete is settings gives asks)

pub returns-in-Ok-clause-read : goal.returns-in-Ok-clause-read
returns-in-Ok-clause-read g c _ = all_read most_bytes (g.S.Source.left c.args.source.now) (g.S.Source.left c.read_all.new.source) c.in-Ok.text.items
    c.in-Ok.ensures.whole

pub returns-in-Ok-clause-taken : goal.returns-in-Ok-clause-taken
returns-in-Ok-clause-taken g c = front_read most_bytes (g.S.Source.left c.args.source.now) (g.S.Source.left c.read_all.new.source) c.in-Ok.text.items
    c.in-Ok.ensures.whole

pub returns-in-Err-TooLong-clause-answer : goal.returns-in-Err-TooLong-clause-answer
returns-in-Err-TooLong-clause-answer g c =
    let left = g.S.Source.left c.args.source.now in
    let before = g.K.Sink.written c.args.sink.now in
    let after = g.K.Sink.written c.say.new.sink in
    let many = c.in-Err-TooLong.ensures.too_long (search rules) in
    let text = long_text most_bytes left many.more in
    let (settings, gives, reads) = c.requires in
    line_answers (CallOutput (map string_bytes c.args.words.now.items)) left before after text.0 too_long_line Text text.1
    (given settings gives too_long_line Text (too_long_output settings text.0 reads text.2))
    c.say.result c.ended.result c.ended.ensures c.say.ensures.ok

pub returns-in-Err-TooLong-clause-begins : goal.returns-in-Err-TooLong-clause-begins
returns-in-Err-TooLong-clause-begins g c =
    let left = g.S.Source.left c.args.source.now in
    let before = g.K.Sink.written c.args.sink.now in
    let after = g.K.Sink.written c.say.new.sink in
    let many = c.in-Err-TooLong.ensures.too_long (search rules) in
    let text = long_text most_bytes left many.more in
    let (settings, gives, reads) = c.requires in
    line_begins (CallOutput (map string_bytes c.args.words.now.items)) left before after text.0 too_long_line Text text.1
    (given settings gives too_long_line Text (too_long_output settings text.0 reads text.2)) c.say.result
    c.ended.result c.ended.ensures
    (λ cut. cut) c.say.ensures.ok c.say.ensures.err

pub returns-in-Err-TooLong-clause-whole_runs : goal.returns-in-Err-TooLong-clause-whole_runs
returns-in-Err-TooLong-clause-whole_runs g c good asks =
    let bad = line_status (g.K.Sink.written c.args.sink.now) (g.K.Sink.written c.say.new.sink) too_long_line Text Good c.say.result c.ended.result
    c.ended.ensures c.say.ensures.ok (subst IsAnswer (sym good) tt) good in
    absurd (cc)

pub returns-in-Err-TooLong-clause-safe_runs : goal.returns-in-Err-TooLong-clause-safe_runs
returns-in-Err-TooLong-clause-safe_runs g c bad asks =
    let other = line_status (g.K.Sink.written c.args.sink.now) (g.K.Sink.written c.say.new.sink) too_long_line Text Bad c.say.result c.ended.result
    c.ended.ensures c.say.ensures.ok (subst IsAnswer (sym bad) tt) bad in
    absurd (cc)

pub returns-in-Err-TooLong-clause-each_answered : goal.returns-in-Err-TooLong-clause-each_answered
returns-in-Err-TooLong-clause-each_answered g c is settings gives =
    let many = c.in-Err-TooLong.ensures.too_long (search rules) in
    too_long_decided most_bytes
    (λ text. Completes settings text (g.K.Sink.written c.args.sink.now) (g.K.Sink.written c.say.new.sink) c.ended.result)
    (g.S.Source.left c.args.source.now) many.more

pub returns-in-Err-TooLong-clause-complete : goal.returns-in-Err-TooLong-clause-complete
returns-in-Err-TooLong-clause-complete g c is settings gives asks =
    let many = c.in-Err-TooLong.ensures.too_long (search rules) in
    too_long_decided most_bytes
    (λ text. IsWithinPeaks settings.limit text → (c.ended.result ≡ Good) ⊎ (c.ended.result ≡ Bad)) (g.S.Source.left c.args.source.now) many.more

pub returns-in-Err-NoMemory-clause-begins : goal.returns-in-Err-NoMemory-clause-begins
returns-in-Err-NoMemory-clause-begins g c _ =
    let text = some_text (g.S.Source.left c.args.source.now) in
    record { text = text.0; told = text.1; wrote = inl refl }
