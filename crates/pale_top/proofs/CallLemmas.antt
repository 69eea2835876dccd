-- What a call leaves, by what it read and wrote.
use Rattle.std.proofs.Common.{◌≡◌, ◌∙◌, ◌+◌, ◌<◌, ◌≤◌, ℕ, List, [], length, replicate, refl, ap, subst, sym, arith, ◌⊎◌, inl, inr}
use Rattle.std.proofs.Common.{Option, Some, None, Result, Ok, Err}
use Rattle.std.specs.Prelude.{◌≢◌, IfSome, IfOk, IsErrOf, OnErr}
use Rattle.std.proofs.Math.ListN.{drop_of_length-le}
use Rattle.std.proofs.lemmas.List.{length-replicate}
use Rattle.pale_io.specs.Told.{without_first}
use Rattle.pale_io.specs.Whole.{ReadsAll, ReadsFront, WritesAll, WritesFront}
use Rattle.pale_io.specs.declared.stops.WriteStop.{WriteStop}
use Rattle.pale_io.specs.declared.stops.WriteStop.TheVariants.{Failed, NoMemory}
use Rattle.store_exec.specs.declared.triple.Triple.{Triple}
use Rattle.pale_typed.specs.TypedPrograms.{TypedProgram}
use Rattle.pale_words.specs.declared.words.Mode.{Mode}
use Rattle.pale_words.specs.declared.words.Mode.TheVariants.{Check, Replay, Format, Ws2s, Judge, Meet, Run, Trace, Gen}
use Rattle.pale_words.specs.declared.words.Settings.{Settings}
use Rattle.pale_words.specs.Words.{AsksFor, Gives, IsRefused}
use Rattle.pale_words.proofs.GivesLemmas.{not_refused, same_mode}
use Rattle.pale_status.specs.declared.status.Status.{Status}
use Rattle.pale_status.specs.declared.status.Status.TheVariants.{Good, Bad, Words, Text, Limit, Memory, ReadFault, WriteFault}
use Rattle.pale_modes.proofs.GivenLemmas.{IsGiven, decided_given, formatted_given, replayed_given, run_given, traced_given}
use Rattle.pale_status.proofs.WrittenLemmas.{Wrote-weaker, WroteAtMost-weaker}
use Rattle.pale_modes.specs.Formatting as formatting
use Rattle.pale_modes.specs.Replaying as replaying
use Rattle.pale_modes.specs.Running as running
use Rattle.pale_modes.specs.Tracing as tracing
use Rattle.pale_modes.specs.Deciding as deciding
use Rattle.pale_status.specs.Written.{EndsBy, Wrote, WroteAtMost}
use Rattle.pale_status.specs.Report.{too_long_line}
use Rattle.pale_status.specs.Texts.{most_bytes}
use Rattle.program_judge.specs.declared.ways.Ending.{Ending}
use Rattle.program_judge.specs.declared.ways.Ending.TheVariants as ending
use Rattle.pale_judging.specs.Checking.{Checks}
use Rattle.pale_judging.specs.Checking as checking
use Rattle.pale_top.specs.Output.{Answers, Begins, CallOutput, IsAnswer, IsCutShort, Output}
use Rattle.pale_judging.specs.Judging.{Judges, JudgesPart, JudgesRequest}
use Rattle.store_text.specs.Lines.{lines_of}
use Rattle.pale_judging.specs.Judging as judging
use Rattle.pale_judging.specs.Meeting.{MeetsText, MeetsProgram}
use Rattle.pale_judging.specs.Meeting as meeting
use Rattle.program_judge.specs.declared.meet_way.MeetWay.{MeetWay}
use Rattle.program_judge.specs.Meets.{is_empty, is_at_limit}
use Rattle.std.specs.List.{list_any}
use Rattle.std.proofs.Common.{Bool, true, false, if◌then◌else◌}
use Rattle.pale_parts.specs.declared.request.Request.{Request}
use Rattle.program_judge.specs.declared.ways.TripleWay.{TripleWay}
use Rattle.program_judge.specs.declared.ways.TripleWay.TheVariants as tripled
use Rattle.program_judge.specs.Reports.{stopped_ending}
use Rattle.pale_top.specs.Output.{check, replay, format, ws2s, judge, meet, run, trace, generated, refused, given}
use Rattle.pale_judging.specs.Generating.{Gens, Tells}
use Rattle.pale_judging.specs.Generating as generating

-- ---- the text that was read

-- a text that the source may have had
pub some_text : (left : Option (List ℕ)) → (text : List ℕ) × IfSome left (λ bytes. text ≡ bytes)
some_text None = ([], tt)
some_text (Some bytes) = (bytes, refl)

-- one with more than so many bytes
many_bytes : (most : ℕ) → (text : List ℕ) × (most < length text)
many_bytes most =
    let text : List ℕ = replicate (most + 1) 0 in
    let count : length text ≡ most + 1 = length-replicate {A = ℕ} (most + 1) 0 in
    (text, omega (arith, count))

pub long_text : (most : ℕ) (left : Option (List ℕ)) → IfSome left (λ bytes. most < length bytes)
    → (text : List ℕ) × IfSome left (λ bytes. text ≡ bytes) × (most < length text)
long_text most None more = let text = many_bytes most in (text.0, tt, text.1)
long_text most (Some bytes) more = (bytes, refl, more)

-- a whole read leaves what is behind the most bytes and one more: nothing
pub all_read : (most : ℕ) (before after : Option (List ℕ)) (bytes : List ℕ) → ReadsAll most before after bytes → after ≡ without_first (most + 1) before
all_read most None after bytes reads = reads.rest
all_read most (Some left) after bytes reads =
    let within = reads.within in
    let count : length bytes ≡ length left = ap length reads.whole in
    let short : length left ≤ most + 1 = omega arith in
    reads.rest ∙ ap (λ (rest : List ℕ). Some rest) (sym (drop_of_length-le left short))

-- and it takes a front of it
pub front_read : (most : ℕ) (before after : Option (List ℕ)) (bytes : List ℕ) → ReadsAll most before after bytes → ReadsFront most before after
front_read most before after bytes reads = record { count = most + 1; within = omega arith; rest = all_read most before after bytes reads }

-- ---- the statuses of outputs

ending_given : (how : Ending) → IsGiven (checking.status_of how)
ending_given ending.Good = tt
ending_given ending.Bad = tt
ending_given ending.Ambiguous = tt
ending_given ending.Limit = tt

checked_given : (limit : ℕ) (text output : List ℕ) (status : Status) → Checks limit text output status → IsGiven status
checked_given limit text output status (checking.too_long more) = tt
checked_given limit text output status (checking.refused refusal within is) = tt
checked_given limit text output status (checking.judged program triples o how within is reports) = ending_given how

way_given : (how : TripleWay) → IsGiven (judging.status_of_way how)
way_given tripled.Valid = tt
way_given tripled.Invalid = tt
way_given tripled.Limit = tt

judged_given : (limit : ℕ) (program : TypedProgram) (triples : List Triple) (r : Request) (output : List ℕ) (status : Status) →
    JudgesRequest limit program triples r output status → IsGiven status
judged_given limit program triples r _ _ (judging.stopped _ lines ways reports some) = ending_given (stopped_ending ways)
judged_given limit program triples _ _ _ (judging.fields every) = tt
judged_given limit program triples _ _ _ (judging.triple place t lines how every there report) = way_given how

part_given : (limit : ℕ) (program : TypedProgram) (triples : List Triple) (lines : Option (List (List ℕ))) (output : List ℕ) (status : Status) →
    JudgesPart limit program triples lines output status → IsGiven status
part_given limit program triples _ _ _ judging.no_part = tt
part_given limit program triples _ _ _ (judging.no_request lines fault bad) = tt
part_given limit program triples _ _ _ (judging.asked lines r output status is judges) = judged_given limit program triples r output status judges

judges_given : (limit : ℕ) (text output : List ℕ) (status : Status) → Judges limit text output status → IsGiven status
judges_given limit text output status (judging.too_long more) = tt
judges_given limit text output status (judging.refused refusal within is) = tt
judges_given limit text output status (judging.uncut program triples o s within none is judges) =
    part_given limit program triples None o s judges
judges_given limit text output status (judging.cut part after program triples o s within at is judges) =
    part_given limit program triples (Some (lines_of after)) o s judges

meet_status_given : (ways : List MeetWay) → IsGiven (meeting.meet_status ways)
meet_status_given ways = by (list_any is_empty ways) (list_any is_at_limit ways)
  where
    by : (some full : Bool) → IsGiven (if some then Bad else (if full then Limit else Good))
    by true full = tt
    by false true = tt
    by false false = tt

met_given : (limit : ℕ) (program : TypedProgram) (triples : List Triple) (output : List ℕ) (status : Status) →
    MeetsProgram limit program triples output status → IsGiven status
met_given limit program triples _ _ (meeting.stopped lines ways reports some) = ending_given (stopped_ending ways)
met_given limit program triples _ _ (meeting.told lines ways every reports) = meet_status_given ways

meets_given : (limit : ℕ) (text output : List ℕ) (status : Status) → MeetsText limit text output status → IsGiven status
meets_given limit text output status (meeting.too_long more) = tt
meets_given limit text output status (meeting.refused refusal within is) = tt
meets_given limit text output status (meeting.met program triples o s within is meets) = met_given limit program triples o s meets

told_given : (limit seed : ℕ) (program : TypedProgram) (triples : List Triple) (output : List ℕ) (status : Status) →
    Tells limit seed program triples output status → IsGiven status
told_given limit seed program triples _ _ (generating.told ways how counts) = ending_given how

generated_given : (limit seed : ℕ) (output : List ℕ) (status : Status) → Gens limit seed output status → IsGiven status
generated_given limit seed output status (generating.too_long more) = tt
generated_given limit seed output status (generating.refused refusal within is) = tt
generated_given limit seed output status (generating.counted program triples o s within is tells) = told_given limit seed program triples o s tells

output_given : (settings : Settings) (text output : List ℕ) (status : Status) → Output settings text output status → IsGiven status
output_given settings text output status (check is written answer checks) = checked_given settings.limit text output status checks
output_given settings text output status (replay is written answer replays) = replayed_given text output status replays
output_given settings text output status (format is written answer formats) = formatted_given text output status formats
output_given settings text output status (ws2s is written answer decides) = decided_given settings.limit text output status decides
output_given settings text output status (judge is written answer judges) = judges_given settings.limit text output status judges
output_given settings text output status (meet is written answer meets) = meets_given settings.limit text output status meets
output_given settings text output status (run is written answer runs) = run_given text output status runs
output_given settings text output status (trace is written answer traces) = traced_given text output status traces
output_given settings text output status (generated is written answer gens) = generated_given settings.limit settings.seed output status gens

-- each is an answer
given_answer : (status : Status) → IsGiven status → IsAnswer status
given_answer Good one = tt
given_answer Bad one = tt
given_answer Text one = tt
given_answer Limit one = tt
given_answer Words one = absurd one
given_answer Memory one = one
given_answer ReadFault one = one
given_answer WriteFault one = one

call_answer : (words : List (List ℕ)) (text output : List ℕ) (status : Status) → CallOutput words text output status → IsAnswer status
call_answer words text output status (refused is) = tt
call_answer words text output status (given settings gives written answer out) = given_answer answer (output_given settings text written answer out)

-- an answer isn't cut short
answer_whole : (status : Status) → IsAnswer status → IsCutShort status → ⊥
answer_whole Memory one cut = one
answer_whole WriteFault one cut = one
answer_whole Good one cut = cut
answer_whole Bad one cut = cut
answer_whole Words one cut = cut
answer_whole Text one cut = cut
answer_whole Limit one cut = cut
answer_whole ReadFault one cut = cut

-- what is written for these words and this text, by what the sink left and how the call ended
module _ (words : List (List ℕ)) (text : List ℕ) (before after : Option (List ℕ)) where
  wrote_answer : (answer status : Status) → status ≡ answer → Wrote (CallOutput words text) before after answer → IsAnswer status
  wrote_answer answer status ends wrote = subst IsAnswer (sym ends) (call_answer words text wrote.output answer wrote.allowed)

  -- where it wasn't cut short, the output was written
  pub text_wrote : (outcome : Result Status WriteStop) (status : Status) → EndsBy outcome status
      → IfOk outcome (Wrote (CallOutput words text) before after) → IsAnswer status → Wrote (CallOutput words text) before after status
  text_wrote (Ok answer) status ends wrote is = subst (λ (s : Status). Wrote (CallOutput words text) before after s) (sym ends) wrote
  text_wrote (Err Failed) status ends wrote is = absurd (subst IsAnswer ends is)
  text_wrote (Err NoMemory) status ends wrote is = absurd (subst IsAnswer ends is)

  -- where the writing was cut short, what was written begins an output
  pub text_begun : (outcome : Result Status WriteStop) (status : Status) → EndsBy outcome status
      → IfOk outcome (Wrote (CallOutput words text) before after) → OnErr outcome (WroteAtMost (CallOutput words text) before after) → IsCutShort status
      → WroteAtMost (CallOutput words text) before after
  text_begun (Ok answer) status ends wrote begun cut = absurd (answer_whole status (wrote_answer answer status ends wrote) cut)
  text_begun (Err Failed) status ends wrote begun cut = begun
  text_begun (Err NoMemory) status ends wrote begun cut = begun

  -- it doesn't end as at a fault of the source
  pub no_read_fault : (outcome : Result Status WriteStop) (status : Status) → EndsBy outcome status
      → IfOk outcome (Wrote (CallOutput words text) before after) → status ≡ ReadFault → ⊥
  no_read_fault (Ok answer) status ends wrote is = subst IsAnswer is (wrote_answer answer status ends wrote)
  no_read_fault (Err Failed) status ends wrote is = subst IsCutShort (sym ends ∙ is) tt
  no_read_fault (Err NoMemory) status ends wrote is = subst IsCutShort (sym ends ∙ is) tt

  -- and as at a fault of the sink only where the sink failed
  pub write_failed : (outcome : Result Status WriteStop) (status : Status) → EndsBy outcome status
      → IfOk outcome (Wrote (CallOutput words text) before after) → status ≡ WriteFault → IsErrOf outcome Failed
  write_failed (Ok answer) status ends wrote is = absurd (subst IsAnswer is (wrote_answer answer status ends wrote))
  write_failed (Err Failed) status ends wrote is = refl
  write_failed (Err NoMemory) status ends wrote is =
      let bad : Memory ≡ WriteFault = sym ends ∙ is in
      cc

  -- the text is all that a source had left, where it told of that
  pub told_answers : (left : Option (List ℕ)) (status : Status) → IfSome left (λ bytes. text ≡ bytes)
      → Wrote (CallOutput words text) before after status → Answers (CallOutput words) left before after status
  told_answers left status told wrote = record { text = text; told = told; wrote = wrote }

  pub told_begins : (left : Option (List ℕ)) → IfSome left (λ bytes. text ≡ bytes)
      → WroteAtMost (CallOutput words text) before after → Begins (CallOutput words) left before after
  told_begins left told wrote = record { text = text; told = told; wrote = wrote }

-- each mode that reads a text refuses one with too many bytes
pub too_long_output : (settings : Settings) (text : List ℕ) → settings.mode ≢ Gen → most_bytes < length text → Output settings text too_long_line Text
too_long_output settings text reads more = by_mode settings.mode refl
  where
    by_mode : (mode : Mode) → settings.mode ≡ mode → Output settings text too_long_line Text
    by_mode Check is = check is too_long_line Text (checking.too_long more)
    by_mode Replay is = replay is too_long_line Text (replaying.too_long more)
    by_mode Format is = format is too_long_line Text (formatting.too_long more)
    by_mode Ws2s is = ws2s is too_long_line Text (deciding.too_long more)
    by_mode Judge is = judge is too_long_line Text (judging.too_long more)
    by_mode Meet is = meet is too_long_line Text (meeting.too_long more)
    by_mode Run is = run is too_long_line Text (running.too_long more)
    by_mode Trace is = trace is too_long_line Text (tracing.too_long more)
    by_mode Gen is = absurd (reads is)

-- ---- a call that says one line

module _ (Allowed : List ℕ → List ℕ → Status → Type 0) (left before after : Option (List ℕ)) (text line : List ℕ) (answer : Status)
    (told : IfSome left (λ bytes. text ≡ bytes)) (allowed : Allowed text line answer) where
  pub line_answers : (outcome : Result Status WriteStop) (status : Status) → EndsBy outcome status
      → IfOk outcome (λ s. (s ≡ answer) × WritesAll before after line) → IsAnswer status → Answers Allowed left before after status
  line_answers (Ok s) status ends said is = record {
    text = text;
    told = told;
    wrote = subst (λ (x : Status). Wrote (Allowed text) before after x) (sym (ends ∙ said.0)) (record { output = line; allowed = allowed; written = said.1 });
  }
  line_answers (Err Failed) status ends said is = absurd (subst IsAnswer ends is)
  line_answers (Err NoMemory) status ends said is = absurd (subst IsAnswer ends is)

  pub line_begins : (outcome : Result Status WriteStop) (status : Status) → EndsBy outcome status → (IsCutShort answer → ⊥)
      → IfOk outcome (λ s. (s ≡ answer) × WritesAll before after line) → OnErr outcome (WritesFront before after line) → IsCutShort status
      → Begins Allowed left before after
  line_begins (Ok s) status ends whole said begun cut = absurd (whole (subst IsCutShort (ends ∙ said.0) cut))
  line_begins (Err Failed) status ends whole said begun cut =
      record { text = text; told = told; wrote = inr (record { output = line; status = answer; allowed = allowed; written = begun }) }
  line_begins (Err NoMemory) status ends whole said begun cut =
      record { text = text; told = told; wrote = inr (record { output = line; status = answer; allowed = allowed; written = begun }) }

-- after a line with this status, the call ends with no other but at a fault or want of memory
pub line_status : (before after : Option (List ℕ)) (line : List ℕ) (answer other : Status) (outcome : Result Status WriteStop) (status : Status) →
    EndsBy outcome status → IfOk outcome (λ s. (s ≡ answer) × WritesAll before after line) → IsAnswer status → status ≡ other → other ≡ answer
line_status before after line answer other (Ok s) status ends said is same = sym same ∙ ends ∙ said.0
line_status before after line answer other (Err Failed) status ends said is same = absurd (subst IsAnswer ends is)
line_status before after line answer other (Err NoMemory) status ends said is same = absurd (subst IsAnswer ends is)

-- ---- words for which no text is looked at

generated_for_all : (settings : Settings) → settings.mode ≡ Gen → (text other output : List ℕ) (status : Status) →
    Output settings text output status → Output settings other output status
generated_for_all settings asks text other output status (check is written answer checks) = (let bad : Gen ≡ Check = sym asks ∙ is in absurd (cc))
generated_for_all settings asks text other output status (replay is written answer replays) = (let bad : Gen ≡ Replay = sym asks ∙ is in absurd (cc))
generated_for_all settings asks text other output status (format is written answer formats) = (let bad : Gen ≡ Format = sym asks ∙ is in absurd (cc))
generated_for_all settings asks text other output status (ws2s is written answer decides) = (let bad : Gen ≡ Ws2s = sym asks ∙ is in absurd (cc))
generated_for_all settings asks text other output status (judge is written answer judges) = (let bad : Gen ≡ Judge = sym asks ∙ is in absurd (cc))
generated_for_all settings asks text other output status (meet is written answer meets) = (let bad : Gen ≡ Meet = sym asks ∙ is in absurd (cc))
generated_for_all settings asks text other output status (run is written answer runs) = (let bad : Gen ≡ Run = sym asks ∙ is in absurd (cc))
generated_for_all settings asks text other output status (trace is written answer traces) = (let bad : Gen ≡ Trace = sym asks ∙ is in absurd (cc))
generated_for_all settings asks text other output status (generated is written answer gens) = generated is written answer gens

-- what they give for one text they give for each
module _ (words : List (List ℕ)) (unread : IsRefused words ⊎ AsksFor words Gen) where
  same_for_all : (text other output : List ℕ) (status : Status) → CallOutput words text output status → CallOutput words other output status
  same_for_all text other output status (refused is) = refused is
  same_for_all text other output status (given settings gives written answer out) = by_words unread
    where
      by_words : IsRefused words ⊎ AsksFor words Gen → CallOutput words other output status
      by_words (inl refuses) = absurd (not_refused words settings gives refuses)
      by_words (inr (asked, gave, asks)) = given settings gives written answer
          (generated_for_all settings (same_mode words settings asked gives gave ∙ asks) text other written answer out)

  pub unread_answers : (text : List ℕ) (left before after : Option (List ℕ)) (status : Status) → Wrote (CallOutput words text) before after status
      → Answers (CallOutput words) left before after status
  unread_answers text left before after status wrote =
      let some = some_text left in
      told_answers words some.0 before after left status some.1
      (Wrote-weaker (CallOutput words text) (CallOutput words some.0) (same_for_all text some.0) before after status wrote)

  pub unread_begins : (text : List ℕ) (left before after : Option (List ℕ)) → WroteAtMost (CallOutput words text) before after
      → Begins (CallOutput words) left before after
  unread_begins text left before after wrote =
      let some = some_text left in
      told_begins words some.0 before after left some.1
      (WroteAtMost-weaker (CallOutput words text) (CallOutput words some.0) (same_for_all text some.0) before after wrote)

  -- they don't ask for another mode
  pub asks_for_none : (mode : Mode) → (mode ≡ Gen → ⊥) → AsksFor words mode → ⊥
  asks_for_none mode other (settings, gives, asks) = by_words unread
    where
      by_words : IsRefused words ⊎ AsksFor words Gen → ⊥
      by_words (inl refuses) = not_refused words settings gives refuses
      by_words (inr (asked, gave, gen)) = other (sym asks ∙ same_mode words settings asked gives gave ∙ gen)

  -- nor for one that reads a text
  pub asks_for_text : ((settings : Settings) × Gives words settings × (settings.mode ≢ Gen)) → ⊥
  asks_for_text (settings, gives, reads) = by_words unread
    where
      by_words : IsRefused words ⊎ AsksFor words Gen → ⊥
      by_words (inl refuses) = not_refused words settings gives refuses
      by_words (inr (asked, gave, gen)) = reads (same_mode words settings asked gives gave ∙ gen)
