-- What an output says of a text without a fault.
use Rattle.std.proofs.Common.{◌≡◌, ◌∙◌, ◌⊎◌, inl, inr, ◌≤◌, ℕ, List, length, Option, Some, None, refl, subst, sym, arith}
use Rattle.std.specs.Prelude.{IfSome}
use Rattle.std.proofs.lemmas.Option.{same_Some}
use Rattle.pale_text.specs.declared.refusal.Refusal.{Refusal}
use Rattle.pale_syntax.specs.declared.tree.declaration.Program.{Program}
use Rattle.pale_print.specs.Spelling.{spelling}
use Rattle.store_core.specs.Tables.{TypeEntry}
use Rattle.store_exec.specs.declared.triple.Triple.{Triple}
use Rattle.pale_typed.specs.TypedPrograms.{TypedProgram}
use Rattle.whole_program.specs.ProgramTexts.{IsReadAs, IsRefusedAs, IsTextOf}
use Rattle.ws2s_syntax.specs.Checked as checked
use Rattle.pale_generator.specs.Generated.{program_text}
use Rattle.pale_io.specs.Whole.{WritesAll}
use Rattle.pale_words.specs.declared.words.Mode.{Mode}
use Rattle.pale_words.specs.declared.words.Mode.TheVariants.{Check, Replay, Format, Ws2s, Judge, Meet, Run, Trace, Gen}
use Rattle.pale_words.specs.declared.words.Settings.{Settings}
use Rattle.pale_words.specs.Words.{AsksFor, Gives, IsRefused}
use Rattle.pale_words.proofs.GivesLemmas.{not_refused, same_limit, same_mode}
use Rattle.pale_status.specs.declared.status.Status.{Status}
use Rattle.pale_status.specs.declared.status.Status.TheVariants.{Good}
use Rattle.pale_modes.specs.Completing.{IsWithinPeak}
use Rattle.pale_modes.specs.Deciding.{Decides, Says}
use Rattle.pale_modes.specs.Formatting.{Formats}
use Rattle.pale_modes.specs.Formatting as formatting
use Rattle.pale_modes.specs.Replaying.{Replays}
use Rattle.pale_modes.specs.Running.{Runs}
use Rattle.pale_modes.specs.Tracing.{Traces}
use Rattle.pale_status.specs.Texts.{most_bytes}
use Rattle.pale_status.specs.Written.{Wrote}
use Rattle.pale_modes.proofs.ReplayedLemmas as replayed
use Rattle.pale_modes.proofs.RanLemmas.{ran_so}
use Rattle.pale_modes.proofs.TracedLemmas.{traced_so, run_traced_so}
use Rattle.program_judge.specs.declared.ways.Ending.{Ending}
use Rattle.program_judge.specs.declared.ways.FieldWay.{FieldWay}
use Rattle.program_judge.specs.declared.ways.TripleWay.{TripleWay}
use Rattle.program_judge.specs.Reports.{pointer_fields, ReportsFields, ReportsTriple, ReportsTriples, ReportsProgram}
use Rattle.program_judge.specs.declared.ways.TripleWay.TheVariants as tripled
use Rattle.program_promises.specs.Completeness.{IsTripleWithin}
use Rattle.program_promises.specs.Telling.{TellsFields, TellsTriples, TellsProgram}
use Rattle.pale_judging.specs.Checking.{Checks, too_long, refused, judged}
use Rattle.pale_top.specs.Completing.{ChecksEach, Completes, CountsEach, GensEach, MeetsEach}
use Rattle.pale_top.specs.Completing as counting
use Rattle.pale_judging.specs.Judging.{Judges}
use Rattle.pale_judging.specs.Meeting.{MeetsText, MeetsProgram}
use Rattle.pale_judging.specs.Meeting as meeting
use Rattle.program_judge.specs.declared.meet_way.MeetWay.{MeetWay}
use Rattle.program_judge.specs.Meets.{ReportsMeets, AreStartsDecided}
use Rattle.pale_top.proofs.JudgedLemmas as judged
use Rattle.pale_judging.specs.Generating.{Counts, Gens, Tells}
use Rattle.pale_judging.specs.Generating as generating
use Rattle.pale_top.specs.Output.{CallOutput, Output, check, replay, format, ws2s, judge, meet, run, trace, generated}
use Rattle.pale_top.specs.Output as called

-- what the layers below say of readings, reports and outputs
pub record Laws : Type 0 where
  pub one : (text : List ℕ) (program other : TypedProgram) (triples others : List Triple) → IsReadAs text program triples →
      IsReadAs text other others → (program ≡ other) × (triples ≡ others)
  pub apart : (text : List ℕ) (program : TypedProgram) (triples : List Triple) (refusal : Refusal) → IsReadAs text program triples →
      IsRefusedAs text refusal → ⊥
  pub fields : (limit : ℕ) (types : List TypeEntry) (lines : List ℕ) (ways : List FieldWay) →
      ReportsFields limit types (pointer_fields types) lines ways → TellsFields limit types lines ways
  pub triples : (limit : ℕ) (program : TypedProgram) (triples : List Triple) (lines : List ℕ) (ways : List TripleWay) →
      ReportsTriples limit program 1 triples lines ways → TellsTriples limit program triples lines ways
  pub triple : (limit : ℕ) (program : TypedProgram) (k : ℕ) (t : Triple) (lines : List ℕ) (how : TripleWay) →
      ReportsTriple limit program k t lines how → IsTripleWithin limit program t → (how ≡ tripled.Valid) ⊎ (how ≡ tripled.Invalid)
  pub program : (limit : ℕ) (program : TypedProgram) (triples : List Triple) (output : List ℕ) (how : Ending) →
      ReportsProgram limit program triples output how → TellsProgram limit program triples output how
  pub starts : (limit : ℕ) (program : TypedProgram) (triples : List Triple) (lines : List ℕ) (ways : List MeetWay) →
      ReportsMeets limit program 1 triples lines ways → AreStartsDecided limit program triples ways
  pub spelled : (text one other : List ℕ) (status another : Status) → Formats text one status → Formats text other another →
      (one ≡ other) × (status ≡ another)
  pub decided : (limit : ℕ) (text output : List ℕ) (status : Status) (tree : checked.Text) → length text ≤ most_bytes →
      IsWithinPeak limit text tree → Decides limit text output status → Says limit tree output status × (status ≡ Good)

-- ---- what a mode writes

-- words give one seed
same_seed : (words : List (List ℕ)) (one other : Settings) → Gives words one → Gives words other → one.seed ≡ other.seed
same_seed words one other a b = same_Some one.seed other.seed (sym a.values.seed ∙ b.values.seed)

-- what is written for a text in this mode, with this limit and seed, and the status
abbrev pub OutputOf : Mode → ℕ → ℕ → List ℕ → List ℕ → Status → Type 0
OutputOf Check limit seed text output status = Checks limit text output status
OutputOf Replay limit seed text output status = Replays text output status
OutputOf Format limit seed text output status = Formats text output status
OutputOf Ws2s limit seed text output status = Decides limit text output status
OutputOf Judge limit seed text output status = Judges limit text output status
OutputOf Meet limit seed text output status = MeetsText limit text output status
OutputOf Run limit seed text output status = Runs text output status
OutputOf Trace limit seed text output status = Traces text output status
OutputOf Gen limit seed text output status = Gens limit seed output status

output_of : (settings : Settings) (mode : Mode) → settings.mode ≡ mode → (text output : List ℕ) (status : Status) →
    Output settings text output status → OutputOf mode settings.limit settings.seed text output status
output_of settings mode asks text output status (check is written answer checks) =
    subst (λ (m : Mode). OutputOf m settings.limit settings.seed text output status) (sym is ∙ asks) checks
output_of settings mode asks text output status (replay is written answer replays) =
    subst (λ (m : Mode). OutputOf m settings.limit settings.seed text output status) (sym is ∙ asks) replays
output_of settings mode asks text output status (format is written answer formats) =
    subst (λ (m : Mode). OutputOf m settings.limit settings.seed text output status) (sym is ∙ asks) formats
output_of settings mode asks text output status (ws2s is written answer decides) =
    subst (λ (m : Mode). OutputOf m settings.limit settings.seed text output status) (sym is ∙ asks) decides
output_of settings mode asks text output status (judge is written answer judges) =
    subst (λ (m : Mode). OutputOf m settings.limit settings.seed text output status) (sym is ∙ asks) judges
output_of settings mode asks text output status (meet is written answer meets) =
    subst (λ (m : Mode). OutputOf m settings.limit settings.seed text output status) (sym is ∙ asks) meets
output_of settings mode asks text output status (run is written answer runs) =
    subst (λ (m : Mode). OutputOf m settings.limit settings.seed text output status) (sym is ∙ asks) runs
output_of settings mode asks text output status (trace is written answer traces) =
    subst (λ (m : Mode). OutputOf m settings.limit settings.seed text output status) (sym is ∙ asks) traces
output_of settings mode asks text output status (generated is written answer gens) =
    subst (λ (m : Mode). OutputOf m settings.limit settings.seed text output status) (sym is ∙ asks) gens

-- and by the words, whose mode, limit and seed are one
pub call_of : (words : List (List ℕ)) (text output : List ℕ) (status : Status) → CallOutput words text output status → (other : Settings) →
    Gives words other → (mode : Mode) → other.mode ≡ mode → OutputOf mode other.limit other.seed text output status
call_of words text _ _ (called.refused refuses) other given mode asks = absurd (not_refused words other given refuses)
call_of words text _ _ (called.given settings gives written answer out) other given mode asks =
    let here = output_of settings mode (same_mode words settings other gives given ∙ asks) text written answer out in
    let of_limit = subst (λ (l : ℕ). OutputOf mode l settings.seed text written answer) (same_limit words settings other gives given) here in
    subst (λ (n : ℕ). OutputOf mode other.limit n text written answer) (same_seed words settings other gives given) of_limit

-- ---- what it says of a text without a fault

module _ (laws : Laws) (text : List ℕ) (short : length text ≤ most_bytes) where
  checks_each : (limit : ℕ) (program : TypedProgram) (triples : List Triple) → IsReadAs text program triples → (output : List ℕ) (status : Status) →
      Checks limit text output status → ChecksEach limit program triples output status
  checks_each limit program triples read _ _ (too_long more) = absurd (omega (arith, more, short))
  checks_each limit program triples read _ _ (refused refusal most stop) = absurd (laws.apart text program triples refusal read stop)
  checks_each limit program triples read _ _ (judged other others output how most again reports) =
      let same = laws.one text other program others triples again read in
      let moved = subst (λ (p : TypedProgram). ReportsProgram limit p others output how) same.0 reports in
      let whole = subst (λ (ts : List Triple). ReportsProgram limit program ts output how) same.1 moved in
      record { how = how; tells = laws.program limit program triples output how whole; ends = refl }

  met_told : (limit : ℕ) (program : TypedProgram) (triples : List Triple) (output : List ℕ) (status : Status) →
      MeetsProgram limit program triples output status → MeetsEach limit program triples output status
  met_told limit program triples _ _ (meeting.stopped lines ways reports some) =
      counting.some_field lines ways (laws.fields limit program.types lines ways reports) some
  met_told limit program triples _ _ (meeting.told lines ways every reports) =
      counting.each_start lines ways every reports (laws.starts limit program triples lines ways reports)

  meets_each : (limit : ℕ) (program : TypedProgram) (triples : List Triple) → IsReadAs text program triples → (output : List ℕ) (status : Status) →
      MeetsText limit text output status → MeetsEach limit program triples output status
  meets_each limit program triples read _ _ (meeting.too_long more) = absurd (omega (arith, more, short))
  meets_each limit program triples read _ _ (meeting.refused refusal most stop) = absurd (laws.apart text program triples refusal read stop)
  meets_each limit program triples read _ _ (meeting.met other others output status most again meets) =
      let same = laws.one text other program others triples again read in
      let moved = subst (λ (p : TypedProgram). MeetsProgram limit p others output status) same.0 meets in
      met_told limit program triples output status (subst (λ (ts : List Triple). MeetsProgram limit program ts output status) same.1 moved)

  spells_program : (tree : Program) → IsTextOf text tree → (output : List ℕ) (status : Status) → Formats text output status →
      (output ≡ spelling tree) × (status ≡ Good)
  spells_program tree is output status formats =
      laws.spelled text output (spelling tree) status Good formats (formatting.program is.list tree short is.lexed is.parsed)

  pub completed : (words : List (List ℕ)) (before after : Option (List ℕ)) (status : Status) → Wrote (CallOutput words text) before after status →
      (settings : Settings) → Gives words settings → Completes settings text before after status
  completed words before after status wrote settings gives = record {
    check = λ asks program triples read. record {
      output = wrote.output;
      allowed = checks_each settings.limit program triples read wrote.output status (by Check asks);
      written = wrote.written;
    };
    ws2s = λ asks tree within.
        let says = laws.decided settings.limit text wrote.output status tree short within (by Ws2s asks) in
        (record { output = wrote.output; allowed = says.0; written = wrote.written }, says.1);
    replay = λ asks program t e s spells. record {
      output = wrote.output;
      allowed = replayed.replayed (record { one = laws.one; apart = laws.apart }) text program t e s spells wrote.output status short (by Replay asks);
      written = wrote.written;
    };
    run = λ asks program number steps e s spells. record {
      output = wrote.output;
      allowed = ran_so (record { one = laws.one; apart = laws.apart }) text program number steps e s spells wrote.output status short (by Run asks);
      written = wrote.written;
    };
    trace = λ asks program t e s spells. record {
      output = wrote.output;
      allowed = traced_so (record { one = laws.one; apart = laws.apart }) text program t e s spells wrote.output status short (by Trace asks);
      written = wrote.written;
    };
    trace_run = λ asks program number steps e s spells. record {
      output = wrote.output;
      allowed = run_traced_so (record { one = laws.one; apart = laws.apart }) text program number steps e s spells wrote.output status short
          (by Trace asks);
      written = wrote.written;
    };
    judge = λ asks program triples r spells. record {
      output = wrote.output;
      allowed = judged.judged_each (record { one = laws.one; apart = laws.apart; fields = laws.fields; triple = laws.triple })
          text settings.limit program triples r spells
          wrote.output status short (by Judge asks);
      written = wrote.written;
    };
    meet = λ asks program triples read. record {
      output = wrote.output;
      allowed = meets_each settings.limit program triples read wrote.output status (by Meet asks);
      written = wrote.written;
    };
    format = λ asks tree is.
        let spelled = spells_program tree is wrote.output status (by Format asks) in
        (subst (WritesAll before after) spelled.0 wrote.written, spelled.1);
  }
    where
      by : (mode : Mode) → settings.mode ≡ mode → OutputOf mode settings.limit settings.seed text wrote.output status
      by mode asks = call_of words text wrote.output status wrote.allowed settings gives mode asks

-- ---- what `gen` says of the program of its seed

module _ (laws : Laws) (limit seed : ℕ) (program : TypedProgram) (triples : List Triple) where
  counted_each : (ways : List TripleWay) (how : Ending) → Counts limit program triples ways how → CountsEach limit program triples ways how
  counted_each _ _ (generating.stopped lines ways reports some) = counting.stopped lines ways (laws.fields limit program.types lines ways reports) some
  counted_each _ _ (generating.judged lines fields others ways reports good each) =
      counting.judged lines fields others ways (laws.fields limit program.types lines fields reports) good
      (laws.triples limit program triples others ways each)

  told_each : (output : List ℕ) (status : Status) → Tells limit seed program triples output status → GensEach limit seed program triples output status
  told_each _ _ (generating.told ways how counts) = record {
    ways = ways;
    how = how;
    counts = counted_each ways how counts;
    line = refl;
    ends = refl;
  }

  module _ (short : length (program_text seed) ≤ most_bytes) (read : IsReadAs (program_text seed) program triples) where
    gens_each : (output : List ℕ) (status : Status) → Gens limit seed output status → GensEach limit seed program triples output status
    gens_each _ _ (generating.too_long more) = absurd (omega (arith, more, short))
    gens_each _ _ (generating.refused refusal most stop) = absurd (laws.apart (program_text seed) program triples refusal read stop)
    gens_each _ _ (generating.counted other others output status most again tells) =
        let same = laws.one (program_text seed) other program others triples again read in
        let moved = subst (λ (p : TypedProgram). Tells limit seed p others output status) same.0 tells in
        told_each output status (subst (λ (ts : List Triple). Tells limit seed program ts output status) same.1 moved)

pub counted : Laws → (words : List (List ℕ)) (text : List ℕ) (before after : Option (List ℕ)) (status : Status) →
    Wrote (CallOutput words text) before after status → (settings : Settings) → Gives words settings → settings.mode ≡ Gen →
    length (program_text settings.seed) ≤ most_bytes → (program : TypedProgram) (triples : List Triple) →
    IsReadAs (program_text settings.seed) program triples → Wrote (GensEach settings.limit settings.seed program triples) before after status
counted laws words text before after status wrote settings gives asks short program triples read = record {
  output = wrote.output;
  allowed = gens_each laws settings.limit settings.seed program triples short read wrote.output status
      (call_of words text wrote.output status wrote.allowed settings gives Gen asks);
  written = wrote.written;
}

-- ---- where a source told of the text, and where none is read

pub told_completed : (settings : Settings) (left before after : Option (List ℕ)) (text : List ℕ) (status : Status) → IfSome left (λ bytes. text ≡ bytes) →
    (length text ≤ most_bytes → Completes settings text before after status) →
    IfSome left (λ bytes. length bytes ≤ most_bytes → Completes settings bytes before after status)
told_completed settings None before after text status told completes = tt
told_completed settings (Some bytes) before after text status told completes =
    subst (λ (b : List ℕ). length b ≤ most_bytes → Completes settings b before after status) told completes

-- in the mode `gen` no text is looked at
none_completed : (settings : Settings) → settings.mode ≡ Gen → (text : List ℕ) (before after : Option (List ℕ)) (status : Status) →
    Completes settings text before after status
none_completed settings gen text before after status = record {
  check = λ asks program triples read. absurd (let bad : Check ≡ Gen = sym asks ∙ gen in cc);
  ws2s = λ asks tree within. absurd (let bad : Ws2s ≡ Gen = sym asks ∙ gen in cc);
  judge = λ asks program triples r spells. absurd (let bad : Judge ≡ Gen = sym asks ∙ gen in cc);
  meet = λ asks program triples read. absurd (let bad : Meet ≡ Gen = sym asks ∙ gen in cc);
  run = λ asks program number steps e s spells. absurd (let bad : Run ≡ Gen = sym asks ∙ gen in cc);
  trace = λ asks program t e s spells. absurd (let bad : Trace ≡ Gen = sym asks ∙ gen in cc);
  trace_run = λ asks program number steps e s spells. absurd (let bad : Trace ≡ Gen = sym asks ∙ gen in cc);
  replay = λ asks program t e s spells. absurd (let bad : Replay ≡ Gen = sym asks ∙ gen in cc);
  format = λ asks tree is. absurd (let bad : Format ≡ Gen = sym asks ∙ gen in cc);
}

unread_by_mode : (settings : Settings) → settings.mode ≡ Gen → (left before after : Option (List ℕ)) (status : Status) →
    IfSome left (λ bytes. length bytes ≤ most_bytes → Completes settings bytes before after status)
unread_by_mode settings gen None before after status = tt
unread_by_mode settings gen (Some bytes) before after status = λ short. none_completed settings gen bytes before after status

pub unread_completed : (words : List (List ℕ)) → IsRefused words ⊎ AsksFor words Gen → (settings : Settings) → Gives words settings →
    (left before after : Option (List ℕ)) (status : Status) →
    IfSome left (λ bytes. length bytes ≤ most_bytes → Completes settings bytes before after status)
unread_completed words (inl refuses) settings gives left before after status = absurd (not_refused words settings gives refuses)
unread_completed words (inr (other, gave, gen)) settings gives left before after status =
    unread_by_mode settings (same_mode words settings other gives gave ∙ gen) left before after status
