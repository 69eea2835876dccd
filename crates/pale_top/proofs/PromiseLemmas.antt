-- What an output of `check` promises, by the laws of reports.
use Rattle.std.proofs.Common.{◌≡◌, ◌∙◌, ◌⊎◌, inl, inr, ◌≤◌, ℕ, ◌<◌, List, length, Option, Some, None, ap, refl, subst, sym, arith}
use Rattle.std.specs.Prelude.{IfSome}
use Rattle.pale_text.specs.declared.refusal.Refusal.{Refusal}
use Rattle.store_exec.specs.declared.triple.Triple.{Triple}
use Rattle.pale_typed.specs.TypedPrograms.{TypedProgram}
use Rattle.whole_program.specs.ProgramTexts.{IsReadAs, IsRefusedAs}
use Rattle.pale_words.specs.declared.words.Mode.TheVariants.{Check, Replay, Format, Ws2s, Judge, Meet, Run, Trace, Gen}
use Rattle.pale_words.specs.declared.words.Settings.{Settings}
use Rattle.pale_words.specs.Words.{AsksFor, Gives}
use Rattle.pale_words.proofs.GivesLemmas.{not_refused, same_limit, same_mode}
use Rattle.pale_status.specs.declared.status.Status.{Status}
use Rattle.pale_status.specs.declared.status.Status.TheVariants.{Good, Bad}
use Rattle.pale_status.specs.Texts.{most_bytes}
use Rattle.program_judge.specs.declared.ways.Ending.{Ending}
use Rattle.program_judge.specs.declared.ways.Ending.TheVariants as ending
use Rattle.program_judge.specs.Reports.{ReportsProgram}
use Rattle.program_promises.specs.Safety.{RunsNeverFail, IsSafe}
use Rattle.program_promises.specs.Completeness.{ArePeaksWithin, IsWithinPeaks}
use Rattle.pale_judging.specs.Checking.{Checks, status_of, too_long, refused, judged}
use Rattle.pale_top.specs.Output.{CallOutput, Output, check, replay, format, ws2s, judge, meet, run, trace, generated}
use Rattle.pale_top.specs.Output as called

-- ---- what the layers below say of reports

abbrev pub SafeRuns : Type 0
SafeRuns = (limit : ℕ) (text : List ℕ) (program : TypedProgram) (triples : List Triple) (output : List ℕ) →
    IsReadAs text program triples → ReportsProgram limit program triples output ending.Good → RunsNeverFail program

pub record Laws : Type 0 where
  pub one : (text : List ℕ) (program other : TypedProgram) (triples others : List Triple) → IsReadAs text program triples →
      IsReadAs text other others → (program ≡ other) × (triples ≡ others)
  pub apart : (text : List ℕ) (program : TypedProgram) (triples : List Triple) (refusal : Refusal) → IsReadAs text program triples →
      IsRefusedAs text refusal → ⊥
  pub verdicts : (limit : ℕ) (program : TypedProgram) (triples : List Triple) (output : List ℕ) (how : Ending) →
      ArePeaksWithin limit program triples → ReportsProgram limit program triples output how → (how ≡ ending.Good) ⊎ (how ≡ ending.Bad)

-- ---- no whole run fails

good_ending : (how : Ending) → status_of how ≡ Good → how ≡ ending.Good
good_ending ending.Good is = refl
good_ending ending.Bad is = absurd (cc)
good_ending ending.Ambiguous is = absurd (cc)
good_ending ending.Limit is = absurd (cc)

module _ (runs : SafeRuns) where
  safe_checks : (limit : ℕ) (text output : List ℕ) (status : Status) → Checks limit text output status → status ≡ Good → IsSafe text
  safe_checks limit text _ _ (too_long more) is = absurd (cc)
  safe_checks limit text _ _ (refused refusal within stop) is = absurd (cc)
  safe_checks limit text _ _ (judged program triples output how within read reports) is = record {
    program = program;
    triples = triples;
    read = read;
    safe = runs limit text program triples output read
        (subst (λ (e : Ending). ReportsProgram limit program triples output e) (good_ending how is) reports);
  }

  safe_output : (settings : Settings) → settings.mode ≡ Check → (text output : List ℕ) (status : Status) → Output settings text output status →
      status ≡ Good → IsSafe text
  safe_output settings asks text output status (check is written answer checks) good = safe_checks settings.limit text output status checks good
  safe_output settings asks text output status (replay is written answer replays) good = (let bad : Check ≡ Replay = sym asks ∙ is in absurd (cc))
  safe_output settings asks text output status (format is written answer formats) good = (let bad : Check ≡ Format = sym asks ∙ is in absurd (cc))
  safe_output settings asks text output status (ws2s is written answer decides) good = (let bad : Check ≡ Ws2s = sym asks ∙ is in absurd (cc))
  safe_output settings asks text output status (judge is written answer judges) good = (let bad : Check ≡ Judge = sym asks ∙ is in absurd (cc))
  safe_output settings asks text output status (meet is written answer meets) good = (let bad : Check ≡ Meet = sym asks ∙ is in absurd (cc))
  safe_output settings asks text output status (run is written answer runs) good = (let bad : Check ≡ Run = sym asks ∙ is in absurd (cc))
  safe_output settings asks text output status (trace is written answer traces) good = (let bad : Check ≡ Trace = sym asks ∙ is in absurd (cc))
  safe_output settings asks text output status (generated is written answer gens) good = (let bad : Check ≡ Gen = sym asks ∙ is in absurd (cc))

  pub safe_call : (words : List (List ℕ)) (text output : List ℕ) (status : Status) → CallOutput words text output status → status ≡ Good →
      AsksFor words Check → IsSafe text
  safe_call words text _ _ (called.refused refuses) good asked = absurd (cc)
  safe_call words text _ _ (called.given settings gives written answer out) good (other, given, asks) =
      safe_output settings (same_mode words settings other gives given ∙ asks) text written answer out good

pub told_safe : (left : Option (List ℕ)) (text : List ℕ) → IfSome left (λ bytes. text ≡ bytes) → IsSafe text → IfSome left IsSafe
told_safe None text told safe = tt
told_safe (Some bytes) text told safe = subst IsSafe told safe

-- ---- within the Peaks there is a verdict

good_or_bad : (how : Ending) → (how ≡ ending.Good) ⊎ (how ≡ ending.Bad) → (status_of how ≡ Good) ⊎ (status_of how ≡ Bad)
good_or_bad how (inl is) = inl (ap status_of is)
good_or_bad how (inr is) = inr (ap status_of is)

module _ (laws : Laws) where
  decided_checks : (limit : ℕ) (text output : List ℕ) (status : Status) → Checks limit text output status → length text ≤ most_bytes →
      IsWithinPeaks limit text → (status ≡ Good) ⊎ (status ≡ Bad)
  decided_checks limit text _ _ (too_long more) short within = absurd (omega (arith, more, short))
  decided_checks limit text _ _ (refused refusal most stop) short within =
      absurd (laws.apart text within.program within.triples refusal within.read stop)
  decided_checks limit text _ _ (judged program triples output how most read reports) short within =
      let same = laws.one text program within.program triples within.triples read within.read in
      let moved = subst (λ (p : TypedProgram). ReportsProgram limit p triples output how) same.0 reports in
      let whole = subst (λ (ts : List Triple). ReportsProgram limit within.program ts output how) same.1 moved in
      good_or_bad how (laws.verdicts limit within.program within.triples output how within.within whole)

  decided_output : (settings : Settings) → settings.mode ≡ Check → (text output : List ℕ) (status : Status) → Output settings text output status →
      length text ≤ most_bytes → IsWithinPeaks settings.limit text → (status ≡ Good) ⊎ (status ≡ Bad)
  decided_output settings asks text output status (check is written answer checks) short within =
      decided_checks settings.limit text output status checks short within
  decided_output settings asks text output status (replay is written answer replays) short within =
      (let bad : Check ≡ Replay = sym asks ∙ is in absurd (cc))
  decided_output settings asks text output status (format is written answer formats) short within =
      (let bad : Check ≡ Format = sym asks ∙ is in absurd (cc))
  decided_output settings asks text output status (ws2s is written answer decides) short within =
      (let bad : Check ≡ Ws2s = sym asks ∙ is in absurd (cc))
  decided_output settings asks text output status (judge is written answer judges) short within =
      (let bad : Check ≡ Judge = sym asks ∙ is in absurd (cc))
  decided_output settings asks text output status (meet is written answer meets) short within =
      (let bad : Check ≡ Meet = sym asks ∙ is in absurd (cc))
  decided_output settings asks text output status (run is written answer runs) short within =
      (let bad : Check ≡ Run = sym asks ∙ is in absurd (cc))
  decided_output settings asks text output status (trace is written answer traces) short within =
      (let bad : Check ≡ Trace = sym asks ∙ is in absurd (cc))
  decided_output settings asks text output status (generated is written answer gens) short within =
      (let bad : Check ≡ Gen = sym asks ∙ is in absurd (cc))

  pub decided_call : (words : List (List ℕ)) (text output : List ℕ) (status : Status) → CallOutput words text output status →
      (other : Settings) → Gives words other → other.mode ≡ Check → length text ≤ most_bytes → IsWithinPeaks other.limit text →
      (status ≡ Good) ⊎ (status ≡ Bad)
  decided_call words text _ _ (called.refused refuses) other given asks short within = absurd (not_refused words other given refuses)
  decided_call words text _ _ (called.given settings gives written answer out) other given asks short within =
      decided_output settings (same_mode words settings other gives given ∙ asks) text written answer out short
      (subst (λ (l : ℕ). IsWithinPeaks l text) (sym (same_limit words settings other gives given)) within)

pub told_decided : (limit : ℕ) (left : Option (List ℕ)) (text : List ℕ) (status : Status) → IfSome left (λ bytes. text ≡ bytes) →
    (length text ≤ most_bytes → IsWithinPeaks limit text → (status ≡ Good) ⊎ (status ≡ Bad)) →
    IfSome left (λ bytes. length bytes ≤ most_bytes → IsWithinPeaks limit bytes → (status ≡ Good) ⊎ (status ≡ Bad))
told_decided limit None text status told decided = tt
told_decided limit (Some bytes) text status told decided =
    subst (λ (b : List ℕ). length b ≤ most_bytes → IsWithinPeaks limit b → (status ≡ Good) ⊎ (status ≡ Bad)) told decided

-- nor is there any text that is too long and isn't
pub too_long_decided : (most : ℕ) (Holds : List ℕ → Type 0) (left : Option (List ℕ)) → IfSome left (λ bytes. most < length bytes) →
    IfSome left (λ bytes. length bytes ≤ most → Holds bytes)
too_long_decided most Holds None more = tt
too_long_decided most Holds (Some bytes) more = λ short. absurd (omega (arith, more, short))
