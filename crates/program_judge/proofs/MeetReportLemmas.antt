-- What is told of a triple's start, by the tables and the procedure that a call finds for the triple that asks.
use Rattle.std.proofs.Common.{◌≡◌, ◌∙◌, ◌<◌, ◌++◌, ℕ, List, [], Option, Some, option_map, slice_get, ap, ap₂, subst, sym}
use Rattle.store_core.specs.Tables.{TypeEntry, VarEntry}
use Rattle.store_core.specs.Stores.{StoreMap}
use Rattle.store_text.specs.StoreText.{store_text_of}
use Rattle.store_exec.specs.declared.cause.Cause.{Cause}
use Rattle.store_exec.specs.declared.triple.Triple.{Triple}
use Rattle.pale_typed.specs.declared.typed.ProcEntry.{ProcEntry}
use Rattle.pale_typed.specs.declared.typed.TypedProc.{TypedProc}
use Rattle.pale_typed.specs.TypedPrograms.{TypedProgram}
use Rattle.hoare_split.specs.Fitting.{FitsProgram}
use Rattle.triple_judge.specs.Judging.{IsValid, IsLeastFailing, HasTriplePeak}
use Rattle.program_judge.specs.Lines.{limit_line}
use Rattle.program_judge.proofs.StandingLemmas.{vars-same, proc-same}
use Rattle.program_judge.specs.declared.meet_way.MeetWay.TheVariants as way
use Rattle.program_judge.specs.Starts.{asking, IsUnmet, IsLeastMeeting, HasStartPeak}
use Rattle.program_judge.specs.Meets.{met_line, empty_line, ReportsMeet, met, empty, at_limit}
use Rattle.program_judge.proofs.AskingLemmas.{valid-unmet, failing-meeting}

-- the variables of a triple's procedure, and the procedure
abbrev pub vars_of : TypedProgram → Triple → Option (List VarEntry)
vars_of program t = option_map (λ (e : ProcEntry). e.vars) (slice_get program.procs t.proc)

abbrev pub proc_of : TypedProgram → Triple → Option TypedProc
proc_of program t = option_map (λ (e : ProcEntry). e.proc) (slice_get program.procs t.proc)

module _ (limit : ℕ) (program : TypedProgram) (k : ℕ) (t : Triple) (own : FitsProgram program t) (types : List TypeEntry) (same : types ≡ program.types)
    (vars : List VarEntry) (vars-at : Some vars ≡ option_map (λ (e : ProcEntry). e.vars) (slice_get program.procs t.proc))
    (proc : TypedProc) (proc-at : Some proc ≡ option_map (λ (e : ProcEntry). e.proc) (slice_get program.procs t.proc))
    (name : List ℕ) (named : name ≡ proc.name) where
  variables : vars ≡ own.entry.vars
  variables = sym (vars-same program t own vars vars-at)

  name-is : name ≡ own.entry.proc.name
  name-is = named ∙ ap (λ (p : TypedProc). p.name) (sym (proc-same program t own proc proc-at))

  pub report-empty : (text lines : List ℕ) → text ≡ [] → lines ≡ text ++ empty_line k name t.line → IsValid types vars (asking t) →
      ReportsMeet limit program k t lines way.Empty
  report-empty text lines none written is =
      let here = subst (λ (ts : List TypeEntry). IsUnmet ts vars t) same (valid-unmet types vars t is) in
      let own-is = subst (λ (vs : List VarEntry). IsUnmet program.types vs t) variables here in
      let all : lines ≡ empty_line k own.entry.proc.name t.line =
      written ∙ ap₂ (λ (xs n : List ℕ). xs ++ empty_line k n t.line) none name-is in
      subst (λ (l : List ℕ). ReportsMeet limit program k t l way.Empty) (sym all) (empty own.entry own.there own-is)

  pub report-met : (text head told lines : List ℕ) (s : StoreMap) (why : Cause) (at : ℕ) → text ≡ [] →
      head ≡ text ++ met_line k name t.line → told ≡ store_text_of types vars s → lines ≡ head ++ told →
      IsLeastFailing types vars (asking t) s why at → ReportsMeet limit program k t lines way.Met
  report-met text head told lines s why at none written spelled joined is =
      let here = subst (λ (ts : List TypeEntry). IsLeastMeeting ts vars t s) same (failing-meeting types vars t s why at is) in
      let own-is = subst (λ (vs : List VarEntry). IsLeastMeeting program.types vs t s) variables here in
      let line : head ≡ met_line k own.entry.proc.name t.line =
      written ∙ ap₂ (λ (xs n : List ℕ). xs ++ met_line k n t.line) none name-is in
      let store : told ≡ store_text_of program.types own.entry.vars s =
      spelled ∙ ap₂ (λ (ts : List TypeEntry) (vs : List VarEntry). store_text_of ts vs s) same variables in
      subst (λ (l : List ℕ). ReportsMeet limit program k t l way.Met)
      (sym (joined ∙ ap₂ (λ (xs ys : List ℕ). xs ++ ys) line store)) (met own.entry s own.there own-is)

  pub report-limit : (text lines : List ℕ) → text ≡ [] → lines ≡ text ++ limit_line k name t.line →
      ((p : ℕ) → HasTriplePeak types vars (asking t) p → limit < p) → ReportsMeet limit program k t lines way.Limit
  report-limit text lines none written over =
      let here = subst (λ (ts : List TypeEntry). (p : ℕ) → HasStartPeak ts vars t p → limit < p) same over in
      let own-is = subst (λ (vs : List VarEntry). (p : ℕ) → HasStartPeak program.types vs t p → limit < p) variables here in
      let all : lines ≡ limit_line k own.entry.proc.name t.line =
      written ∙ ap₂ (λ (xs n : List ℕ). xs ++ limit_line k n t.line) none name-is in
      subst (λ (l : List ℕ). ReportsMeet limit program k t l way.Limit) (sym all) (at_limit own.entry own.there own-is)
