-- A trace ends as the execution does.
use Rattle.std.proofs.Common.{◌≡◌, ◌++◌, ℕ, List, [], Ok, Err, Result, Some, None, slice_get, refl, sym, append-nil}
use Rattle.store_core.specs.Tables.{TypeEntry, VarEntry}
use Rattle.store_core.specs.Stores.{StoreMap}
use Rattle.store_exec.specs.declared.fault.Fault.{Fault}
use Rattle.store_exec.specs.declared.outcome.Outcome.TheVariants as outcome
use Rattle.store_exec.specs.declared.triple.Cut.{Cut}
use Rattle.store_exec.specs.declared.triple.Triple.{Triple}
use Rattle.store_exec.specs.Cuts.{AtCut}
use Rattle.store_exec.specs.Runs.{RunsCode}
use Rattle.store_exec.specs.Failing.{StartHolds, Fails, Meets}
use Rattle.store_trace.specs.declared.event.Event.{Event}
use Rattle.store_trace.specs.Tracing.{TracesTriple}
use Rattle.pale_typed.specs.declared.typed.ProcEntry.{ProcEntry}
use Rattle.pale_typed.specs.TypedPrograms.{TypedProgram}
use Rattle.whole_run.specs.States.{Answer, Running, Fail, Exit}
use Rattle.whole_run.specs.Runs.{WholeRun}
use Rattle.whole_run.specs.Safety.{MeetsEntry}
use Rattle.whole_trace.specs.Traces.{Stand, TracedRun}
use Rattle.whole_exec.specs.declared.answer.Answer.TheVariants as ran
use Rattle.trace_text.specs.TraceLines.{trace_lines, stand_text}
use Rattle.pale_replay.specs.declared.answer.Answer as replay
use Rattle.pale_replay.specs.declared.answer.Answer.TheVariants as replayed
use Rattle.pale_replay.specs.Lines.{line_of}
use Rattle.pale_replay.specs.Replays.{Replays}
use Rattle.pale_replay.specs.Replays as replays
use Rattle.pale_run.specs.declared.answer.Answer as run
use Rattle.pale_run.specs.declared.answer.Answer.TheVariants as answer
use Rattle.pale_run.specs.Runs.{RunsFrom}
use Rattle.pale_run.specs.Runs as runs
use Rattle.pale_trace.specs.declared.ending.Ending.{Ending}
use Rattle.pale_trace.specs.Endings.{ends_as_replay, ends_as_run, run_line, Has}
use Rattle.pale_trace.specs.Lines.{triple_ending, triple_text, answer_line, run_ending, run_text}
use Rattle.pale_trace.specs.Traces.{IsUnmet, not_well_formed, start_false, TripleSays, RunSays}
use Rattle.pale_trace.specs.Traces as traces

alone : (line : List ℕ) → Has line line
alone line = ([], [], sym (append-nil line))

-- ---- triples

module _ (program : TypedProgram) (t : Triple) (e : ProcEntry) (s : StoreMap) where
  -- such an answer of `replay`
  abbrev pub Replayed : Ending → List ℕ → Type 0
  Replayed how written = (a : replay.Answer) × Replays program.types e.vars t s a × (how ≡ ends_as_replay a)
      × Has (line_of program.types e.vars a) written

  unexecuted : (how : Ending) (written : List ℕ) → IsUnmet program.types e.vars s (StartHolds program.types e.vars t.start s) how written →
      Replayed how written
  unexecuted _ _ (not_well_formed wrong first) =
      (replayed.NotWellFormed wrong, replays.not_well_formed wrong first, refl, alone (line_of program.types e.vars (replayed.NotWellFormed wrong)))
  unexecuted _ _ (start_false well other) =
      (replayed.StartFalse, replays.start_false well other, refl, alone (line_of program.types e.vars replayed.StartFalse))

  module _ (fails : (types : List TypeEntry) (vars : List VarEntry) (triple : Triple) (s at : StoreMap) (shown : List Event) (fault : Fault) →
      TracesTriple types vars triple s shown at (Err fault) → Fails types vars triple s fault.cause fault.line)
      (ends : (types : List TypeEntry) (vars : List VarEntry) (triple : Triple) (s at : StoreMap) (shown : List Event) (line : ℕ) →
      TracesTriple types vars triple s shown at (Ok line) → (place : ℕ) × (cut : Cut) × RunsCode types triple.code s (outcome.End place at)
      × (slice_get triple.cuts place ≡ Some cut) × AtCut types vars cut at None × (cut.line ≡ line)) where
    executed : (shown : List Event) (at : StoreMap) (end : Result ℕ Fault) → Meets program.types e.vars t s →
        TracesTriple program.types e.vars t s shown at end → Replayed (triple_ending end) (triple_text program t shown at end)
    executed shown at (Ok line) meets traces =
        let (place, cut, runs, there, sound, at_line) = ends program.types e.vars t s at shown line traces in (
          replayed.Ends line,
          replays.ends line meets (record {
            place = place;
            cut = cut;
            store = at;
            ends = runs;
            there = there;
            sound = sound;
            at_line = at_line;
          }),
          refl,
          (trace_lines program t.proc shown, stand_text program t.proc at, refl),
        )
    executed shown at (Err fault) meets traces = (
      replayed.Fails fault.cause fault.line,
      replays.fails fault.cause fault.line meets (fails program.types e.vars t s at shown fault traces),
      refl,
      (trace_lines program t.proc shown, stand_text program t.proc at, refl),
    )

    pub ends_replayed : (how : Ending) (written : List ℕ) → TripleSays program t e s how written → Replayed how written
    ends_replayed _ _ (traces.unmet how written is) = unexecuted how written is
    ends_replayed _ _ (traces.traced shown at end meets traces) = executed shown at end meets traces

-- ---- whole runs

module _ (program : TypedProgram) (number steps : ℕ) (e : ProcEntry) (s : StoreMap) where
  -- such an answer of `run`
  abbrev pub Ran : Ending → List ℕ → Type 0
  Ran how written = (a : run.Answer) × RunsFrom program number steps e s a × (how ≡ ends_as_run a) × Has (run_line program.types e.vars a) written

  unrun : (how : Ending) (written : List ℕ) → IsUnmet program.types e.vars s (MeetsEntry program number s) how written → Ran how written
  unrun _ _ (not_well_formed wrong first) =
      (answer.NotWellFormed wrong, runs.not_well_formed wrong first, refl, alone (run_line program.types e.vars (answer.NotWellFormed wrong)))
  unrun _ _ (start_false well other) =
      (answer.StartFalse, runs.start_false well other, refl, alone (run_line program.types e.vars answer.StartFalse))

  module _ (shown : List Event) (stand : Stand) (meets : MeetsEntry program number s) where
    has : (line : List ℕ) → Has line (trace_lines program number shown ++ line ++ stand_text program stand.proc stand.store)
    has line = (trace_lines program number shown, stand_text program stand.proc stand.store, refl)

    ended : (a : Answer) → WholeRun program number s steps a → Ran (run_ending a) (run_text program number shown stand a)
    ended Running is = (answer.Ran ran.Running, runs.ran ran.Running meets is, refl, has (answer_line Running))
    ended (Fail why line) is = (answer.Ran (ran.Fail why line), runs.ran (ran.Fail why line) meets is, refl, has (answer_line (Fail why line)))
    ended (Exit u) is = (answer.Ran (ran.Exit u), runs.ran (ran.Exit u) meets is, refl, has (answer_line (Exit u)))

  pub ends_ran : ((program : TypedProgram) (number : ℕ) (s : StoreMap) (n : ℕ) (shown : List Event) (stand : Stand) (answer : Answer) →
      TracedRun program number s n shown stand answer → WholeRun program number s n answer) → (how : Ending) (written : List ℕ) →
      RunSays program number steps e s how written → Ran how written
  ends_ran answers _ _ (traces.unmet how written is) = unrun how written is
  ends_ran answers _ _ (traces.traced shown stand a meets traced) = ended shown stand meets a (answers program number s steps shown stand a traced)
