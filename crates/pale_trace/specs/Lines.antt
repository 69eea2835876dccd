-- The text that is written of a trace: a line for each thing that was shown, in order, then how it ended, and then where it stands.
use Rattle.std.specs.Prelude.{ℕ, List, ◌++◌, codes, Result, Ok, Err}
use Rattle.store_core.specs.Stores.{StoreMap}
use Rattle.store_exec.specs.declared.fault.Fault.{Fault}
use Rattle.store_exec.specs.declared.triple.Triple.{Triple}
use Rattle.store_trace.specs.declared.event.Event.{Event}
use Rattle.pale_typed.specs.TypedPrograms.{TypedProgram}
use Rattle.whole_run.specs.States.{Answer, Running, Fail, Exit}
use Rattle.whole_trace.specs.Traces.{Stand}
use Rattle.trace_text.specs.TraceLines.{trace_lines, stand_text}
use Rattle.pale_starts.specs.Lines.{fail_line}
use Rattle.pale_replay.specs.Lines as replay
use Rattle.pale_trace.specs.declared.ending.Ending.{Ending}
use Rattle.pale_trace.specs.declared.ending.Ending.TheVariants as ending

-- the lines of what was shown from this procedure on, the last line, and then `at` and the store where it stands
abbrev pub traced_text : TypedProgram → ℕ → List Event → List ℕ → Stand → List ℕ
traced_text program first shown last stand = trace_lines program first shown ++ last ++ stand_text program stand.proc stand.store

-- ---- triples

-- `end line M` or `fail CAUSE line M`
abbrev pub end_line : Result ℕ Fault → List ℕ
end_line (Ok line) = replay.end_line line
end_line (Err fault) = fail_line fault.cause fault.line

abbrev pub triple_ending : Result ℕ Fault → Ending
triple_ending (Ok line) = ending.Ends line
triple_ending (Err fault) = ending.Fails fault.cause fault.line

abbrev pub triple_text : TypedProgram → Triple → List Event → StoreMap → Result ℕ Fault → List ℕ
triple_text program t shown at end = traced_text program t.proc shown (end_line end) (record { proc = t.proc; store = at })

-- ---- whole runs of the procedure of this number

-- `running`, `fail CAUSE line M` or `exit`
abbrev pub answer_line : Answer → List ℕ
answer_line Running = codes "running\n"
answer_line (Fail why line) = fail_line why line
answer_line (Exit t) = codes "exit\n"

abbrev pub run_ending : Answer → Ending
run_ending Running = ending.Running
run_ending (Fail why line) = ending.Fails why line
run_ending (Exit t) = ending.Exits

abbrev pub run_text : TypedProgram → ℕ → List Event → Stand → Answer → List ℕ
run_text program number shown stand answer = traced_text program number shown (answer_line answer) stand
