-- How a trace ends, by what `replay` and `run` answer.
use Rattle.std.specs.Prelude.{◌≡◌, List, ℕ, ◌++◌, codes}
use Rattle.store_core.specs.Tables.{TypeEntry, VarEntry}
use Rattle.whole_exec.specs.declared.answer.Answer as whole
use Rattle.whole_exec.specs.declared.answer.Answer.TheVariants as ran
use Rattle.pale_starts.specs.Lines.{store_refused_line, not_well_formed_line, start_false_line, fail_line}
use Rattle.pale_replay.specs.declared.answer.Answer as replay
use Rattle.pale_replay.specs.declared.answer.Answer.TheVariants as replayed
use Rattle.pale_run.specs.declared.answer.Answer as run
use Rattle.pale_run.specs.declared.answer.Answer.TheVariants as answer
use Rattle.pale_trace.specs.declared.ending.Ending.{Ending}
use Rattle.pale_trace.specs.declared.ending.Ending.TheVariants as ending

abbrev pub ends_as_replay : replay.Answer → Ending
ends_as_replay (replayed.StoreRefused line kind) = ending.StoreRefused line kind
ends_as_replay (replayed.NotWellFormed wrong) = ending.NotWellFormed wrong
ends_as_replay replayed.StartFalse = ending.StartFalse
ends_as_replay (replayed.Fails why line) = ending.Fails why line
ends_as_replay (replayed.Ends line) = ending.Ends line

abbrev pub ends_as_ran : whole.Answer → Ending
ends_as_ran ran.Running = ending.Running
ends_as_ran (ran.Fail why line) = ending.Fails why line
ends_as_ran (ran.Exit s) = ending.Exits

abbrev pub ends_as_run : run.Answer → Ending
ends_as_run (answer.StoreRefused line kind) = ending.StoreRefused line kind
ends_as_run (answer.NotWellFormed wrong) = ending.NotWellFormed wrong
ends_as_run answer.StartFalse = ending.StartFalse
ends_as_run (answer.Ran a) = ends_as_ran a

-- the line of a run's answer, without the store of an exit
abbrev pub ran_line : whole.Answer → List ℕ
ran_line ran.Running = codes "running\n"
ran_line (ran.Fail why line) = fail_line why line
ran_line (ran.Exit s) = codes "exit\n"

abbrev pub run_line : List TypeEntry → List VarEntry → run.Answer → List ℕ
run_line types vars (answer.StoreRefused line kind) = store_refused_line line kind
run_line types vars (answer.NotWellFormed wrong) = not_well_formed_line types vars wrong
run_line types vars answer.StartFalse = start_false_line
run_line types vars (answer.Ran a) = ran_line a

-- the line stands in a text
abbrev pub Has : List ℕ → List ℕ → Type 0
Has line written = (before : List ℕ) × (behind : List ℕ) × (written ≡ before ++ line ++ behind)
