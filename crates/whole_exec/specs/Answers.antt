-- What the interpreter's answers mean.
use Rattle.std.specs.Prelude.{ℕ}
use Rattle.store_core.specs.Stores.{StoreMap}
use Rattle.whole_run.specs.States as states
use Rattle.whole_trace.specs.Traces.{Stand}
use Rattle.whole_exec.specs.declared.answer.Answer.{Answer}
use Rattle.whole_exec.specs.declared.answer.Answer.TheVariants as answer
use Rattle.whole_turns.specs.declared.ending.RunEnd.{RunEnd}
use Rattle.whole_turns.specs.declared.ending.RunEnd.TheVariants as end

abbrev pub answer_of : Answer → states.Answer
answer_of answer.Running = states.Running
answer_of (answer.Fail why line) = states.Fail why line
answer_of (answer.Exit t) = states.Exit t

-- that of a run that stands at this store and ends so
abbrev pub answer_with : StoreMap → RunEnd → states.Answer
answer_with at end.Running = states.Running
answer_with at (end.Fail why line) = states.Fail why line
answer_with at end.Exit = states.Exit at

-- where a run stands: the procedure of this number, and the store
abbrev pub stand_of : ℕ → StoreMap → Stand
stand_of number at = record { proc = number; store = at }
