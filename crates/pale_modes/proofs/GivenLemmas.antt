-- The statuses of what a mode writes.
use Rattle.std.specs.Prelude.{ℕ, List}
use Rattle.pale_replay.specs.declared.answer.Answer.{Answer}
use Rattle.pale_replay.specs.declared.answer.Answer.TheVariants as answer
use Rattle.ws2s_syntax.specs.Checked as checked
use Rattle.pale_status.specs.declared.status.Status.{Status}
use Rattle.pale_status.specs.declared.status.Status.TheVariants.{Good, Bad, Text, Limit}
use Rattle.pale_modes.specs.Deciding.{Decides, Says}
use Rattle.pale_modes.specs.Deciding as deciding
use Rattle.pale_modes.specs.Formatting.{Formats}
use Rattle.pale_modes.specs.Formatting as formatting
use Rattle.pale_modes.specs.Replaying.{Replays}
use Rattle.pale_modes.specs.Replaying as replaying
use Rattle.whole_exec.specs.declared.answer.Answer as whole
use Rattle.whole_exec.specs.declared.answer.Answer.TheVariants as ran
use Rattle.pale_run.specs.declared.answer.Answer as run
use Rattle.pale_run.specs.declared.answer.Answer.TheVariants as run_answer
use Rattle.pale_modes.specs.Running.{Runs}
use Rattle.pale_modes.specs.Running as running
use Rattle.pale_trace.specs.declared.ending.Ending.{Ending}
use Rattle.pale_trace.specs.declared.ending.Ending.TheVariants as ending
use Rattle.pale_modes.specs.Tracing.{Traces}
use Rattle.pale_modes.specs.Tracing as tracing

-- an output has one of these
abbrev pub IsGiven : Status → Type 0
IsGiven Good = Unit {0}
IsGiven Bad = Unit {0}
IsGiven Text = Unit {0}
IsGiven Limit = Unit {0}
IsGiven status = ⊥

answer_given : (a : Answer) → IsGiven (replaying.status_of a)
answer_given (answer.StoreRefused line kind) = tt
answer_given (answer.NotWellFormed wrong) = tt
answer_given answer.StartFalse = tt
answer_given (answer.Fails why line) = tt
answer_given (answer.Ends line) = tt

pub replayed_given : (text output : List ℕ) (status : Status) → Replays text output status → IsGiven status
replayed_given text output status (replaying.too_long more) = tt
replayed_given text output status (replaying.refused refusal within stop) = tt
replayed_given text output status (replaying.replay a line within is) = answer_given a

ran_given : (a : whole.Answer) → IsGiven (running.status_of_ran a)
ran_given ran.Running = tt
ran_given (ran.Fail why line) = tt
ran_given (ran.Exit s) = tt

run_answer_given : (a : run.Answer) → IsGiven (running.status_of a)
run_answer_given (run_answer.StoreRefused line kind) = tt
run_answer_given (run_answer.NotWellFormed wrong) = tt
run_answer_given run_answer.StartFalse = tt
run_answer_given (run_answer.Ran a) = ran_given a

pub run_given : (text output : List ℕ) (status : Status) → Runs text output status → IsGiven status
run_given text output status (running.too_long more) = tt
run_given text output status (running.refused refusal within stop) = tt
run_given text output status (running.run a written within is) = run_answer_given a

ending_given : (how : Ending) → IsGiven (tracing.status_of how)
ending_given (ending.StoreRefused line kind) = tt
ending_given (ending.NotWellFormed wrong) = tt
ending_given ending.StartFalse = tt
ending_given (ending.Fails why line) = tt
ending_given (ending.Ends line) = tt
ending_given ending.Running = tt
ending_given ending.Exits = tt

pub traced_given : (text output : List ℕ) (status : Status) → Traces text output status → IsGiven status
traced_given text output status (tracing.too_long more) = tt
traced_given text output status (tracing.refused refusal within stop) = tt
traced_given text output status (tracing.trace how written within is) = ending_given how

pub formatted_given : (text output : List ℕ) (status : Status) → Formats text output status → IsGiven status
formatted_given text output status (formatting.too_long more) = tt
formatted_given text output status (formatting.stray refusal within stop) = tt
formatted_given text output status (formatting.unparsed list refusal within lexed stop) = tt
formatted_given text output status (formatting.program list tree within lexed parsed) = tt

said_given : (limit : ℕ) (tree : checked.Text) (output : List ℕ) (status : Status) → Says limit tree output status → IsGiven status
said_given limit tree output status (deciding.big big) = tt
said_given limit tree output status (deciding.unsatisfiable small answer) = tt
said_given limit tree output status (deciding.valid small answer) = tt
said_given limit tree output status (deciding.satisfiable nodes lines small answer example) = tt
said_given limit tree output status (deciding.too_large small answer) = tt
said_given limit tree output status (deciding.above small answer) = tt

pub decided_given : (limit : ℕ) (text output : List ℕ) (status : Status) → Decides limit text output status → IsGiven status
decided_given limit text output status (deciding.too_long more) = tt
decided_given limit text output status (deciding.refused refusal within is) = tt
decided_given limit text output status (deciding.read tree o s within is says) = said_given limit tree o s says
