-- What `run` writes for a text and how it ends.
use Rattle.std.specs.Prelude.{◌<◌, ◌≤◌, ℕ, List, length}
use Rattle.pale_text.specs.declared.refusal.Refusal.{Refusal}
use Rattle.pale_text.specs.declared.refusal.TextStop.TheVariants as stop
use Rattle.whole_exec.specs.declared.answer.Answer as whole
use Rattle.whole_exec.specs.declared.answer.Answer.TheVariants as ran
use Rattle.pale_starts.specs.Stops.{IsPartStop}
use Rattle.pale_run.specs.declared.answer.Answer.{Answer}
use Rattle.pale_run.specs.declared.answer.Answer.TheVariants as answer
use Rattle.pale_run.specs.Running.{IsRunOf}
use Rattle.pale_status.specs.declared.status.Status.{Status}
use Rattle.pale_status.specs.declared.status.Status.TheVariants.{Good, Bad, Text}
use Rattle.pale_status.specs.Report.{refused_line, too_long_line}
use Rattle.pale_status.specs.Texts.{most_bytes}

-- the status of a run's answer
abbrev pub status_of_ran : whole.Answer → Status
status_of_ran ran.Running = Good
status_of_ran (ran.Fail why line) = Bad
status_of_ran (ran.Exit s) = Good

-- the status of an answer
abbrev pub status_of : Answer → Status
status_of (answer.StoreRefused line kind) = Text
status_of (answer.NotWellFormed wrong) = Text
status_of answer.StartFalse = Text
status_of (answer.Ran a) = status_of_ran a

-- what is written for a text, and the status: the text has too many bytes, its program is refused, or this is said of its store
pub data Runs (text : List ℕ) : List ℕ → Status → Type 0 where
  too_long : most_bytes < length text → Runs text too_long_line Text
  refused : (refusal : Refusal) → length text ≤ most_bytes → IsPartStop text (stop.Refused refusal) → Runs text (refused_line refusal) Text
  run : (a : Answer) (written : List ℕ) → length text ≤ most_bytes → IsRunOf text a written → Runs text written (status_of a)
