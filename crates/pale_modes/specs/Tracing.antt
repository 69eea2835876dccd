-- What `trace` writes for a text and how it ends.
use Rattle.std.specs.Prelude.{◌<◌, ◌≤◌, ℕ, List, length}
use Rattle.pale_text.specs.declared.refusal.Refusal.{Refusal}
use Rattle.pale_text.specs.declared.refusal.TextStop.TheVariants as stop
use Rattle.pale_starts.specs.Stops.{IsPartStop}
use Rattle.pale_trace.specs.declared.ending.Ending.{Ending}
use Rattle.pale_trace.specs.declared.ending.Ending.TheVariants as ending
use Rattle.pale_trace.specs.Tracing.{IsTraceOf}
use Rattle.pale_status.specs.declared.status.Status.{Status}
use Rattle.pale_status.specs.declared.status.Status.TheVariants.{Good, Bad, Text}
use Rattle.pale_status.specs.Report.{refused_line, too_long_line}
use Rattle.pale_status.specs.Texts.{most_bytes}

-- the status by how it ends, which is that of `replay` and of `run`
abbrev pub status_of : Ending → Status
status_of (ending.StoreRefused line kind) = Text
status_of (ending.NotWellFormed wrong) = Text
status_of ending.StartFalse = Text
status_of (ending.Fails why line) = Bad
status_of (ending.Ends line) = Good
status_of ending.Running = Good
status_of ending.Exits = Good

-- what is written for a text, and the status: the text has too many bytes, its program is refused, or this is said of its store
pub data Traces (text : List ℕ) : List ℕ → Status → Type 0 where
  too_long : most_bytes < length text → Traces text too_long_line Text
  refused : (refusal : Refusal) → length text ≤ most_bytes → IsPartStop text (stop.Refused refusal) → Traces text (refused_line refusal) Text
  trace : (how : Ending) (written : List ℕ) → length text ≤ most_bytes → IsTraceOf text how written → Traces text written (status_of how)
