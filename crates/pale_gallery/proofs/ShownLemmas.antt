-- What is shown of one text.
use Rattle.std.proofs.Common.{ℕ, List, Option, Some, Result, Ok, Err, subst}
use Rattle.std.specs.Prelude.{OnOk}
use Rattle.pale_io.specs.Whole.{WritesAll}
use Rattle.pale_io.proofs.WholeLemmas.{WritesAll-append}
use Rattle.pale_status.specs.declared.status.Status.{Status}
use Rattle.pale_top.specs.Output.{Answers, CallOutput, IsAnswer}
use Rattle.pale_gallery.specs.Shown.{Shows, status_line}

module _ (words : List (List ℕ)) (text : List ℕ) (status : Status) (before between after : Option (List ℕ)) where
  -- an output, and then the line with its status
  Shows-from_answers : Answers (CallOutput words) (Some text) before between status → WritesAll between after (status_line status)
      → Shows words text before after
  Shows-from_answers answers line = record {
    output = answers.wrote.output;
    status = status;
    is_output = subst (λ (read : List ℕ). CallOutput words read answers.wrote.output status) answers.told answers.wrote.allowed;
    written = WritesAll-append before between after answers.wrote.output (status_line status) answers.wrote.written line;
  }

  -- the same where the line was written after a call that says so at an answer
  pub Shows-on_ok : {T E : Type 0} (result : Result T E) → (IsAnswer status → Answers (CallOutput words) (Some text) before between status)
      → OnOk result (IsAnswer status × WritesAll between after (status_line status)) → OnOk result (Shows words text before after)
  Shows-on_ok (Ok _) answers (is, line) = Shows-from_answers (answers is) line
  Shows-on_ok (Err _) answers line = tt
