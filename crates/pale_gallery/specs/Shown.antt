-- What the gallery writes for one text of a bundle.
use Rattle.std.specs.Prelude.{ℕ, List, ◌++◌, codes, Option}
use Rattle.std.specs.Fmt.{decimal}
use Rattle.pale_io.specs.Whole.{WritesAll}
use Rattle.pale_status.specs.declared.status.Status.{Status}
use Rattle.pale_top.specs.Output.{CallOutput}
use Rattle.pale_status.specs.Statuses.{number_of}

-- a head as it stands in the bundle
abbrev pub head_line : List ℕ → List ℕ
head_line head = codes "=== " ++ head ++ codes "\n"

-- a line with the status
abbrev pub status_line : Status → List ℕ
status_line status = codes "status " ++ decimal (number_of status) ++ codes "\n"

-- what `pale` writes for these words and this text was written, and behind it a line with the status
pub record Shows (words : List (List ℕ)) (text : List ℕ) (before after : Option (List ℕ)) : Type 0 where
  pub output : List ℕ
  pub status : Status
  pub is_output : CallOutput words text output status
  pub written : WritesAll before after (output ++ status_line status)
