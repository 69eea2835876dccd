-- The line that is written of a replay. It ends with LF.
use Rattle.std.specs.Prelude.{ℕ, List, ◌++◌, codes}
use Rattle.std.specs.Fmt.{decimal}
use Rattle.store_core.specs.Tables.{TypeEntry, VarEntry}
use Rattle.pale_starts.specs.Lines.{store_refused_line, not_well_formed_line, start_false_line, fail_line}
use Rattle.pale_replay.specs.declared.answer.Answer.{Answer}
use Rattle.pale_replay.specs.declared.answer.Answer.TheVariants as answer

-- `end line M`
abbrev pub end_line : ℕ → List ℕ
end_line line = codes "end line " ++ decimal line ++ codes "\n"

-- `store refused N KIND`, `not-well-formed FAULT`, `start condition false`, `fail CAUSE line M` or `end line M`
abbrev pub line_of : List TypeEntry → List VarEntry → Answer → List ℕ
line_of types vars (answer.StoreRefused line kind) = store_refused_line line kind
line_of types vars (answer.NotWellFormed wrong) = not_well_formed_line types vars wrong
line_of types vars answer.StartFalse = start_false_line
line_of types vars (answer.Fails why line) = fail_line why line
line_of types vars (answer.Ends line) = end_line line
