-- What `format` writes for a text and how it ends: it looks at tokens and grammar alone.
use Rattle.std.specs.Prelude.{◌<◌, ◌≤◌, ℕ, List, length}
use Rattle.pale_text.specs.declared.refusal.Refusal.{Refusal}
use Rattle.pale_text.specs.declared.refusal.TextStop.TheVariants.{Refused}
use Rattle.pale_text.specs.declared.token.TokenList.{TokenList}
use Rattle.pale_syntax.specs.declared.tree.declaration.Program.{Program}
use Rattle.pale_text.specs.Lexing.{IsLexed, IsLexStop}
use Rattle.pale_syntax.specs.ProgramReading.{IsParsedAs, IsParseStop}
use Rattle.pale_print.specs.Spelling.{spelling}
use Rattle.pale_status.specs.declared.status.Status.{Status}
use Rattle.pale_status.specs.declared.status.Status.TheVariants.{Good, Text}
use Rattle.pale_status.specs.Report.{refused_line, too_long_line}
use Rattle.pale_status.specs.Texts.{most_bytes}

-- what is written for a text, and the status: the text has too many bytes, has a stray byte, has tokens that are no program
-- or open too many levels, or is a program
pub data Formats (text : List ℕ) : List ℕ → Status → Type 0 where
  too_long : most_bytes < length text → Formats text too_long_line Text
  stray : (refusal : Refusal) → length text ≤ most_bytes → IsLexStop text (Refused refusal) → Formats text (refused_line refusal) Text
  unparsed : (list : TokenList) (refusal : Refusal) → length text ≤ most_bytes → IsLexed text list → IsParseStop list (Refused refusal)
      → Formats text (refused_line refusal) Text
  program : (list : TokenList) (tree : Program) → length text ≤ most_bytes → IsLexed text list → IsParsedAs list.tokens tree
      → Formats text (spelling tree) Good
