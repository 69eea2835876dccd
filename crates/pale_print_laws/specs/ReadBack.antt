-- What it means that the spelling of a program is read back.
use Rattle.std.specs.Prelude.{ℕ, List}
use Rattle.ll1_reader.specs.Answers.{levels, AreLow}
use Rattle.ll1_reader.specs.Readings.{Step}
use Rattle.pale_syntax.specs.declared.grammar.act.Act.{Act}
use Rattle.pale_text.specs.declared.token.TokenList.{TokenList}
use Rattle.pale_syntax.specs.declared.tree.declaration.Program.{Program}
use Rattle.pale_text.specs.Lexing.{IsLexed}
use Rattle.pale_syntax.specs.ProgramReading.{IsProgram}
use Rattle.pale_print.specs.Placeless.{IsSameButForPlaces}
use Rattle.pale_print.specs.Spelling.{spelling}

-- the canonical spelling of the tree has tokens, which are a program that is the same but for places, and whose reading
-- opens no level above the limit
pub record IsReadBack (limit : ℕ) (tree : Program) : Type 0 where
  pub list : TokenList
  pub lexed : IsLexed (spelling tree) list
  pub steps : List (Step Act)
  pub other : Program
  pub program : IsProgram list.tokens steps other
  pub low : AreLow limit (levels steps)
  pub same : IsSameButForPlaces tree other
