-- Which tokens are a program, which program they are, and where tokens stop being one.
use Rattle.std.specs.Prelude.{List}
use Rattle.ll1_reader.specs.Grammars.{Rules, rules_of}
use Rattle.ll1_reader.specs.Readings.{Step}
use Rattle.pale_syntax.specs.declared.grammar.act.Act.{Act}
use Rattle.pale_syntax.specs.declared.grammar.kind.ProgramKind.{ProgramKind}
use Rattle.pale_syntax.specs.declared.grammar.part.ProgramPart.{ProgramPart}
use Rattle.pale_text.specs.declared.refusal.TextStop.{TextStop}
use Rattle.pale_text.specs.declared.token.Token.{Token}
use Rattle.pale_text.specs.declared.token.TokenList.{TokenList}
use Rattle.pale_text.specs.Parsing as text
pub use Rattle.pale_text.specs.Parsing.{max_levels, IsShallow}
use Rattle.pale_syntax.specs.declared.tree.declaration.Program.{Program}
use Rattle.pale_syntax.specs.ProgramGrammar.{ProgramSymbol, program_grammar}
use Rattle.pale_syntax.specs.ProgramWords.{kind_of}
use Rattle.pale_syntax.specs.Making.{program_of}

abbrev pub program_rows : Rules ProgramPart (List ProgramSymbol) Act ProgramKind
program_rows = rules_of program_grammar

-- the tokens are a program: these are the steps of the reading that counts, and this is the tree that is made by them
abbrev pub IsProgram : List Token → List (Step Act) → Program → Type 0
IsProgram = text.IsSentence program_rows kind_of program_of

-- the tokens are this program, and no level in it is above the limit
abbrev pub IsParsedAs : List Token → Program → Type 0
IsParsedAs = text.IsParsedAs program_rows kind_of program_of

-- what a stop says of tokens that are no program, or that open too many levels
abbrev pub IsParseStop : TokenList → TextStop → Type 0
IsParseStop = text.IsParseStop program_rows kind_of
