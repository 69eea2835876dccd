-- Which tokens are a WS2S text, which source tree it has, and where tokens stop being one.
use Rattle.std.specs.Prelude.{List}
use Rattle.ll1_reader.specs.Grammars.{Rules, rules_of}
use Rattle.ll1_reader.specs.Readings.{Step}
use Rattle.pale_text.specs.declared.refusal.TextStop.{TextStop}
use Rattle.pale_text.specs.declared.token.Token.{Token}
use Rattle.pale_text.specs.declared.token.TokenList.{TokenList}
use Rattle.pale_text.specs.Parsing as text
pub use Rattle.pale_text.specs.Parsing.{max_levels, IsShallow}
use Rattle.ws2s_syntax.specs.declared.source.Source.{Source}
use Rattle.ws2s_parse.specs.declared.grammar.act.SourceAct.{SourceAct}
use Rattle.ws2s_parse.specs.declared.grammar.kind.SourceKind.{SourceKind}
use Rattle.ws2s_parse.specs.declared.grammar.part.SourcePart.{SourcePart}
use Rattle.ws2s_parse.specs.SourceGrammar.{SourceSymbol, source_grammar}
use Rattle.ws2s_parse.specs.SourceWords.{kind_of}
use Rattle.ws2s_parse.specs.Making.{source_of}

abbrev pub source_rows : Rules SourcePart (List SourceSymbol) SourceAct SourceKind
source_rows = rules_of source_grammar

-- the tokens are a text: these are the steps of the reading that counts, and this is the tree that is made by them
abbrev pub IsSource : List Token → List (Step SourceAct) → Source → Type 0
IsSource = text.IsSentence source_rows kind_of source_of

-- the tokens are a text with this tree, and no level in it is above the limit
abbrev pub IsParsedAs : List Token → Source → Type 0
IsParsedAs = text.IsParsedAs source_rows kind_of source_of

-- what a stop says of the tokens: `syntax` is refused at the first token with which no text goes on, and `deep` at the
-- first that opens a level above the limit
abbrev pub IsParseStop : TokenList → TextStop → Type 0
IsParseStop = text.IsParseStop source_rows kind_of
