-- Which bytes are which WS2S text, and why bytes are refused: tokens come first, then the grammar, then names.
use Rattle.std.specs.Prelude.{◌≡◌, ℕ, List, Ok, Err}
use Rattle.pale_text.specs.declared.refusal.Refusal.{Refusal}
use Rattle.pale_text.specs.declared.refusal.TextStop.{TextStop}
use Rattle.pale_text.specs.declared.refusal.TextStop.TheVariants as stop
use Rattle.pale_text.specs.declared.token.TokenList.{TokenList}
use Rattle.pale_text.specs.Lexing.{IsLexed, IsLexStop}
use Rattle.ws2s_syntax.specs.declared.source.Source.{Source}
use Rattle.ws2s_syntax.specs.Checked.{Text}
use Rattle.ws2s_parse.specs.SourceReading.{IsParsedAs, IsParseStop}
use Rattle.ws2s_read.specs.Resolving.{resolved}

-- the bytes have tokens, which have a source tree, whose names are those of this text
pub record IsReadAs (bytes : List ℕ) (text : Text) : Type 0 where
  pub list : TokenList
  pub lexed : IsLexed bytes list
  pub source : Source
  pub parsed : IsParsedAs list.tokens source
  pub found : resolved source ≡ Ok text

-- the bytes have tokens, but the grammar refuses them
pub record IsUnparsed (bytes : List ℕ) (refusal : Refusal) : Type 0 where
  pub list : TokenList
  pub lexed : IsLexed bytes list
  pub why : IsParseStop list (stop.Refused refusal)

-- the bytes have tokens, which have a source tree, in which this is the first fault
pub record IsMisnamed (bytes : List ℕ) (refusal : Refusal) : Type 0 where
  pub list : TokenList
  pub lexed : IsLexed bytes list
  pub source : Source
  pub parsed : IsParsedAs list.tokens source
  pub fault : resolved source ≡ Err refusal

-- why bytes are refused: by a stray byte, by the grammar, or by a name or a term
pub data IsRefusedAs (bytes : List ℕ) (refusal : Refusal) : Type 0 where
  stray : IsLexStop bytes (stop.Refused refusal) → IsRefusedAs bytes refusal
  unparsed : IsUnparsed bytes refusal → IsRefusedAs bytes refusal
  misnamed : IsMisnamed bytes refusal → IsRefusedAs bytes refusal

-- what a stop says of the bytes: want of memory says nothing
abbrev pub IsReadStop : List ℕ → TextStop → Type 0
IsReadStop bytes (stop.Refused refusal) = IsRefusedAs bytes refusal
IsReadStop bytes stop.NoMemory = Unit {0}
