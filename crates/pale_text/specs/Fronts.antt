-- What the lexer's steps say of the front of a text. Nothing outside of the crate cites this page.
use Rattle.std.specs.Prelude.{◌<◌, ◌≤◌, ℕ, IsTrue, List, [], ◌∷◌, length, take, drop}
use Rattle.pale_text.specs.declared.front.Front.{Front}
use Rattle.pale_text.specs.declared.front.Front.TheVariants as front
use Rattle.pale_text.specs.declared.token.TokenKind.{TokenKind}
use Rattle.pale_text.specs.Lexing.{is_gap, IsComment, EndsComment, IsLongestPiece, IsStray}

-- the text begins with that many bytes, at least one, that are a longest piece of this kind
pub record HasPiece (text : List ℕ) (kind : TokenKind) (count : ℕ) : Type 0 where
  pub some : 0 < count
  pub within : count ≤ length text
  pub longest : IsLongestPiece kind (take count text) (drop count text)

-- what stands at the front of a text that is not over: a gap byte, a comment of that many bytes, a token, or none of these
abbrev pub StandsFirst : List ℕ → Front → Type 0
StandsFirst [] _ = ⊥
StandsFirst (byte ∷ _) front.Gap = IsTrue (is_gap byte)
StandsFirst text (front.Comment count) = (count ≤ length text) × IsComment (take count text) × EndsComment (drop count text)
StandsFirst text (front.Token kind count) = HasPiece text kind count
StandsFirst (byte ∷ after) front.Stray = IsStray byte after
