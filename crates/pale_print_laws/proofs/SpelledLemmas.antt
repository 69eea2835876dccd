-- The spelling of tokens that have one keeps them apart.
use Rattle.std.proofs.Common.{◌≡◌, true, List, [], ◌∷◌, refl}
use Rattle.pale_text.specs.declared.token.Mark.TheVariants as mark
use Rattle.pale_text.specs.declared.token.TokenKind.{TokenKind}
use Rattle.pale_text.specs.declared.token.TokenKind.TheVariants as token
use Rattle.pale_text.specs.Lexing.{is_gap}
use Rattle.pale_text.specs.Spelled.{IsSpelled, nothing, more}
use Rattle.pale_print.specs.Spelling.{bytes, gap, spelled}
use Rattle.pale_print_laws.proofs.Framework.{AreSpelled}

gap_is : (one : TokenKind) → is_gap (gap one) ≡ true
gap_is (token.Mark mark.Semicolon) = refl
gap_is (token.Mark mark.LeftBrace) = refl
gap_is (token.Mark mark.RightBrace) = refl
gap_is _ = refl

pub spelled_apart : (tokens : List TokenKind) → AreSpelled tokens → IsSpelled tokens (spelled tokens)
unfolding spelled
spelled_apart [] are = nothing
spelled_apart (one ∷ tokens) are = more one (bytes one) (gap one) tokens (spelled tokens) are.0 (gap_is one) (spelled_apart tokens are.1)
