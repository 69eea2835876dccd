-- The canonical spelling of programs: the tokens of the tree, each followed by one gap.
use Rattle.std.specs.Prelude.{ℕ, List, [], ◌∷◌, ◌++◌}
use Rattle.pale_text.specs.declared.token.Mark.TheVariants as mark
use Rattle.pale_text.specs.declared.token.TokenKind.{TokenKind}
use Rattle.pale_text.specs.declared.token.TokenKind.TheVariants as kind
use Rattle.pale_syntax.specs.declared.tree.declaration.Program.{Program}
use Rattle.pale_text.specs.Spelling.{bytes_of}
use Rattle.pale_print.specs.DeclarationTokens.{program_tokens}

abbrev pub bytes : TokenKind → List ℕ
bytes (kind.Name name) = name
bytes (kind.Number digits) = digits
bytes (kind.Mark mark) = bytes_of mark

-- LF (10) after `;`, `{` and `}`, a space (32) after every other token
abbrev pub gap : TokenKind → ℕ
gap (kind.Mark mark.Semicolon) = 10
gap (kind.Mark mark.LeftBrace) = 10
gap (kind.Mark mark.RightBrace) = 10
gap _ = 32

-- the tokens, each followed by its gap
unfoldable pub spelled : List TokenKind → List ℕ
spelled [] = []
spelled (token ∷ tokens) = bytes token ++ gap token ∷ spelled tokens

unfoldable pub spelling : Program → List ℕ
spelling p = spelled (program_tokens p)
