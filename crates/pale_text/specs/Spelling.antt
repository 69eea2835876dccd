-- What spells a token.
use Rattle.std.specs.Prelude.{◌≡◌, ℕ, ◌==◌, ◌||◌, Bool, IsTrue, List, [], ◌∷◌, codes}
use Rattle.std.specs.List.{list_all}
use Rattle.std.specs.Char.{is_ascii_alphabetic, is_ascii_alphanumeric, is_ascii_digit}
use Rattle.pale_text.specs.declared.token.Mark.{Mark}
use Rattle.pale_text.specs.declared.token.Mark.TheVariants as mark
use Rattle.pale_text.specs.declared.token.TokenKind.{TokenKind}
use Rattle.pale_text.specs.declared.token.TokenKind.TheVariants as kind

-- the one spelling of a mark
abbrev pub bytes_of : Mark → List ℕ
bytes_of mark.Equivalent = codes "<=>"
bytes_of mark.SameAs = codes "=="
bytes_of mark.Implies = codes "=>"
bytes_of mark.NotSame = codes "!="
bytes_of mark.NotEqual = codes "~="
bytes_of mark.AndAlso = codes "&&"
bytes_of mark.OrElse = codes "||"
bytes_of mark.Equals = codes "="
bytes_of mark.Bang = codes "!"
bytes_of mark.Tilde = codes "~"
bytes_of mark.Ampersand = codes "&"
bytes_of mark.Bar = codes "|"
bytes_of mark.Less = codes "<"
bytes_of mark.Greater = codes ">"
bytes_of mark.LeftParen = codes "("
bytes_of mark.RightParen = codes ")"
bytes_of mark.LeftBracket = codes "["
bytes_of mark.RightBracket = codes "]"
bytes_of mark.LeftBrace = codes "{"
bytes_of mark.RightBrace = codes "}"
bytes_of mark.Colon = codes ":"
bytes_of mark.Semicolon = codes ";"
bytes_of mark.Comma = codes ","
bytes_of mark.Dot = codes "."
bytes_of mark.Star = codes "*"
bytes_of mark.Plus = codes "+"
bytes_of mark.Caret = codes "^"
bytes_of mark.Dollar = codes "$"
bytes_of mark.At = codes "@"
bytes_of mark.Question = codes "?"

-- a letter, a digit or `_`, which may stand in a name after its first byte
abbrev pub is_name_part : ℕ → Bool
is_name_part byte = is_ascii_alphanumeric byte || byte == 95

-- a name is a letter followed by letters, digits and `_`
abbrev pub IsName : List ℕ → Type 0
IsName [] = ⊥
IsName (first ∷ others) = IsTrue (is_ascii_alphabetic first) × IsTrue (list_all is_name_part others)

-- a number is a run of digits, at least one
abbrev pub IsNumber : List ℕ → Type 0
IsNumber [] = ⊥
IsNumber (first ∷ others) = IsTrue (is_ascii_digit first) × IsTrue (list_all is_ascii_digit others)

-- these bytes spell a token of this kind
abbrev pub Spells : TokenKind → List ℕ → Type 0
Spells (kind.Name name) bytes = (name ≡ bytes) × IsName bytes
Spells (kind.Number digits) bytes = (digits ≡ bytes) × IsNumber bytes
Spells (kind.Mark mark) bytes = bytes_of mark ≡ bytes
