-- What a builder of trees takes from a token, or from the want of one.
use Rattle.std.specs.Prelude.{ℕ, List, [], ◌∷◌, Option, None, Some}
use Rattle.pale_text.specs.declared.place.Pos.{Pos}
use Rattle.pale_text.specs.declared.token.Token.{Token}
use Rattle.pale_text.specs.declared.token.TokenKind.{TokenKind}
use Rattle.pale_text.specs.declared.token.TokenKind.TheVariants as kind
use Rattle.pale_text.specs.Places.{nowhere}

-- the token that comes first, where there is one
abbrev pub first_of : List Token → Option Token
first_of [] = None
first_of (first ∷ _) = Some first

-- where the token stands
abbrev pub place_of : Option Token → Pos
place_of None = nowhere
place_of (Some token) = token.span.start

-- the bytes of a name, and none of another token
abbrev pub name_bytes : TokenKind → List ℕ
name_bytes (kind.Name bytes) = bytes
name_bytes (kind.Number _) = []
name_bytes (kind.Mark _) = []

-- the bytes of a name, and none of another token, or where there is none
abbrev pub name_bytes_of : Option Token → List ℕ
name_bytes_of None = []
name_bytes_of (Some token) = name_bytes token.kind
