-- How a language tells tokens apart.
use Rattle.std.specs.Prelude.{ℕ, List, [], ◌∷◌, map, if◌then◌else◌}
use Rattle.std.specs.Str.{bytes_eq}
use Rattle.pale_text.specs.declared.token.Token.{Token}
use Rattle.pale_text.specs.declared.token.TokenKind.{TokenKind}

-- the kind beside this word, and the other kind where the word is not among these
abbrev pub kind_among : {K : Type 0} → List (List ℕ × K) → K → List ℕ → K
kind_among [] other wanted = other
kind_among (word ∷ words) other wanted = if bytes_eq word.0 wanted then word.1 else kind_among words other wanted

-- the kinds of the tokens
abbrev pub kinds_by : {K : Type 0} → (TokenKind → K) → List Token → List K
kinds_by kind_of tokens = map (λ one. kind_of one.kind) tokens
