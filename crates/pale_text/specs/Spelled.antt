-- Texts in which the tokens stand apart, as a printer writes them.
use Rattle.std.specs.Prelude.{◌≡◌, ℕ, IsTrue, List, [], ◌∷◌, ◌++◌, map}
use Rattle.pale_text.specs.declared.token.Token.{Token}
use Rattle.pale_text.specs.declared.token.TokenKind.{TokenKind}
use Rattle.pale_text.specs.declared.token.TokenList.{TokenList}
use Rattle.pale_text.specs.Spelling.{Spells}
use Rattle.pale_text.specs.Lexing.{is_gap, IsLexed}

-- the text spells tokens of these kinds in order, each followed by a space, tab, CR or LF or by the text's end
pub data IsSpelled : List TokenKind → List ℕ → Type 0 where
  nothing : IsSpelled [] []
  last : (kind : TokenKind) (piece : List ℕ) → Spells kind piece → IsSpelled (kind ∷ []) piece
  more : (kind : TokenKind) (piece : List ℕ) (gap : ℕ) (kinds : List TokenKind) (rest : List ℕ) → Spells kind piece → IsTrue (is_gap gap) →
      IsSpelled kinds rest → IsSpelled (kind ∷ kinds) (piece ++ gap ∷ rest)

-- what the tokens are, without their places
abbrev pub kinds_of : List Token → List TokenKind
kinds_of tokens = map (λ token. token.kind) tokens

-- the text has tokens of these kinds
pub record IsReadAs (kinds : List TokenKind) (text : List ℕ) : Type 0 where
  pub list : TokenList
  pub lexed : IsLexed text list
  pub same : kinds_of list.tokens ≡ kinds
