-- The kinds of the tokens of WS2S text, and its reserved words.
use Rattle.std.specs.Prelude.{ℕ, List, [], ◌∷◌, codes}
use Rattle.pale_text.specs.declared.token.Token.{Token}
use Rattle.pale_text.specs.declared.token.TokenKind.{TokenKind}
use Rattle.pale_text.specs.declared.token.TokenKind.TheVariants as token
use Rattle.pale_text.specs.Kinds.{kind_among, kinds_by}
use Rattle.ws2s_parse.specs.declared.grammar.kind.SourceKind.{SourceKind}
use Rattle.ws2s_parse.specs.declared.grammar.kind.SourceKind.TheVariants as kind

-- the words that are no names in WS2S text, each with its kind
abbrev pub reserved : List (List ℕ × SourceKind)
reserved =
    (codes "ws2s", kind.Ws2s) ∷ (codes "var1", kind.Var1) ∷ (codes "var2", kind.Var2) ∷ (codes "pred", kind.Pred) ∷
    (codes "ex1", kind.Ex1) ∷ (codes "all1", kind.All1) ∷ (codes "ex2", kind.Ex2) ∷ (codes "all2", kind.All2) ∷
    (codes "in", kind.In) ∷ (codes "notin", kind.NotIn) ∷ (codes "sub", kind.Sub) ∷ (codes "empty", kind.Empty) ∷
    (codes "root", kind.Root) ∷ (codes "true", kind.True) ∷ (codes "false", kind.False) ∷ []

-- the numbers that it has, each with its kind
abbrev pub numbers : List (List ℕ × SourceKind)
numbers = (codes "0", kind.Zero) ∷ (codes "1", kind.One) ∷ []

unfoldable pub name_kind : List ℕ → SourceKind
name_kind name = kind_among reserved kind.Name name

unfoldable pub number_kind : List ℕ → SourceKind
number_kind digits = kind_among numbers kind.Number digits

abbrev pub kind_of : TokenKind → SourceKind
kind_of (token.Name name) = name_kind name
kind_of (token.Number digits) = number_kind digits
kind_of (token.Mark mark) = kind.Mark mark

abbrev pub kinds_in : List Token → List SourceKind
kinds_in = kinds_by kind_of
