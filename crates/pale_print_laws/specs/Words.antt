-- The words of a tree: the tokens that it stands for, in order and without parentheses, each with the place that the tree
-- keeps for it. Each construct's words stand in front of those that come after it. And the words of names, paths and terms.
use Rattle.std.specs.Prelude.{◌≡◌, ℕ, List, [], ◌∷◌, Option, None, Some, codes}
use Rattle.pale_text.specs.declared.place.Pos.{Pos}
use Rattle.pale_text.specs.declared.token.Mark.{Mark}
use Rattle.pale_text.specs.declared.token.Mark.TheVariants as mark
use Rattle.pale_text.specs.declared.token.Token.{Token}
use Rattle.pale_text.specs.declared.token.TokenKind.{TokenKind}
use Rattle.pale_text.specs.declared.token.TokenKind.TheVariants as kind
use Rattle.pale_text.specs.Tokens.{first_of, place_of}
use Rattle.pale_syntax.specs.declared.tree.names.Name.{Name}
use Rattle.pale_syntax.specs.declared.tree.names.Path.{Path}
use Rattle.pale_syntax.specs.declared.tree.names.Term.{Term}
use Rattle.pale_syntax.specs.declared.tree.names.Term.TheVariants as term

-- a token that a tree stands for
pub record Word : Type 0 where
  pub kind : TokenKind
  -- its place, where the tree keeps it
  pub place : Option Pos
  -- the place of the token that follows, be it a parenthesis, where the tree keeps it
  pub next : Option Pos

abbrev pub IsParenthesis : TokenKind → Type 0
IsParenthesis (kind.Mark mark.LeftParen) = Unit {0}
IsParenthesis (kind.Mark mark.RightParen) = Unit {0}
IsParenthesis _ = ⊥

-- the token stands at this place, where there is one
abbrev pub IsAt : Option Pos → Option Token → Type 0
IsAt None token = Unit {0}
IsAt (Some place) token = place_of token ≡ place

-- the tokens but for parentheses are these words, one by one: each of its word's kind, and where the word has a place, there
pub data AreWords : List Token → List Word → Type 0 where
  no_words : AreWords [] []
  parenthesis : (one : Token) (tokens : List Token) (words : List Word) → IsParenthesis one.kind → AreWords tokens words →
      AreWords (one ∷ tokens) words
  word : (one : Token) (tokens : List Token) (first : Word) (words : List Word) → one.kind ≡ first.kind → IsAt first.place (Some one) →
      IsAt first.next (first_of tokens) → AreWords tokens words → AreWords (one ∷ tokens) (first ∷ words)

-- ---- words one after the other

-- words, as what they make of the words that come after them
abbrev pub Words : Type 0
Words = List Word → List Word

infixr 4 ◌>>◌
-- these words in front of those
abbrev pub ◌>>◌ : Words → List Word → List Word
words >> after = words after

abbrev pub nothing : Words
nothing after = after

-- a token whose place no tree keeps
abbrev pub unplaced : TokenKind → Words
unplaced kind after = record { kind = kind; place = None; next = None } ∷ after

-- a token at this place
abbrev pub placed : TokenKind → Pos → Words
placed kind place after = record { kind = kind; place = Some place; next = None } ∷ after

abbrev pub sign : Mark → Words
sign mark = unplaced (kind.Mark mark)

abbrev pub sign_at : Mark → Pos → Words
sign_at mark place = placed (kind.Mark mark) place

-- a reserved word
abbrev pub word_of : List ℕ → Words
word_of bytes = unplaced (kind.Name bytes)

abbrev pub word_at : List ℕ → Pos → Words
word_at bytes place = placed (kind.Name bytes) place

-- the words of each, in order
abbrev pub each : {X : Type 0} → (X → Words) → List X → Words
each words_of [] after = after
each words_of (x ∷ xs) after = words_of x >> each words_of xs >> after

-- the words of each behind this mark, in order
abbrev pub each_behind : {X : Type 0} → Mark → (X → Words) → List X → Words
each_behind mark words_of [] after = after
each_behind mark words_of (x ∷ xs) after = sign mark >> words_of x >> each_behind mark words_of xs >> after

-- the words of each, with this mark between them
abbrev pub separated : {X : Type 0} → Mark → (X → Words) → List X → Words
separated mark words_of [] after = after
separated mark words_of (x ∷ xs) after = words_of x >> each_behind mark words_of xs >> after

-- ---- names, paths and terms

abbrev pub name_words : Name → Words
name_words x = word_at x.bytes x.place

-- `x : T`
abbrev pub typed_words : Name → Name → Words
typed_words x ty after = name_words x >> sign mark.Colon >> name_words ty >> after

-- `x . f . g`
abbrev pub path_words : Path → Words
path_words p after = name_words p.base >> each_behind mark.Dot name_words p.fields >> after

abbrev pub term_words : Term → Words
term_words (term.Null place) after = word_at (codes "null") place >> after
term_words (term.Path p) after = path_words p >> after
