-- Tokens written one after the other: each construct's tokens stand in front of those that come after it. And the tokens
-- of names, paths and terms.
use Rattle.std.specs.Prelude.{ℕ, List, [], ◌∷◌, codes}
use Rattle.pale_text.specs.declared.token.Mark.{Mark}
use Rattle.pale_text.specs.declared.token.Mark.TheVariants as mark
use Rattle.pale_text.specs.declared.token.TokenKind.{TokenKind}
use Rattle.pale_text.specs.declared.token.TokenKind.TheVariants as kind
use Rattle.pale_syntax.specs.declared.tree.names.Name.{Name}
use Rattle.pale_syntax.specs.declared.tree.names.Path.{Path}
use Rattle.pale_syntax.specs.declared.tree.names.Term.{Term}
use Rattle.pale_syntax.specs.declared.tree.names.Term.TheVariants as term

-- tokens, as what they make of the tokens that come after them
abbrev pub Tokens : Type 0
Tokens = List TokenKind → List TokenKind

infixr 4 ◌>>◌
-- these tokens in front of those
abbrev pub ◌>>◌ : Tokens → List TokenKind → List TokenKind
tokens >> after = tokens after

abbrev pub nothing : Tokens
nothing after = after

abbrev pub sign : Mark → Tokens
sign mark after = kind.Mark mark ∷ after

-- a name, or a reserved word
abbrev pub word : List ℕ → Tokens
word bytes after = kind.Name bytes ∷ after

-- the tokens of each, in order
abbrev pub each : {X : Type 0} → (X → Tokens) → List X → Tokens
each tokens_of [] after = after
each tokens_of (x ∷ xs) after = tokens_of x >> each tokens_of xs >> after

-- the tokens of each behind this mark, in order
abbrev pub each_behind : {X : Type 0} → Mark → (X → Tokens) → List X → Tokens
each_behind mark tokens_of [] after = after
each_behind mark tokens_of (x ∷ xs) after = sign mark >> tokens_of x >> each_behind mark tokens_of xs >> after

-- the tokens of each, with this mark between them
abbrev pub separated : {X : Type 0} → Mark → (X → Tokens) → List X → Tokens
separated mark tokens_of [] after = after
separated mark tokens_of (x ∷ xs) after = tokens_of x >> each_behind mark tokens_of xs >> after

-- ---- names, paths and terms

abbrev pub name_tokens : Name → Tokens
name_tokens x = word x.bytes

-- `x : T`
abbrev pub typed_tokens : Name → Name → Tokens
typed_tokens x ty after = name_tokens x >> sign mark.Colon >> name_tokens ty >> after

-- `x . f . g`
abbrev pub path_tokens : Path → Tokens
path_tokens p after = name_tokens p.base >> each_behind mark.Dot name_tokens p.fields >> after

abbrev pub term_tokens : Term → Tokens
term_tokens (term.Null place) after = word (codes "null") >> after
term_tokens (term.Path p) after = path_tokens p >> after
