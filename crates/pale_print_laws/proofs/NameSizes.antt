-- How many tokens paths and terms have.
use Rattle.std.proofs.Common.{◌≡◌, ℕ, suc, ◌+◌, List, [], ◌∷◌, ◌++◌, length, refl, ap, arith}
use Rattle.pale_text.specs.declared.token.Mark.{Mark}
use Rattle.pale_text.specs.declared.token.Mark.TheVariants as mark
use Rattle.pale_text.specs.declared.token.Token.{Token}
use Rattle.pale_text.specs.declared.token.TokenKind.{TokenKind}
use Rattle.pale_syntax.specs.declared.tree.names.Name.{Name}
use Rattle.pale_syntax.specs.declared.tree.names.Path.{Path}
use Rattle.pale_syntax.specs.declared.tree.names.Term.{Term}
use Rattle.pale_syntax.specs.declared.tree.names.Term.TheVariants as term
use Rattle.pale_syntax.specs.MakingWords.{extended}
use Rattle.pale_print.specs.Tokens.{each_behind, name_tokens, path_tokens, term_tokens}
use Rattle.pale_print_laws.proofs.RouteSizes.{Takes}

-- one token more
pub one_less : {tokens others : List Token} {one : Token} → tokens ≡ one ∷ others → length tokens ≡ suc (length others)
one_less is = ap length is

-- names, each behind a mark
abbrev pub names_size : List Name → ℕ
names_size [] = 0
names_size (x ∷ xs) = suc (suc (names_size xs))

abbrev pub path_size : Path → ℕ
path_size p = suc (names_size p.fields)

abbrev pub term_size : Term → ℕ
term_size (term.Null place) = 1
term_size (term.Path p) = path_size p

pub names_take : (m : Mark) (xs : List Name) (after : List TokenKind) → length (each_behind m name_tokens xs after) ≡ names_size xs + length after
names_take m [] after = omega arith
names_take m (x ∷ xs) after = let e = names_take m xs after in omega arith

pub path_takes : (p : Path) → Takes (path_tokens p) (path_size p)
path_takes p = record { takes = λ after. let e = names_take mark.Dot p.fields after in omega arith }

pub term_takes : (t : Term) → Takes (term_tokens t) (term_size t)
term_takes (term.Null place) = record { takes = λ after. omega arith }
term_takes (term.Path p) = path_takes p

pub names_last : (xs : List Name) (x : Name) → names_size (xs ++ x ∷ []) ≡ suc (suc (names_size xs))
names_last [] x = refl
names_last (y ∷ xs) x = let e = names_last xs x in omega arith

pub extended_size : (p : Path) (f : Name) → path_size (extended p f) ≡ suc (suc (path_size p))
extended_size p f = let e = names_last p.fields f in omega arith
