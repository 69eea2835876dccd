-- How a part's rows are proved sound, one by one; and the names that tokens are.
use Rattle.std.proofs.Common.{◌≡◌, inl, inr, ℕ, zero, suc, List, [], ◌∷◌, Option, Some, subst}
use Rattle.ll1_reader.specs.Grammars.{IsOneOf}
use Rattle.pale_syntax.specs.declared.grammar.kind.ProgramKind.TheVariants as kind
use Rattle.pale_syntax.specs.declared.grammar.part.ProgramPart.{ProgramPart}
use Rattle.pale_text.specs.declared.token.Token.{Token}
use Rattle.pale_text.specs.declared.token.TokenKind.{TokenKind}
use Rattle.pale_text.specs.declared.token.TokenKind.TheVariants as token
use Rattle.ll1_reader.specs.declared.symbol.Symbol.TheVariants.{Once}
use Rattle.pale_syntax.specs.MakingParts.{Parts, name_of}
use Rattle.pale_text.specs.Tokens.{name_bytes}
use Rattle.pale_syntax.specs.ProgramGrammar.{ProgramSymbol, rows_of}
use Rattle.pale_syntax.specs.ProgramWords.{kind_of, name_kind}
use Rattle.pale_text.specs.Spelling.{IsName}
use Rattle.pale_syntax.specs.FreeNames.{IsFree}
use Rattle.pale_print_laws.proofs.FromRows.{IsNamed, IsOfKind, Goal, Goes, IsSoundAt}
use Rattle.pale_print_laws.proofs.FromMeaning.{program_meaning}

-- what is made along this row is what the part makes
pub record IsSoundRow (n : ProgramPart) (row : List ProgramSymbol) : Type 1 where
  pub along : (room : ℕ) (last : Option Token) (tokens : List Token) (parts : Parts) (goal : Goal) →
      Goes program_meaning row room last tokens parts goal → Goes program_meaning (Once n ∷ []) room last tokens parts goal

-- what is made along each of these rows is
pub data AreSoundRows (n : ProgramPart) : List (List ProgramSymbol) → Type 1 where
  no_row : AreSoundRows n []
  or_row : {row : List ProgramSymbol} {rows : List (List ProgramSymbol)} → IsSoundRow n row → AreSoundRows n rows → AreSoundRows n (row ∷ rows)

pub one_of_sound : {n : ProgramPart} {rows : List (List ProgramSymbol)} → AreSoundRows n rows → (row : List ProgramSymbol) → IsOneOf row rows → IsSoundRow n row
one_of_sound no_row row i = absurd i
one_of_sound (or_row here others) row (inl is) = record {
  along = λ room last tokens parts goal g.
      here.along room last tokens parts goal (subst (λ (r : List ProgramSymbol). Goes program_meaning r room last tokens parts goal) is g);
}
one_of_sound (or_row here others) row (inr i) = one_of_sound others row i

pub sound_at : {n : ProgramPart} → AreSoundRows n (rows_of n) → IsSoundAt program_meaning n
sound_at sound = λ row i room last tokens parts goal g. (one_of_sound sound row i).along room last tokens parts goal g

-- a row by its number
abbrev pub nth : List (List ProgramSymbol) → ℕ → List ProgramSymbol
nth [] i = []
nth (row ∷ rows) zero = row
nth (row ∷ rows) (suc i) = nth rows i

free_bytes : (k : TokenKind) → IsNamed k → kind_of k ≡ kind.Name → IsName (name_bytes k) × (name_kind (name_bytes k) ≡ kind.Name)
free_bytes (token.Name bytes) named is = (named, is)
free_bytes (token.Number digits) named is = absurd (cc is)
free_bytes (token.Mark mark) named is = absurd (cc is)

pub free_name : (one : Token) → IsOfKind kind.Name one → IsFree (name_of (Some one))
free_name one is = let f = free_bytes one.kind is.named is.same in record { named = f.0; free = f.1 }
