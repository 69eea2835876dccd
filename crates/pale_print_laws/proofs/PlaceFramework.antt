-- A reading makes what its rows make, where each row makes what its part means, from what each part in the row means.
use Rattle.std.proofs.Common.{◌≡◌, inl, inr, ℕ, zero, suc, List, [], ◌∷◌, Option, Some, map, refl, sym, subst}
use Rattle.ll1_reader.specs.declared.symbol.Symbol.TheVariants.{Read, Open, Once, Maybe, Many, Act as Does}
use Rattle.ll1_reader.specs.Grammars.{IsOneOf}
use Rattle.ll1_reader.specs.Readings.{Stack, Bottom, Row, Step, Reads, over, row_over, read, opened, acted, once, taken, left_out, again, ended}
use Rattle.ll1_reader.specs.Answers.{event_of}
use Rattle.pale_syntax.specs.declared.grammar.act.Act.{Act}
use Rattle.pale_syntax.specs.declared.grammar.kind.ProgramKind.{ProgramKind}
use Rattle.pale_syntax.specs.declared.grammar.part.ProgramPart.{ProgramPart}
use Rattle.pale_text.specs.declared.token.Token.{Token}
use Rattle.pale_text.specs.Tokens.{first_of}
use Rattle.pale_syntax.specs.Making.{after, run}
use Rattle.pale_syntax.specs.MakingParts.{Parts}
use Rattle.pale_syntax.specs.ProgramGrammar.{ProgramSymbol, rows_of, program_grammar}
use Rattle.pale_syntax.specs.ProgramReading.{program_rows}
use Rattle.pale_syntax.specs.ProgramWords.{kinds_in}
use Rattle.pale_print_laws.specs.Operands.{HasOperands, EachHasOperands}
use Rattle.pale_print_laws.proofs.Meaning.{Thing, IsMade, put, Before, Between}
use Rattle.pale_print_laws.proofs.TokenLemmas.{Took}

-- the part any number of times
pub data AreMade (n : ProgramPart) : List (Thing n) → List Token → List Token → Type 0 where
  no_more : (start : List Token) → AreMade n [] start start
  one_more : (x : Thing n) (xs : List (Thing n)) (start middle end : List Token) → IsMade n x start middle → AreMade n xs middle end →
      AreMade n (x ∷ xs) start end

abbrev pub puts : (n : ProgramPart) → List (Thing n) → Parts → Parts
puts n [] parts = parts
puts n (x ∷ xs) parts = puts n xs (put n x parts)

-- what is to be reached, by the token read last, the tokens to be read and the parts
abbrev pub Goal : Type 1
Goal = Option Token → List Token → Parts → Type 0

-- however the row is read from here, each act in it has its operands, each part in it may be read, and the goal is reached
abbrev pub Fits : List ProgramSymbol → Option Token → List Token → Parts → Goal → Type 0
Fits [] last tokens parts goal = goal last tokens parts
Fits (Read k ∷ row) last tokens parts goal = (one : Token) (others : List Token) → Took k tokens one others → Fits row (Some one) others parts goal
Fits (Open k ∷ row) last tokens parts goal = (one : Token) (others : List Token) → Took k tokens one others → Fits row (Some one) others parts goal
Fits (Once n ∷ row) last tokens parts goal =
    Before n parts ×
    ((x : Thing n) (behind : Option Token) (others : List Token) → IsMade n x tokens others → Fits row behind others (put n x parts) goal)
Fits (Maybe n ∷ row) last tokens parts goal =
    Before n parts × Fits row last tokens parts goal ×
    ((x : Thing n) (behind : Option Token) (others : List Token) → IsMade n x tokens others → Fits row behind others (put n x parts) goal)
Fits (Many n ∷ row) last tokens parts goal =
    Between n parts ×
    ((xs : List (Thing n)) (behind : Option Token) (others : List Token) → AreMade n xs tokens others → Fits row behind others (puts n xs parts) goal)
Fits (Does a ∷ row) last tokens parts goal =
    HasOperands a parts × Fits row last tokens (after a (record { last = last; next = first_of tokens }) parts) goal

-- the goal is reached by what the part makes
abbrev pub Done : ProgramPart → List Token → Parts → Goal → Type 0
Done n tokens parts goal = (x : Thing n) (behind : Option Token) (others : List Token) → IsMade n x tokens others → goal behind others (put n x parts)

-- what is made along this row is what the part makes
pub record IsSoundRow (n : ProgramPart) (row : List ProgramSymbol) : Type 1 where
  pub along : (last : Option Token) (tokens : List Token) (parts : Parts) (goal : Goal) → Before n parts → Done n tokens parts goal →
      Fits row last tokens parts goal

pub data AreSoundRows (n : ProgramPart) : List (List ProgramSymbol) → Type 1 where
  no_row : AreSoundRows n []
  or_row : {row : List ProgramSymbol} {rows : List (List ProgramSymbol)} → IsSoundRow n row → AreSoundRows n rows → AreSoundRows n (row ∷ rows)

one_of_sound : {n : ProgramPart} {rows : List (List ProgramSymbol)} → AreSoundRows n rows → (row : List ProgramSymbol) →
    IsOneOf row rows → IsSoundRow n row
one_of_sound no_row row i = absurd i
one_of_sound (or_row here others) row (inl is) = record {
  along = λ last tokens parts goal before done.
      subst (λ (r : List ProgramSymbol). Fits r last tokens parts goal) (sym is) (here.along last tokens parts goal before done);
}
one_of_sound (or_row here others) row (inr i) = one_of_sound others row i

-- a row by its number
abbrev pub nth : List (List ProgramSymbol) → ℕ → List ProgramSymbol
nth [] i = []
nth (row ∷ rows) zero = row
nth (row ∷ rows) (suc i) = nth rows i

-- where a part may come any number of times, it may come, and behind it too
pub record IsKept (n : ProgramPart) : Type 0 where
  pub enters : (parts : Parts) → Between n parts → Before n parts
  pub kept : (x : Thing n) (parts : Parts) → Between n parts → Between n (put n x parts)

module _ (sound : (n : ProgramPart) → AreSoundRows n (rows_of n)) (keeps : (n : ProgramPart) → IsKept n) (Final : List Token → Parts → Type 0) where
  abbrev pub Holds : Stack ProgramPart Act ProgramKind → Option Token → List Token → Parts → Type 0
  Holds Bottom last tokens parts = Final tokens parts
  Holds (Row symbols d below) last tokens parts = Fits symbols last tokens parts (λ l t p. Holds below l t p)

  pub held : {MayEnd : ProgramPart → List ProgramKind → Type 0} {stack : Stack ProgramPart Act ProgramKind} {ks : List ProgramKind}
      {steps : List (Step Act)} →
      Reads program_rows MayEnd stack ks steps → (tokens : List Token) → kinds_in tokens ≡ ks → (last : Option Token) (parts : Parts) →
      Holds stack last tokens parts →
      EachHasOperands (map event_of steps) last tokens parts × Final [] (run (map event_of steps) last tokens parts)
  unfolding program_grammar
  held over [] is last parts h = (tt, h)
  held over (one ∷ tokens) is last parts h = absurd (cc is)
  held (row_over d below ks steps r) tokens is last parts h = held r tokens is last parts h
  held (read k row d below ks steps r) [] is last parts h = absurd (cc is)
  held (read k row d below ks steps r) (one ∷ tokens) is last parts h =
      held r tokens (cc is) (Some one) parts (h one tokens (record { first = refl; kind = cc is }))
  held (opened k row d below ks steps r) [] is last parts h = absurd (cc is)
  held (opened k row d below ks steps r) (one ∷ tokens) is last parts h =
      held r tokens (cc is) (Some one) parts (h one tokens (record { first = refl; kind = cc is }))
  held (acted a row d below ks steps r) tokens is last parts h =
      let more = held r tokens is last (after a (record { last = last; next = first_of tokens }) parts) h.1 in
      ((h.0, more.0), more.1)
  held (once n p row d below ks steps i r) tokens is last parts h =
      held r tokens is last parts
      ((one_of_sound (sound n) p i).along last tokens parts (λ l t q. Fits row l t q (λ l t p. Holds below l t p)) h.0 h.1)
  held (taken n p row d below ks steps i r) tokens is last parts h =
      held r tokens is last parts
      ((one_of_sound (sound n) p i).along last tokens parts (λ l t q. Fits row l t q (λ l t p. Holds below l t p)) h.0 h.2)
  held (left_out n row d below ks steps stops r) tokens is last parts h = held r tokens is last parts h.1
  held (again n p row d below ks steps i r) tokens is last parts h =
      held r tokens is last parts
      ((one_of_sound (sound n) p i).along last tokens parts (λ l t q. Fits (Many n ∷ row) l t q (λ l t p. Holds below l t p))
      ((keeps n).enters parts h.0) (λ x behind others made. (
        (keeps n).kept x parts h.0,
        λ xs b o more. h.1 (x ∷ xs) b o (one_more x xs tokens others o made more),
      )))
  held (ended n row d below ks steps stops r) tokens is last parts h = held r tokens is last parts (h.1 [] last tokens (no_more tokens))
