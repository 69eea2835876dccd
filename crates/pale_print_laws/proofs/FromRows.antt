-- What is made along a row, where it is known what each part makes: from the first token to the last.
use Rattle.std.proofs.Common.{◌≡◌, ◌⊎◌, inl, inr, ℕ, suc, ◌-◌, ◌≤◌, List, [], ◌∷◌, Option, Some, map, refl, sym, subst, arith}
use Rattle.ll1_reader.specs.declared.symbol.Symbol.TheVariants.{Read, Open, Once, Maybe, Many, Act as Does}
use Rattle.ll1_reader.specs.Grammars.{IsOneOf}
use Rattle.ll1_reader.specs.Readings.{Bottom, Row, Step, Reads, over, row_over, read, opened, acted, once, taken, left_out, again, ended}
use Rattle.ll1_reader.specs.Answers.{levels, event_of, AreLow}
use Rattle.pale_syntax.specs.declared.grammar.act.Act.{Act}
use Rattle.pale_syntax.specs.declared.grammar.kind.ProgramKind.{ProgramKind}
use Rattle.pale_syntax.specs.declared.grammar.part.ProgramPart.{ProgramPart}
use Rattle.pale_text.specs.declared.token.Token.{Token}
use Rattle.pale_text.specs.declared.token.TokenKind.{TokenKind}
use Rattle.pale_text.specs.declared.token.TokenKind.TheVariants as token
use Rattle.pale_syntax.specs.Making.{after, run}
use Rattle.pale_text.specs.Tokens.{first_of}
use Rattle.pale_syntax.specs.MakingParts.{Parts}
use Rattle.pale_syntax.specs.ProgramGrammar.{ProgramSymbol, rows_of, program_grammar}
use Rattle.pale_syntax.specs.ProgramReading.{program_rows}
use Rattle.pale_syntax.specs.ProgramWords.{kind_of, kinds_in}
use Rattle.pale_text.specs.Spelling.{IsName}
use Rattle.pale_print_laws.proofs.Framework.{Counts, ProgramStack}

-- what stands for a name is one
abbrev pub IsNamed : TokenKind → Type 0
IsNamed (token.Name bytes) = IsName bytes
IsNamed (token.Number digits) = Unit {0}
IsNamed (token.Mark mark) = Unit {0}

abbrev pub AreNamed : List Token → Type 0
AreNamed [] = Unit {0}
AreNamed (one ∷ tokens) = IsNamed one.kind × AreNamed tokens

-- a token of this kind
pub record IsOfKind (k : ProgramKind) (one : Token) : Type 0 where
  pub same : kind_of one.kind ≡ k
  pub named : IsNamed one.kind

-- What each part means, read with so much room for levels from these tokens up to those: what it makes, what then becomes of the
-- parts, and what has to hold of the parts before it; and what has to hold of them where it may come any number of times.
pub record Meaning : Type 1 where
  pub Made : ProgramPart → ℕ → List Token → List Token → Type 0
  pub put : (n : ProgramPart) (room : ℕ) (start end : List Token) → Made n room start end → Parts → Parts
  pub Before : ProgramPart → ℕ → Parts → Type 0
  pub Between : ProgramPart → ℕ → Parts → Type 0

-- the part any number of times, up to where it can't come again
pub data Several (meaning : Meaning) (n : ProgramPart) (room : ℕ) : List Token → List Token → Type 0 where
  no_more : (start : List Token) → Counts n (kinds_in start) → Several meaning n room start start
  one_more : (start middle end : List Token) → meaning.Made n room start middle → Several meaning n room middle end →
      Several meaning n room start end

abbrev pub puts : (meaning : Meaning) (n : ProgramPart) (room : ℕ) (start end : List Token) → Several meaning n room start end → Parts → Parts
puts meaning n room start end (no_more _ _) parts = parts
puts meaning n room start end (one_more _ middle _ one others) parts =
    puts meaning n room middle end others (meaning.put n room start middle one parts)

abbrev pub Goal : Type 1
Goal = Option Token → List Token → Parts → Type 0

-- the row is read from this token on, and then the goal is reached
abbrev pub Goes : Meaning → List ProgramSymbol → ℕ → Option Token → List Token → Parts → Goal → Type 0
Goes meaning [] room last tokens parts goal = goal last tokens parts
Goes meaning (Read k ∷ row) room last tokens parts goal =
    (one : Token) × (others : List Token) × (tokens ≡ one ∷ others) × IsOfKind k one × Goes meaning row room (Some one) others parts goal
Goes meaning (Open k ∷ row) room last tokens parts goal =
    (inside : ℕ) × (room ≡ suc inside) × (one : Token) × (others : List Token) × (tokens ≡ one ∷ others) × IsOfKind k one ×
    Goes meaning row inside (Some one) others parts goal
Goes meaning (Once n ∷ row) room last tokens parts goal =
    meaning.Before n room parts →
    (behind : Option Token) × (others : List Token) × (made : meaning.Made n room tokens others) ×
    Goes meaning row room behind others (meaning.put n room tokens others made parts) goal
Goes meaning (Maybe n ∷ row) room last tokens parts goal =
    meaning.Before n room parts →
    (Counts n (kinds_in tokens) × Goes meaning row room last tokens parts goal) ⊎
    ((behind : Option Token) × (others : List Token) × (made : meaning.Made n room tokens others) ×
    Goes meaning row room behind others (meaning.put n room tokens others made parts) goal)
Goes meaning (Many n ∷ row) room last tokens parts goal =
    meaning.Between n room parts →
    (behind : Option Token) × (others : List Token) × (made : Several meaning n room tokens others) ×
    Goes meaning row room behind others (puts meaning n room tokens others made parts) goal
Goes meaning (Does a ∷ row) room last tokens parts goal =
    Goes meaning row room last tokens (after a (record { last = last; next = first_of tokens }) parts) goal

-- what is made along each row of a part is what the part makes
abbrev pub IsSoundAt : Meaning → ProgramPart → Type 1
IsSoundAt meaning n =
    (row : List ProgramSymbol) → IsOneOf row (rows_of n) →
    (room : ℕ) (last : Option Token) (tokens : List Token) (parts : Parts) (goal : Goal) →
    Goes meaning row room last tokens parts goal → Goes meaning (Once n ∷ []) room last tokens parts goal

-- where a part may come any number of times, it may come, and behind it too
pub record IsKeptAt (meaning : Meaning) (n : ProgramPart) : Type 0 where
  pub enters : (room : ℕ) (parts : Parts) → meaning.Between n room parts → meaning.Before n room parts
  pub kept : (room : ℕ) (start end : List Token) (made : meaning.Made n room start end) (parts : Parts) →
      meaning.Between n room parts → meaning.Between n room (meaning.put n room start end made parts)

module _ (meaning : Meaning) (sound : (n : ProgramPart) → IsSoundAt meaning n) (keeps : (n : ProgramPart) → IsKeptAt meaning n) (limit : ℕ) where
  abbrev pub Holds : Parts → ProgramStack → Option Token → List Token → Parts → Type 0
  Holds final Bottom last tokens parts = parts ≡ final
  Holds final (Row symbols d below) last tokens parts = Goes meaning symbols (limit - d) last tokens parts (λ l t p. Holds final below l t p)

  pub held : {stack : ProgramStack} {ks : List ProgramKind} {steps : List (Step Act)} → Reads program_rows Counts stack ks steps →
      (tokens : List Token) → kinds_in tokens ≡ ks → AreNamed tokens → AreLow limit (levels steps) → (last : Option Token) (parts : Parts) →
      Holds (run (map event_of steps) last tokens parts) stack last tokens parts
  unfolding program_grammar
  held over tokens is named low last parts = refl
  held (row_over d below ks steps r) tokens is named low last parts = held r tokens is named low last parts
  held (read k row d below ks steps r) [] is named low last parts = absurd (cc is)
  held (read k row d below ks steps r) (one ∷ tokens) is named low last parts =
      (one, tokens, refl, record { same = cc is; named = named.0 }, held r tokens (cc is) named.1 low.1 (Some one) parts)
  held (opened k row d below ks steps r) [] is named low last parts = absurd (cc is)
  held (opened k row d below ks steps r) (one ∷ tokens) is named low last parts =
      let e : suc d ≤ limit = low.0 in
      (limit - suc d, omega arith, one, tokens, refl, record { same = cc is; named = named.0 }, held r tokens (cc is) named.1 low.1 (Some one) parts)
  held (acted a row d below ks steps r) tokens is named low last parts =
      held r tokens is named low last (after a (record { last = last; next = first_of tokens }) parts)
  held (once n p row d below ks steps i r) tokens is named low last parts =
      sound n p i (limit - d) last tokens parts
      (λ l t q. Goes meaning row (limit - d) l t q (λ l t p. Holds (run (map event_of steps) last tokens parts) below l t p))
      (held r tokens is named low last parts)
  held (taken n p row d below ks steps i r) tokens is named low last parts = λ before.
      inr (sound n p i (limit - d) last tokens parts
      (λ l t q. Goes meaning row (limit - d) l t q (λ l t p. Holds (run (map event_of steps) last tokens parts) below l t p))
      (held r tokens is named low last parts) before)
  held (left_out n row d below ks steps stops r) tokens is named low last parts = λ before.
      inl (subst (λ k. Counts n k) (sym is) stops, held r tokens is named low last parts)
  held (again n p row d below ks steps i r) tokens is named low last parts = λ before.
      let g =
      sound n p i (limit - d) last tokens parts
      (λ l t q. Goes meaning (Many n ∷ row) (limit - d) l t q (λ l t p. Holds (run (map event_of steps) last tokens parts) below l t p))
      (held r tokens is named low last parts) ((keeps n).enters (limit - d) parts before) in
      let more = g.3 ((keeps n).kept (limit - d) tokens g.1 g.2 parts before) in
      (more.0, more.1, one_more tokens g.1 more.1 g.2 more.2, more.3)
  held (ended n row d below ks steps stops r) tokens is named low last parts = λ before.
      (last, tokens, no_more tokens (subst (λ k. Counts n k) (sym is) stops), held r tokens is named low last parts)
