-- A text has at most one output of `format`, with one status.
use Rattle.std.proofs.Common.{◌≡◌, ◌∙◌, ℕ, List, ap, subst, refl, sym, arith, inl, inr}
use Rattle.ll1_reader.specs.Grammars.{Rules}
use Rattle.ll1_reader.specs.Readings.{Step}
use Rattle.ll1_reader.proofs.CompleteLemmas.{not_deep, not_wrong}
use Rattle.ll1_reader.proofs.StopLemmas.{one_deep, one_wrong, wrong_or_deep}
use Rattle.pale_syntax.specs.declared.grammar.act.Act.{Act}
use Rattle.pale_text.specs.declared.place.Pos.{Pos}
use Rattle.pale_text.specs.declared.refusal.Refusal.{Refusal}
use Rattle.pale_text.specs.declared.refusal.RefusalKind.{RefusalKind}
use Rattle.pale_text.specs.declared.refusal.TextStop.TheVariants.{Refused}
use Rattle.pale_text.specs.declared.token.Token.{Token}
use Rattle.pale_text.specs.declared.token.TokenList.{TokenList}
use Rattle.pale_syntax.specs.declared.tree.declaration.Program.{Program}
use Rattle.pale_text.specs.Lexing.{IsLexed, IsLexStop, IsStrayAt}
use Rattle.pale_syntax.specs.ProgramReading.{IsParsedAs, IsParseStop, IsProgram, max_levels, program_rows}
use Rattle.pale_syntax.specs.ProgramWords.{kinds_in}
use Rattle.pale_text.specs.TextStops.{IsFault, IsRefused, place_at}
use Rattle.pale_print.specs.Spelling.{spelling}
use Rattle.pale_status.specs.declared.status.Status.{Status}
use Rattle.pale_modes.specs.Formatting.{Formats, too_long, stray, unparsed, program}
use Rattle.pale_status.specs.Report.{refused_line}

-- ---- refusals

abbrev place_of : Refusal → Pos
place_of r = record { line = r.line; column = r.column }

same_refusal : (r s : Refusal) → place_of r ≡ place_of s → r.kind ≡ s.kind → r ≡ s
same_refusal r s place kind = λ i. record { line = (place i).line; column = (place i).column; kind = kind i }

module _ {N P A K : Type 0} (rules : Rules N P A K) (limit : ℕ) (kinds : List K) where
  same_fault : (p q : ℕ) (why other : RefusalKind) → IsFault rules limit kinds p why → IsFault rules limit kinds q other → (p ≡ q) × (why ≡ other)
  same_fault p q why other (inl f) (inl g) = (one_wrong rules limit kinds p q f.1 g.1, f.0 ∙ sym g.0)
  same_fault p q why other (inl f) (inr g) = absurd (wrong_or_deep rules limit kinds p q f.1 g.1)
  same_fault p q why other (inr f) (inl g) = absurd (wrong_or_deep rules limit kinds q p g.1 f.1)
  same_fault p q why other (inr f) (inr g) = (one_deep rules limit kinds p q f.1 g.1, f.0 ∙ sym g.0)

  -- tokens have one refusal
  one_refused : (list : TokenList) (r s : Refusal) → IsRefused rules limit kinds list r → IsRefused rules limit kinds list s → r ≡ s
  one_refused list r s one other =
      let same = same_fault one.number other.number r.kind s.kind one.fault other.fault in
      same_refusal r s (sym one.place ∙ ap (place_at list) same.0 ∙ other.place) same.1

-- tokens that are a program with few levels have none
none_refused : (list : TokenList) (tree : Program) (r : Refusal) → IsParsedAs list.tokens tree → IsParseStop list (Refused r) → ⊥
none_refused list tree r parsed stop =
    let kinds = kinds_in list.tokens in
    elim stop.fault [
      | inl f ↦ not_wrong program_rows max_levels kinds stop.number parsed.steps parsed.sentence.reading f.1
      | inr f ↦ not_deep program_rows max_levels kinds stop.number parsed.steps parsed.sentence.reading parsed.shallow f.1
    ]

-- ---- outputs

abbrev Same : List ℕ → List ℕ → Status → Status → Type 0
Same one other s t = (one ≡ other) × (s ≡ t)

-- what the layers below say of texts and tokens
pub record Laws : Type 0 where
  pub tokens : (text : List ℕ) (one other : TokenList) → IsLexed text one → IsLexed text other → one ≡ other
  pub stray : (text : List ℕ) (one other : Pos) → IsStrayAt text one → IsStrayAt text other → one ≡ other
  pub apart : (text : List ℕ) (list : TokenList) (place : Pos) → IsLexed text list → IsStrayAt text place → ⊥
  pub tree : (tokens : List Token) (one other : List (Step Act)) (tree another : Program) → IsProgram tokens one tree → IsProgram tokens other another
      → tree ≡ another

module _ (laws : Laws) where
  one_stray : (text : List ℕ) (r s : Refusal) → IsLexStop text (Refused r) → IsLexStop text (Refused s) → refused_line r ≡ refused_line s
  one_stray text r s one other =
      ap refused_line (same_refusal r s (laws.stray text (place_of r) (place_of s) one.1 other.1) (one.0 ∙ sym other.0))

  one_unparsed : (text : List ℕ) (list found : TokenList) (r s : Refusal) → IsLexed text list → IsLexed text found → IsParseStop list (Refused r)
      → IsParseStop found (Refused s)
      → refused_line r ≡ refused_line s
  one_unparsed text list found r s lexed again one other =
      let here = subst (λ (l : TokenList). IsParseStop l (Refused s)) (laws.tokens text found list again lexed) other in
      ap refused_line (one_refused program_rows max_levels (kinds_in list.tokens) list r s one here)

  one_program : (text : List ℕ) (list found : TokenList) (tree another : Program) → IsLexed text list → IsLexed text found → IsParsedAs list.tokens tree
      → IsParsedAs found.tokens another
      → spelling tree ≡ spelling another
  one_program text list found tree another lexed again one other =
      let here = subst (λ (l : TokenList). IsParsedAs l.tokens another) (laws.tokens text found list again lexed) other in
      ap spelling (laws.tree list.tokens one.steps here.steps tree another one.sentence here.sentence)

  parsed_or_refused : (text : List ℕ) (list found : TokenList) (tree : Program) (r : Refusal) → IsLexed text list → IsLexed text found
      → IsParsedAs list.tokens tree
      → IsParseStop found (Refused r) → ⊥
  parsed_or_refused text list found tree r lexed again parsed stop =
      none_refused list tree r parsed (subst (λ (l : TokenList). IsParseStop l (Refused r)) (laws.tokens text found list again lexed) stop)

  pub one_output : (text one other : List ℕ) (s t : Status) → Formats text one s → Formats text other t → Same one other s t
  one_output text one other s t (too_long more) (too_long again) = (refl, refl)
  one_output text one other s t (too_long more) (stray r within stop) = absurd (omega arith)
  one_output text one other s t (too_long more) (unparsed list r within lexed stop) = absurd (omega arith)
  one_output text one other s t (too_long more) (program list tree within lexed parsed) = absurd (omega arith)
  one_output text one other s t (stray r within stop) (too_long more) = absurd (omega arith)
  one_output text one other s t (stray r within stop) (stray q inside again) = (one_stray text r q stop again, refl)
  one_output text one other s t (stray r within stop) (unparsed list q inside lexed again) = absurd (laws.apart text list (place_of r) lexed stop.1)
  one_output text one other s t (stray r within stop) (program list tree inside lexed parsed) = absurd (laws.apart text list (place_of r) lexed stop.1)
  one_output text one other s t (unparsed list r within lexed stop) (too_long more) = absurd (omega arith)
  one_output text one other s t (unparsed list r within lexed stop) (stray q inside again) = absurd (laws.apart text list (place_of q) lexed again.1)
  one_output text one other s t (unparsed list r within lexed stop) (unparsed found q inside read again) =
      (one_unparsed text list found r q lexed read stop again, refl)
  one_output text one other s t (unparsed list r within lexed stop) (program found tree inside read parsed) =
      absurd (parsed_or_refused text found list tree r read lexed parsed stop)
  one_output text one other s t (program list tree within lexed parsed) (too_long more) = absurd (omega arith)
  one_output text one other s t (program list tree within lexed parsed) (stray q inside again) = absurd (laws.apart text list (place_of q) lexed again.1)
  one_output text one other s t (program list tree within lexed parsed) (unparsed found q inside read again) =
      absurd (parsed_or_refused text list found tree q lexed read parsed again)
  one_output text one other s t (program list tree within lexed parsed) (program found another inside read again) =
      (one_program text list found tree another lexed read parsed again, refl)
