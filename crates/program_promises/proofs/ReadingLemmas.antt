-- A text has one reading as a program, and a text that is read isn't refused.
use Rattle.std.proofs.Common.{◌≡◌, ◌∙◌, ℕ, List, ap, subst, sym, inl, inr, Some, None}
use Rattle.ll1_reader.specs.Readings.{Step}
use Rattle.ll1_reader.proofs.CompleteLemmas.{not_deep, not_wrong}
use Rattle.pale_syntax.specs.declared.grammar.act.Act.{Act}
use Rattle.pale_syntax.specs.declared.tree.declaration.Program.{Program}
use Rattle.pale_syntax.specs.ProgramReading.{IsParsedAs, IsParseStop, IsProgram, max_levels, program_rows}
use Rattle.pale_syntax.specs.ProgramWords.{kinds_in}
use Rattle.pale_text.specs.declared.place.Pos.{Pos}
use Rattle.pale_text.specs.declared.refusal.Refusal.{Refusal}
use Rattle.pale_text.specs.declared.refusal.TextStop.TheVariants.{Refused}
use Rattle.pale_text.specs.declared.token.Token.{Token}
use Rattle.pale_text.specs.declared.token.TokenList.{TokenList}
use Rattle.pale_text.specs.Lexing.{IsLexed, IsStrayAt}
use Rattle.store_exec.specs.declared.triple.Triple.{Triple}
use Rattle.pale_types.specs.Programs.{program_fault, typed_program}
use Rattle.pale_typed.specs.TypedPrograms.{TypedProgram}
use Rattle.hoare_split.specs.Triples.{split_fault, triples_of}
use Rattle.whole_program.specs.ProgramTexts.{IsTextOf, IsReadAs, IsRefusedAs, stray, unparsed, untyped, too_long}

-- tokens that are a program with few levels aren't refused
pub none_refused : (list : TokenList) (tree : Program) (r : Refusal) → IsParsedAs list.tokens tree → IsParseStop list (Refused r) → ⊥
none_refused list tree r parsed stop =
    let kinds = kinds_in list.tokens in
    elim stop.fault [
      | inl f ↦ not_wrong program_rows max_levels kinds stop.number parsed.steps parsed.sentence.reading f.1
      | inr f ↦ not_deep program_rows max_levels kinds stop.number parsed.steps parsed.sentence.reading parsed.shallow f.1
    ]

-- what the layers below say of texts and tokens
pub record Laws : Type 0 where
  pub tokens : (text : List ℕ) (one other : TokenList) → IsLexed text one → IsLexed text other → one ≡ other
  pub apart : (text : List ℕ) (list : TokenList) (place : Pos) → IsLexed text list → IsStrayAt text place → ⊥
  pub tree : (tokens : List Token) (one other : List (Step Act)) (tree another : Program) → IsProgram tokens one tree → IsProgram tokens other another
      → tree ≡ another

module _ (laws : Laws) (text : List ℕ) where
  same_tree : (one other : Program) → IsTextOf text one → IsTextOf text other → one ≡ other
  same_tree one other a b =
      let same : a.list ≡ b.list = laws.tokens text a.list b.list a.lexed b.lexed in
      let parsed = subst (λ (l : TokenList). IsParsedAs l.tokens one) same a.parsed in
      laws.tree b.list.tokens parsed.steps b.parsed.steps one other parsed.sentence b.parsed.sentence

  pub one_reading : (program other : TypedProgram) (triples others : List Triple) → IsReadAs text program triples → IsReadAs text other others →
      (program ≡ other) × (triples ≡ others)
  one_reading program other triples others a b =
      let trees = same_tree a.tree b.tree a.written b.written in
      let programs : program ≡ other = a.typed ∙ ap typed_program trees ∙ sym b.typed in
      (programs, a.split ∙ ap triples_of programs ∙ sym b.split)

  pub read_apart : (program : TypedProgram) (triples : List Triple) (r : Refusal) → IsReadAs text program triples → IsRefusedAs text r → ⊥
  read_apart program triples r a (stray stop) = laws.apart text a.written.list _ a.written.lexed stop.1
  read_apart program triples r a (unparsed list lexed stop) =
      let same : a.written.list ≡ list = laws.tokens text a.written.list list a.written.lexed lexed in
      none_refused list a.tree r (subst (λ (l : TokenList). IsParsedAs l.tokens a.tree) same a.written.parsed) stop
  read_apart program triples r a (untyped tree written fault) =
      let bad : None ≡ Some r = sym a.no_fault ∙ ap program_fault (same_tree a.tree tree a.written written) ∙ fault in
      cc
  read_apart program triples r a (too_long tree written none fault) =
      let same = ap typed_program (same_tree a.tree tree a.written written) in
      let bad : None ≡ Some r = sym a.short ∙ ap split_fault (a.typed ∙ same) ∙ fault in
      cc
