-- Within the Peak of its text, `ws2s` gives an answer.
use Rattle.std.proofs.Common.{◌≡◌, ◌∙◌, ◌≢◌, ◌≤◌, ℕ, List, length, Ok, Err, ap, refl, subst, sym, arith, inl, inr}
use Rattle.ll1_reader.specs.Readings.{Step}
use Rattle.ll1_reader.proofs.CompleteLemmas.{not_deep, not_wrong}
use Rattle.pale_text.specs.declared.place.Pos.{Pos}
use Rattle.pale_text.specs.declared.refusal.Refusal.{Refusal}
use Rattle.pale_text.specs.declared.refusal.TextStop.TheVariants.{Refused}
use Rattle.pale_text.specs.declared.token.Token.{Token}
use Rattle.pale_text.specs.declared.token.TokenList.{TokenList}
use Rattle.pale_text.specs.Lexing.{IsLexed, IsStrayAt}
use Rattle.ws2s_syntax.specs.declared.source.Source.{Source}
use Rattle.ws2s_syntax.specs.Checked as checked
use Rattle.ws2s_parse.specs.declared.grammar.act.SourceAct.{SourceAct}
use Rattle.ws2s_parse.specs.SourceWords.{kinds_in}
use Rattle.ws2s_parse.specs.SourceReading.{IsParsedAs, IsParseStop, IsSource, max_levels, source_rows}
use Rattle.ws2s_read.specs.Resolving.{resolved}
use Rattle.ws2s_read.specs.TextReading.{IsReadAs, IsRefusedAs, stray, unparsed, misnamed}
use Rattle.ws2s_answer.specs.declared.answer.Answer.{Answer}
use Rattle.ws2s_answer.specs.declared.answer.Answer.TheVariants as answer
use Rattle.ws2s_answer.specs.Answering.{IsAnswer}
use Rattle.ws2s_answer.specs.Within.{IsPeakWithin}
use Rattle.pale_status.specs.declared.status.Status.{Status}
use Rattle.pale_status.specs.declared.status.Status.TheVariants.{Good}
use Rattle.pale_status.specs.Texts.{most_bytes}
use Rattle.pale_modes.specs.Deciding.{Decides, Says, too_long, refused, read, big, unsatisfiable, valid, satisfiable, too_large, above}
use Rattle.pale_modes.specs.Completing.{IsWithinPeak}

-- what the layers below say of texts, of tokens and of answers
pub record Laws : Type 0 where
  pub tokens : (text : List ℕ) (one other : TokenList) → IsLexed text one → IsLexed text other → one ≡ other
  pub apart : (text : List ℕ) (list : TokenList) (place : Pos) → IsLexed text list → IsStrayAt text place → ⊥
  pub source : (tokens : List Token) (one other : List (Step SourceAct)) (tree another : Source) → IsSource tokens one tree →
      IsSource tokens other another → tree ≡ another
  pub no_limit : (limit : ℕ) (text : checked.Text) (a : Answer) → IsPeakWithin limit text → IsAnswer limit text a → a ≢ answer.Limit

-- tokens that are a text with few levels aren't refused
none_refused : (list : TokenList) (tree : Source) (r : Refusal) → IsParsedAs list.tokens tree → IsParseStop list (Refused r) → ⊥
none_refused list tree r parsed stop =
    let kinds = kinds_in list.tokens in
    elim stop.fault [
      | inl f ↦ not_wrong source_rows max_levels kinds stop.number parsed.steps parsed.sentence.reading f.1
      | inr f ↦ not_deep source_rows max_levels kinds stop.number parsed.steps parsed.sentence.reading parsed.shallow f.1
    ]

module _ (laws : Laws) (text : List ℕ) (tree : checked.Text) (a : IsReadAs text tree) where
  -- ---- a text has one reading

  same_source : (list : TokenList) (source : Source) → IsLexed text list → IsParsedAs list.tokens source → a.source ≡ source
  same_source list source lexed parsed =
      let same : a.list ≡ list = laws.tokens text a.list list a.lexed lexed in
      let here = subst (λ (l : TokenList). IsParsedAs l.tokens a.source) same a.parsed in
      laws.source list.tokens here.steps parsed.steps a.source source here.sentence parsed.sentence

  one_tree : (other : checked.Text) → IsReadAs text other → tree ≡ other
  one_tree other b =
      let both : Ok tree ≡ Ok other = sym a.found ∙ ap resolved (same_source b.list b.source b.lexed b.parsed) ∙ b.found in
      cc

  not_refused : (r : Refusal) → IsRefusedAs text r → ⊥
  not_refused r (stray stop) = laws.apart text a.list _ a.lexed stop.1
  not_refused r (unparsed why) =
      let same : a.list ≡ why.list = laws.tokens text a.list why.list a.lexed why.lexed in
      none_refused why.list a.source r (subst (λ (l : TokenList). IsParsedAs l.tokens a.source) same a.parsed) why.why
  not_refused r (misnamed why) =
      let bad : Ok tree ≡ Err r = sym a.found ∙ ap resolved (same_source why.list why.source why.lexed why.parsed) ∙ why.fault in
      absurd (cc)

-- ---- within the Peak

module _ (laws : Laws) (limit : ℕ) (text : List ℕ) (tree : checked.Text) (within : IsWithinPeak limit text tree) where
  said_good : (output : List ℕ) (status : Status) → Says limit tree output status → status ≡ Good
  said_good _ _ (big not_small) = absurd (not_small within.small)
  said_good _ _ (unsatisfiable small is) = refl
  said_good _ _ (valid small is) = refl
  said_good _ _ (satisfiable nodes lines small is example) = refl
  said_good _ _ (too_large small is) = refl
  said_good _ _ (above small is) = absurd (laws.no_limit limit tree answer.Limit within.within is refl)

  pub decided : (output : List ℕ) (status : Status) → length text ≤ most_bytes → Decides limit text output status →
      Says limit tree output status × (status ≡ Good)
  decided _ _ short (too_long more) = absurd (omega (arith, more, short))
  decided _ _ short (refused r most stop) = absurd (not_refused laws text tree within.read r stop)
  decided _ _ short (read other written status most is says) =
      let same = one_tree laws text tree within.read other is in
      let here = subst (λ (x : checked.Text). Says limit x written status) (sym same) says in
      (here, said_good written status here)
