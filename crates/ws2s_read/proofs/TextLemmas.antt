-- What the reader answers, step by step.
use Rattle.std.proofs.Common.{◌≡◌, ℕ, List, ◌⊎◌, inl, inr, Result, Ok, Err, IfOk, IfErr, refl, sym, ap, ◌∙◌, subst}
use Rattle.std.specs.Prelude.{IsOkUnless}
use Rattle.std.specs.Result.{IsErrAnd}
use Rattle.pale_text.specs.declared.place.Pos.{Pos}
use Rattle.pale_text.specs.declared.refusal.Refusal.{Refusal}
use Rattle.pale_text.specs.declared.refusal.TextStop.{TextStop}
use Rattle.pale_text.specs.declared.refusal.TextStop.TheVariants as stop
use Rattle.pale_text.specs.declared.token.TokenList.{TokenList}
use Rattle.pale_text.specs.Lexing.{IsLexed, IsLexStop}
use Rattle.pale_text.proofs.ReadingLemmas.{tokens_are_one, stray_is_one, lexed_or_stray}
use Rattle.ws2s_syntax.specs.declared.source.Source.{Source}
use Rattle.ws2s_syntax.specs.Checked.{Text}
use Rattle.ll1_reader.specs.Readings.{Step}
use Rattle.ws2s_parse.specs.declared.grammar.act.SourceAct.{SourceAct}
use Rattle.ws2s_parse.specs.SourceReading.{IsSource, IsShallow, IsParsedAs, IsParseStop}
use Rattle.ws2s_read.specs.Resolving.{IsStop, resolved}
use Rattle.ws2s_read.specs.TextReading.{IsReadAs, IsUnparsed, IsRefusedAs, stray, unparsed, misnamed, IsReadStop}
use Rattle.pale_text.specs.TextStops.{IsRefusedUnless}

-- ---- what a `?` passes on

pub passed-stop : {T : Type 0} (bytes : List ℕ) (r : Result T TextStop) (e : TextStop) → IsErrAnd r (λ y. y ≡ e) → IsReadStop bytes e →
    IfErr r (IsReadStop bytes)
passed-stop bytes (Ok x) e is why = absurd is
passed-stop bytes (Err y) e is why = subst (IsReadStop bytes) (sym is) why

pub passed-complete : {T : Type 0} (r : Result T TextStop) (e but : TextStop) → IsErrAnd r (λ y. y ≡ e) → e ≡ but → IsOkUnless r but
passed-complete (Ok x) e but is same = absurd is
passed-complete (Err y) e but is same = is ∙ same

pub passed-refused : {T : Type 0} (r : Result T TextStop) (e but : TextStop) (refusal : Refusal) → IsErrAnd r (λ y. y ≡ e) →
    ((e ≡ stop.Refused refusal) ⊎ (e ≡ but)) → IsRefusedUnless r refusal but
passed-refused (Ok x) e but refusal is same = absurd is
passed-refused (Err y) e but refusal is (inl same) = inl (is ∙ same)
passed-refused (Err y) e but refusal is (inr same) = inr (is ∙ same)

-- ---- tokens

pub lex-stop : (bytes : List ℕ) (e : TextStop) → IsLexStop bytes e → IsReadStop bytes e
lex-stop bytes (stop.Refused refusal) is = stray is
lex-stop bytes stop.NoMemory is = tt

-- what has tokens isn't stopped there, but for memory
pub lexed-stop : (bytes : List ℕ) (list : TokenList) (e : TextStop) → IsLexed bytes list → IsLexStop bytes e → e ≡ stop.NoMemory
lexed-stop bytes list (stop.Refused refusal) lexed is = absurd (lexed_or_stray bytes list _ lexed is.1)
lexed-stop bytes list stop.NoMemory lexed is = refl

-- a stray byte is one
stray-stop : (bytes : List ℕ) (refusal : Refusal) (e : TextStop) → IsLexStop bytes (stop.Refused refusal) → IsLexStop bytes e →
    (e ≡ stop.Refused refusal) ⊎ (e ≡ stop.NoMemory)
stray-stop bytes refusal (stop.Refused other) is is_too =
    let here : Pos = record { line = refusal.line; column = refusal.column } in
    let there : Pos = record { line = other.line; column = other.column } in
    let same : there ≡ here = stray_is_one bytes there here is_too.1 is.1 in
    let why = is_too.0 ∙ sym is.0 in
    inl (λ i. stop.Refused (record { line = (same i).line; column = (same i).column; kind = why i }))
stray-stop bytes refusal stop.NoMemory is is_too = inr refl

stray-lexed : (bytes : List ℕ) (list : TokenList) (refusal : Refusal) → IsLexed bytes list → IsLexStop bytes (stop.Refused refusal) → ⊥
stray-lexed bytes list refusal lexed is = lexed_or_stray bytes list _ lexed is.1

-- bytes that have no tokens are refused by their stray byte alone
pub refused-lexing : (bytes : List ℕ) (refusal : Refusal) (e : TextStop) → IsRefusedAs bytes refusal → IsLexStop bytes e →
    (e ≡ stop.Refused refusal) ⊎ (e ≡ stop.NoMemory)
refused-lexing bytes refusal e (stray is) why = stray-stop bytes refusal e is why
refused-lexing bytes refusal e (unparsed is) why = inr (lexed-stop bytes is.list e is.lexed why)
refused-lexing bytes refusal e (misnamed is) why = inr (lexed-stop bytes is.list e is.lexed why)

-- ---- the grammar

pub parse-stop : (bytes : List ℕ) (list : TokenList) (e : TextStop) → IsLexed bytes list → IsParseStop list e → IsReadStop bytes e
parse-stop bytes list (stop.Refused refusal) lexed is = unparsed (record { list = list; lexed = lexed; why = is })
parse-stop bytes list stop.NoMemory lexed is = tt

-- the tokens of the bytes are those that were read
pub parsed-as : (bytes : List ℕ) (list other : TokenList) (source : Source) → IsLexed bytes list → IsLexed bytes other →
    IsParsedAs other.tokens source → IsParsedAs list.tokens source
parsed-as bytes list other source lexed lexed_too parsed =
    subst (λ l. IsParsedAs l.tokens source) (tokens_are_one bytes other list lexed_too lexed) parsed

-- ---- names

pub read-text : (bytes : List ℕ) (list : TokenList) (source : Source) (r : Result Text TextStop) → IsLexed bytes list →
    IsParsedAs list.tokens source → IfOk r (λ text. resolved source ≡ Ok text) → IfOk r (IsReadAs bytes)
read-text bytes list source (Ok text) lexed parsed found =
    record { list = list; lexed = lexed; source = source; parsed = parsed; found = found }
read-text bytes list source (Err e) lexed parsed found = tt

pub read-stop : (bytes : List ℕ) (list : TokenList) (source : Source) (r : Result Text TextStop) → IsLexed bytes list →
    IsParsedAs list.tokens source → IfErr r (IsStop (resolved source)) → IfErr r (IsReadStop bytes)
read-stop bytes list source (Ok text) lexed parsed fault = tt
read-stop bytes list source (Err (stop.Refused refusal)) lexed parsed fault =
    misnamed (record { list = list; lexed = lexed; source = source; parsed = parsed; fault = fault })
read-stop bytes list source (Err stop.NoMemory) lexed parsed fault = tt

pub read-only : (source other_source : Source) (other : Text) (r : Result Text TextStop) → source ≡ other_source →
    resolved other_source ≡ Ok other → IfOk r (λ text. resolved source ≡ Ok text) → IfOk r (λ text. text ≡ other)
read-only source other_source other (Ok text) same found is =
    let both : Ok text ≡ Ok other = sym is ∙ ap resolved same ∙ found in cc
read-only source other_source other (Err e) same found is = tt

pub read-complete : (source other_source : Source) (other : Text) (r : Result Text TextStop) → source ≡ other_source →
    resolved other_source ≡ Ok other → IfErr r (IsStop (resolved source)) → IsOkUnless r stop.NoMemory
read-complete source other_source other (Ok text) same found is = tt
read-complete source other_source other (Err (stop.Refused refusal)) same found is =
    let both : Ok other ≡ Err refusal = sym found ∙ ap resolved (sym same) ∙ is in absurd cc
read-complete source other_source other (Err stop.NoMemory) same found is = refl

read-misnamed : (source other_source : Source) (refusal : Refusal) (r : Result Text TextStop) → source ≡ other_source →
    resolved other_source ≡ Err refusal → IfOk r (λ text. resolved source ≡ Ok text) → IfErr r (IsStop (resolved source)) →
    IsRefusedUnless r refusal stop.NoMemory
read-misnamed source other_source refusal (Ok text) same fault is stopped =
    let both : Ok text ≡ Err refusal = sym is ∙ ap resolved same ∙ fault in absurd cc
read-misnamed source other_source refusal (Err (stop.Refused other)) same fault is stopped =
    let both : Err other ≡ Err refusal = sym stopped ∙ ap resolved same ∙ fault in
    inl (let alike : other ≡ refusal = cc in ap stop.Refused alike)
read-misnamed source other_source refusal (Err stop.NoMemory) same fault is stopped = inr refl

-- ---- the one refusal

-- the grammar's fault is that of the tokens that were read
parse-why : (bytes : List ℕ) (list : TokenList) (refusal : Refusal) → IsLexed bytes list → (is : IsUnparsed bytes refusal) →
    IsParseStop list (stop.Refused refusal)
parse-why bytes list refusal lexed is =
    subst (λ l. IsParseStop l (stop.Refused refusal)) (tokens_are_one bytes is.list list is.lexed lexed) is.why

-- bytes whose tokens have no source tree are refused by the grammar alone
pub refused-parsing : (bytes : List ℕ) (list : TokenList) (refusal : Refusal) (e : TextStop) → IsLexed bytes list →
    ((steps : List (Step SourceAct)) (tree : Source) → IsSource list.tokens steps tree → IsShallow steps → e ≡ stop.NoMemory) →
    ((other : Refusal) → IsParseStop list (stop.Refused other) → (e ≡ stop.Refused other) ⊎ (e ≡ stop.NoMemory)) →
    IsRefusedAs bytes refusal → (e ≡ stop.Refused refusal) ⊎ (e ≡ stop.NoMemory)
refused-parsing bytes list refusal e lexed complete refused (stray is) = absurd (stray-lexed bytes list refusal lexed is)
refused-parsing bytes list refusal e lexed complete refused (unparsed is) = refused refusal (parse-why bytes list refusal lexed is)
refused-parsing bytes list refusal e lexed complete refused (misnamed is) =
    let parsed = parsed-as bytes list is.list is.source lexed is.lexed is.parsed in
    inr (complete parsed.steps is.source parsed.sentence parsed.shallow)

-- bytes whose tokens have a source tree are refused by its names alone
pub refused-names : (bytes : List ℕ) (list : TokenList) (source : Source) (refusal : Refusal) (r : Result Text TextStop) → IsLexed bytes list →
    ((steps : List (Step SourceAct)) (tree : Source) → IsSource list.tokens steps tree → source ≡ tree) →
    ((other : Refusal) → IsParseStop list (stop.Refused other) → ⊥) →
    IfOk r (λ text. resolved source ≡ Ok text) → IfErr r (IsStop (resolved source)) → IsRefusedAs bytes refusal → IsRefusedUnless r refusal stop.NoMemory
refused-names bytes list source refusal r lexed only refused text stopped (stray is) = absurd (stray-lexed bytes list refusal lexed is)
refused-names bytes list source refusal r lexed only refused text stopped (unparsed is) = absurd (refused refusal (parse-why bytes list refusal lexed is))
refused-names bytes list source refusal r lexed only refused text stopped (misnamed is) =
    let parsed = parsed-as bytes list is.list is.source lexed is.lexed is.parsed in
    read-misnamed source is.source refusal r (only parsed.steps is.source parsed.sentence) is.fault text stopped
