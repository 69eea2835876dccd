-- Where tokens stop being a sentence of a grammar, and how that is told of a text.
use Rattle.std.specs.Prelude.{◌≡◌, ◌⊎◌, ℕ, List, Option, Some, None, slice_get, Result, Ok, Err}
use Rattle.ll1_reader.specs.Grammars.{Rules}
use Rattle.ll1_reader.specs.Answers.{IsWrongAt, IsDeepAt}
use Rattle.pale_text.specs.declared.place.Pos.{Pos}
use Rattle.pale_text.specs.declared.refusal.Refusal.{Refusal}
use Rattle.pale_text.specs.declared.refusal.RefusalKind.{RefusalKind}
use Rattle.pale_text.specs.declared.refusal.RefusalKind.TheVariants as kind
use Rattle.pale_text.specs.declared.refusal.TextStop.{TextStop}
use Rattle.pale_text.specs.declared.refusal.TextStop.TheVariants as stop
use Rattle.pale_text.specs.declared.token.Token.{Token}
use Rattle.pale_text.specs.declared.token.TokenList.{TokenList}

-- where the token stands; behind the last one is the text's end
abbrev pub start_or : Pos → Option Token → Pos
start_or end None = end
start_or end (Some token) = token.span.start

-- the place of the token with this number, counted from 0
abbrev pub place_at : TokenList → ℕ → Pos
place_at list number = start_or list.end (slice_get list.tokens number)

module _ {N P A K : Type 0} (rules : Rules N P A K) (limit : ℕ) (kinds : List K) where
  -- `syntax` is refused at the first token with which no sentence goes on, and `deep` at the first that opens a level above
  -- the limit
  abbrev pub IsFault : ℕ → RefusalKind → Type 0
  IsFault number why = ((why ≡ kind.Syntax) × IsWrongAt rules limit kinds number) ⊎ ((why ≡ kind.Deep) × IsDeepAt rules limit kinds number)

  -- the refusal names the token at fault and its fault, where these are the kinds of the tokens
  pub record IsRefused (list : TokenList) (refusal : Refusal) : Type 0 where
    pub number : ℕ
    pub place : place_at list number ≡ record { line = refusal.line; column = refusal.column }
    pub fault : IsFault number refusal.kind

  -- what a stop says of the tokens: want of memory says nothing
  abbrev pub IsTextStop : TokenList → TextStop → Type 0
  IsTextStop list (stop.Refused refusal) = IsRefused list refusal
  IsTextStop list stop.NoMemory = Unit {0}

-- the result is this refusal, or that one stop
abbrev pub IsRefusedUnless : {T : Type 0} → Result T TextStop → Refusal → TextStop → Type 0
IsRefusedUnless (Ok value) refusal but = ⊥
IsRefusedUnless (Err why) refusal but = (why ≡ stop.Refused refusal) ⊎ (why ≡ but)
