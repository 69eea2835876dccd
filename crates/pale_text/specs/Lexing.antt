-- Which tokens a text has, and where it has none.
use Rattle.std.specs.Prelude.{◌≡◌, ◌≢◌, ◌≤◌, ℕ, ◌==◌, ◌||◌, not, Bool, false, IsTrue, List, [], ◌∷◌, ◌++◌, length}
use Rattle.std.specs.List.{list_all}
use Rattle.pale_text.specs.declared.place.Pos.{Pos}
use Rattle.pale_text.specs.declared.token.Token.{Token}
use Rattle.pale_text.specs.declared.token.TokenKind.{TokenKind}
use Rattle.pale_text.specs.declared.token.TokenList.{TokenList}
use Rattle.pale_text.specs.declared.refusal.RefusalKind.TheVariants as refusal_kind
use Rattle.pale_text.specs.declared.refusal.TextStop.{TextStop}
use Rattle.pale_text.specs.declared.refusal.TextStop.TheVariants as stop
use Rattle.pale_text.specs.Places.{first_place, place_after, place_past}
use Rattle.pale_text.specs.Spelling.{Spells}

-- space, tab, CR and LF separate tokens
abbrev pub is_gap : ℕ → Bool
is_gap byte = byte == 32 || byte == 9 || byte == 13 || byte == 10

-- `#` (35) begins a comment
abbrev pub is_hash : ℕ → Bool
is_hash byte = byte == 35

abbrev pub is_line_end : ℕ → Bool
is_line_end byte = byte == 10

-- these bytes are a comment: `#` and any bytes but LF
abbrev pub IsComment : List ℕ → Type 0
IsComment [] = ⊥
IsComment (first ∷ others) = IsTrue (is_hash first) × IsTrue (list_all (λ byte. not (is_line_end byte)) others)

-- a comment goes on up to the next LF or the text's end
abbrev pub EndsComment : List ℕ → Type 0
EndsComment [] = Unit {0}
EndsComment (next ∷ _) = IsTrue (is_line_end next)

-- no front of this text spells a token
abbrev pub HasNoPiece : List ℕ → Type 0
HasNoPiece text = (kind : TokenKind) (front after : List ℕ) → Spells kind front → front ++ after ≢ text

-- `piece` spells a token, and no other front of the text `piece ++ rest` that spells one is longer
pub record IsLongestPiece (kind : TokenKind) (piece rest : List ℕ) : Type 0 where
  pub spells : Spells kind piece
  pub longest : (other : TokenKind) (front after : List ℕ) → Spells other front → front ++ after ≡ piece ++ rest → length front ≤ length piece

-- a token of this kind, whose spelling stands at this place
abbrev pub token_at : Pos → TokenKind → List ℕ → Token
token_at place kind piece = record { span = record { start = place; length = length piece }; kind = kind }

-- reading the text from its start one comes, after these tokens, to this place, where this much of the text is left
pub data Reaches (text : List ℕ) : List Token → Pos → List ℕ → Type 0 where
  at_start : Reaches text [] first_place text
  past_gap : (tokens : List Token) (place : Pos) (byte : ℕ) (left : List ℕ) → Reaches text tokens place (byte ∷ left) →
      IsTrue (is_gap byte) → Reaches text tokens (place_after place byte) left
  past_comment : (tokens : List Token) (place : Pos) (comment left : List ℕ) → Reaches text tokens place (comment ++ left) →
      IsComment comment → EndsComment left → Reaches text tokens (place_past place comment) left
  past_token : (tokens : List Token) (place : Pos) (kind : TokenKind) (piece left : List ℕ) → Reaches text tokens place (piece ++ left) →
      IsLongestPiece kind piece left → Reaches text (tokens ++ token_at place kind piece ∷ []) (place_past place piece) left

-- the text is read to its end: these are its tokens and the place of its end
abbrev pub IsLexed : List ℕ → TokenList → Type 0
IsLexed text list = Reaches text list.tokens list.end []

-- neither a gap nor a comment nor a token begins with this byte, which these bytes follow
pub record IsStray (byte : ℕ) (after : List ℕ) : Type 0 where
  pub no_gap : is_gap byte ≡ false
  pub no_comment : is_hash byte ≡ false
  pub no_token : HasNoPiece (byte ∷ after)

-- reading the text one comes to this place, where a byte stands that begins no gap, no comment and no token
pub record IsStrayAt (text : List ℕ) (place : Pos) : Type 0 where
  pub tokens : List Token
  pub byte : ℕ
  pub after : List ℕ
  pub reached : Reaches text tokens place (byte ∷ after)
  pub stray : IsStray byte after

-- what a stop says of the text: a refusal is `char`, at the text's stray byte, and want of memory says nothing
abbrev pub IsLexStop : List ℕ → TextStop → Type 0
IsLexStop text (stop.Refused refusal) = (refusal.kind ≡ refusal_kind.Char) × IsStrayAt text (record { line = refusal.line; column = refusal.column })
IsLexStop text stop.NoMemory = Unit {0}
