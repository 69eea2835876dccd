-- What one step of `lex` does.
use Rattle.std.proofs.Common.{◌≡◌, ℕ, suc, ◌+◌, ◌<◌, ◌≤◌, Bool, true, false, cond, ◌==◌, not, List, [], ◌∷◌, ◌++◌, length}
use Rattle.std.proofs.Common.{get_or, take, drop, refl, sym, ◌∙◌, subst, arith}
use Rattle.std.specs.List.{prefix_len}
use Rattle.std.proofs.lemmas.List.{take-append-drop, length-drop, length-take-le}
use Rattle.std.proofs.lemmas.List.Sums.{prefix_len-le-length}
use Rattle.pale_text.specs.declared.front.Front.TheVariants as front
use Rattle.pale_text.specs.declared.place.Pos.{Pos}
use Rattle.pale_text.specs.declared.token.Token.{Token}
use Rattle.pale_text.specs.declared.token.TokenKind.{TokenKind}
use Rattle.pale_text.specs.Places.{first_place, place_after, place_past}
use Rattle.pale_text.specs.Lexing.{is_hash, is_line_end, EndsComment, Reaches, at_start, past_gap, past_comment, past_token, IsStrayAt}
use Rattle.pale_text.specs.Fronts.{StandsFirst}
use Rattle.pale_text.proofs.ListLemmas.{list_all-prefix_len, prefix_len-stops}

-- ---- comments

abbrev in_line : ℕ → Bool
in_line byte = not (is_line_end byte)

not-false : (b : Bool) → not b ≡ false → b ≡ true
not-false true e = refl
not-false false e = cc

line_ends : (text rest : List ℕ) → drop (prefix_len in_line text) text ≡ rest → EndsComment rest
line_ends text [] e = tt
line_ends text (next ∷ more) e = not-false (is_line_end next) (prefix_len-stops in_line text next more e)

-- a text that begins with `#` begins with a comment that takes the line
pub comment_stands_first : (text : List ℕ) (count : ℕ) → 0 < length text → get_or text 0 0 ≡ 35 →
    count ≡ prefix_len (λ byte. not (is_line_end byte)) text → StandsFirst text (front.Comment count)
comment_stands_first [] count some hash counted = absurd (omega arith)
comment_stands_first (x ∷ xs) count some hash counted =
    let in_its_line : in_line x ≡ true = subst (λ b. in_line b ≡ true) (sym hash) refl in
    let is_first : is_hash x ≡ true = subst (λ b. is_hash b ≡ true) (sym hash) refl in
    let run : ℕ = prefix_len in_line xs in
    let start : prefix_len in_line (x ∷ xs) ≡ suc run = rw in_its_line (omega arith) in
    let whole : count ≡ suc run = counted ∙ start in
    let within : run ≤ length xs = prefix_len-le-length in_line xs in
    rw whole (omega arith, (is_first, list_all-prefix_len in_line xs), line_ends xs (drop run xs) refl)

-- ---- places

place_after-bounds : (place : Pos) (byte : ℕ) → ((place_after place byte).line ≤ place.line + 1) × ((place_after place byte).column ≤ place.column + 1)
place_after-bounds place byte = at (byte == 10)
  where
    at : (ends : Bool) →
        ((cond {A = Pos} ends (record { line = place.line + 1; column = 1 }) (record { line = place.line; column = place.column + 1 })).line ≤ place.line + 1)
        × ((cond {A = Pos} ends (record { line = place.line + 1; column = 1 }) (record { line = place.line; column = place.column + 1 })).column
        ≤ place.column + 1)
    at true = (omega arith, omega arith)
    at false = (omega arith, omega arith)

-- a byte adds at most one line and one column
place_past-line : (bytes : List ℕ) (place : Pos) → (place_past place bytes).line ≤ place.line + length bytes
place_past-line [] place = omega arith
place_past-line (byte ∷ bytes) place = omega (arith, (place_after-bounds place byte).0, place_past-line bytes (place_after place byte))

place_past-column : (bytes : List ℕ) (place : Pos) → (place_past place bytes).column ≤ place.column + length bytes
place_past-column [] place = omega arith
place_past-column (byte ∷ bytes) place = omega (arith, (place_after-bounds place byte).1, place_past-column bytes (place_after place byte))

-- ---- steps

-- what the loop keeps: the text is read so far, and the numbers of lines and columns stay small
pub record IsReading (text : List ℕ) (tokens : List Token) (place : Pos) (left : List ℕ) : Type 0 where
  pub reached : Reaches text tokens place left
  pub lines : place.line + length left ≤ length text + 1
  pub columns : place.column + length left ≤ length text + 1

move : (text : List ℕ) (tokens later : List Token) (place : Pos) (left : List ℕ) (count : ℕ) → IsReading text tokens place left → count ≤ length left →
    Reaches text later (place_past place (take count left)) (drop count left) → IsReading text later (place_past place (take count left)) (drop count left)
move text tokens later place left count reading within reached =
    let taken : length (take count left) ≡ count = length-take-le count left within in
    record {
      reached = reached;
      lines = omega (arith, reading.lines, place_past-line (take count left) place, length-drop count left);
      columns = omega (arith, reading.columns, place_past-column (take count left) place, length-drop count left);
    }

pub gap_read : (text : List ℕ) (tokens : List Token) (place : Pos) (left : List ℕ) → IsReading text tokens place left → StandsFirst left front.Gap →
    IsReading text tokens (place_past place (take 1 left)) (drop 1 left)
gap_read text tokens place [] reading gap = absurd gap
gap_read text tokens place (byte ∷ left) reading gap =
    move text tokens tokens place (byte ∷ left) 1 reading (omega arith) (past_gap tokens place byte left reading.reached gap)

pub comment_read : (text : List ℕ) (tokens : List Token) (place : Pos) (left : List ℕ) (count : ℕ) →
    IsReading text tokens place left → StandsFirst left (front.Comment count) →
    IsReading text tokens (place_past place (take count left)) (drop count left)
comment_read text tokens place [] count reading comment = absurd comment
comment_read text tokens place (byte ∷ left) count reading comment =
    let reached : Reaches text tokens place (take count (byte ∷ left) ++ drop count (byte ∷ left)) =
    subst (Reaches text tokens place) (sym (take-append-drop count (byte ∷ left))) reading.reached in
    move text tokens tokens place (byte ∷ left) count reading comment.0
    (past_comment tokens place (take count (byte ∷ left)) (drop count (byte ∷ left)) reached comment.1 comment.2)

pub token_read : (text : List ℕ) (tokens : List Token) (place : Pos) (left : List ℕ) (kind : TokenKind) (count : ℕ) → IsReading text tokens place left →
    StandsFirst left (front.Token kind count) →
    IsReading text (tokens ++ record { span = record { start = place; length = count }; kind = kind } ∷ [])
    (place_past place (take count left)) (drop count left)
token_read text tokens place [] kind count reading piece = absurd piece
token_read text tokens place (byte ∷ left) kind count reading piece =
    let reached : Reaches text tokens place (take count (byte ∷ left) ++ drop count (byte ∷ left)) =
    subst (Reaches text tokens place) (sym (take-append-drop count (byte ∷ left))) reading.reached in
    let size : length (take count (byte ∷ left)) ≡ count = length-take-le count (byte ∷ left) piece.within in
    let P : ℕ → Type 0 =
    λ n. Reaches text (tokens ++ record { span = record { start = place; length = n }; kind = kind } ∷ [])
    (place_past place (take count (byte ∷ left))) (drop count (byte ∷ left)) in
    move text tokens _ place (byte ∷ left) count reading piece.within
    (subst P size (past_token tokens place kind (take count (byte ∷ left)) (drop count (byte ∷ left)) reached piece.longest))

-- the text's front, where nothing has been read
pub IsReading-start : (text : List ℕ) → IsReading text [] first_place text
IsReading-start text = record { reached = at_start; lines = omega arith; columns = omega arith }

pub stray_read : (text : List ℕ) (tokens : List Token) (place : Pos) (left : List ℕ) → IsReading text tokens place left →
    StandsFirst left front.Stray → IsStrayAt text place
stray_read text tokens place [] reading stray = absurd stray
stray_read text tokens place (byte ∷ left) reading stray = record { tokens = tokens; byte = byte; after = left; reached = reading.reached; stray = stray }

-- the same, at the values that the code names
pub arrives : {text : List ℕ} {tokens after : List Token} {next : Pos} {taken rest : List ℕ} {count size : ℕ} (place : Pos) (left : List ℕ) →
    IsReading text tokens (place_past place (take size left)) (drop size left) → count ≡ size → after ≡ tokens →
    taken ≡ take count left → rest ≡ drop count left → next ≡ place_past place taken → IsReading text after next rest
arrives place left reading counted after taken rest next = rw (after, next, taken, rest, counted) reading
