-- A text is read in one way.
use Rattle.std.proofs.Common.{◌≡◌, ℕ, ◌≤◌, true, false, not, IsTrue, List, [], ◌∷◌, ◌++◌, length, refl, sym, ◌∙◌, ap, subst, arith}
use Rattle.std.specs.List.{list_all}
use Rattle.pale_text.specs.declared.place.Pos.{Pos}
use Rattle.pale_text.specs.declared.token.Token.{Token}
use Rattle.pale_text.specs.declared.token.TokenKind.{TokenKind}
use Rattle.pale_text.specs.declared.token.TokenList.{TokenList}
use Rattle.pale_text.specs.Places.{first_place, place_after, place_past}
use Rattle.pale_text.specs.Spelling.{Spells}
use Rattle.pale_text.specs.Lexing.{is_gap, is_hash, is_line_end, IsComment, EndsComment, IsLongestPiece, token_at, Reaches}
use Rattle.pale_text.specs.Lexing.{at_start, past_gap, past_comment, past_token, IsLexed, IsStray, IsStrayAt}
use Rattle.pale_text.proofs.ListLemmas.{both, same_front}
use Rattle.std.proofs.lemmas.Bool.{eqb-true}
use Rattle.std.proofs.lemmas.List.{append_cancel_left}
use Rattle.pale_text.proofs.PieceLemmas.{BeginsWith, piece_begins, Spells-one}

-- where one is in a text: the tokens so far, the place, and what is left
record Where : Type 0 where
  tokens : List Token
  place : Pos
  left : List ℕ

-- one gap, comment or token is read
data Step (from to : Where) : Type 0 where
  over_gap : (byte : ℕ) → IsTrue (is_gap byte) → from.left ≡ byte ∷ to.left → to.place ≡ place_after from.place byte → to.tokens ≡ from.tokens → Step from to
  over_comment : (bytes : List ℕ) → IsComment bytes → EndsComment to.left → from.left ≡ bytes ++ to.left →
      to.place ≡ place_past from.place bytes → to.tokens ≡ from.tokens → Step from to
  over_token : (k : TokenKind) (piece : List ℕ) → IsLongestPiece k piece to.left → from.left ≡ piece ++ to.left → to.place ≡ place_past from.place piece →
      to.tokens ≡ from.tokens ++ token_at from.place k piece ∷ [] → Step from to

-- steps, one after the other
data Leads (end : Where) : Where → Type 0 where
  here : Leads end end
  on : (from next : Where) → Step from next → Leads end next → Leads end from

-- ---- one next step

no_end : (byte : ℕ) → is_line_end byte ≡ true → not (is_line_end byte) ≡ true → ⊥
no_end byte ends passes =
    let fails : not (is_line_end byte) ≡ false = ap not ends in
    cc

-- comments at the front of one text are equally long
same_comment : (xs ys left rest : List ℕ) → list_all (λ b. not (is_line_end b)) xs ≡ true → list_all (λ b. not (is_line_end b)) ys ≡ true →
    EndsComment left → EndsComment rest → xs ++ left ≡ ys ++ rest → xs ≡ ys
same_comment [] [] left rest p q a b e = refl
same_comment [] (y ∷ ys) [] rest p q a b e = cc
same_comment [] (y ∷ ys) (l ∷ left) rest p q a b e =
    let same : l ≡ y = cc in
    let ends : is_line_end y ≡ true = subst (λ c. is_line_end c ≡ true) same a in
    absurd (no_end y ends (both (not (is_line_end y)) _ q).0)
same_comment (x ∷ xs) [] left [] p q a b e = cc
same_comment (x ∷ xs) [] left (r ∷ rest) p q a b e =
    let same : r ≡ x = cc in
    let ends : is_line_end x ≡ true = subst (λ c. is_line_end c ≡ true) same b in
    absurd (no_end x ends (both (not (is_line_end x)) _ p).0)
same_comment (x ∷ xs) (y ∷ ys) left rest p q a b e =
    let same : x ≡ y = cc in
    let later : xs ++ left ≡ ys ++ rest = cc in
    let others : xs ≡ ys = same_comment xs ys left rest (both (not (is_line_end x)) _ p).1 (both (not (is_line_end y)) _ q).1 a b later in
    cc

-- the first byte of a comment is `#`
record BeginsWithHash (bytes : List ℕ) : Type 0 where
  first : ℕ
  others : List ℕ
  is : bytes ≡ first ∷ others
  hash : is_hash first ≡ true

comment_begins : (bytes : List ℕ) → IsComment bytes → BeginsWithHash bytes
comment_begins [] comment = absurd comment
comment_begins (first ∷ others) comment = record { first = first; others = others; is = refl; hash = comment.0 }

hash_is_no_gap : (byte : ℕ) → is_hash byte ≡ true → is_gap byte ≡ false
hash_is_no_gap byte hash = let is : byte ≡ 35 = eqb-true byte 35 hash in subst (λ b. is_gap b ≡ false) (sym is) refl

same_comment_bytes : (xs ys left rest : List ℕ) → IsComment xs → IsComment ys → EndsComment left → EndsComment rest → xs ++ left ≡ ys ++ rest → xs ≡ ys
same_comment_bytes [] ys left rest p q a b e = absurd p
same_comment_bytes (x ∷ xs) [] left rest p q a b e = absurd q
same_comment_bytes (x ∷ xs) (y ∷ ys) left rest p q a b e =
    let same : x ≡ y = cc in
    let later : xs ++ left ≡ ys ++ rest = cc in
    let others : xs ≡ ys = same_comment xs ys left rest p.1 q.1 a b later in
    cc

same_where : (a b : Where) → a.tokens ≡ b.tokens → a.place ≡ b.place → a.left ≡ b.left → a ≡ b
same_where a b tokens place left = λ i. record { tokens = tokens i; place = place i; left = left i }

-- a gap begins no comment and no token, and a comment begins no token
gap_or_comment : (byte : ℕ) (bytes left rest : List ℕ) → is_gap byte ≡ true → IsComment bytes → byte ∷ left ≡ bytes ++ rest → ⊥
gap_or_comment byte bytes left rest gap comment e =
    let start : BeginsWithHash bytes = comment_begins bytes comment in
    let same : byte ∷ left ≡ start.first ∷ (start.others ++ rest) = e ∙ ap (λ b. b ++ rest) start.is in
    let first : byte ≡ start.first = cc in
    let no : is_gap byte ≡ false = subst (λ b. is_gap b ≡ false) (sym first) (hash_is_no_gap start.first start.hash) in
    cc

gap_or_token : (byte : ℕ) (k : TokenKind) (piece left rest : List ℕ) → is_gap byte ≡ true → Spells k piece → byte ∷ left ≡ piece ++ rest → ⊥
gap_or_token byte k piece left rest gap spells e =
    let start : BeginsWith piece = piece_begins k piece spells in
    let same : byte ∷ left ≡ start.first ∷ (start.others ++ rest) = e ∙ ap (λ b. b ++ rest) start.is in
    let first : byte ≡ start.first = cc in
    let no : is_gap byte ≡ false = subst (λ b. is_gap b ≡ false) (sym first) start.no_gap in
    cc

comment_or_token : (bytes : List ℕ) (k : TokenKind) (piece left rest : List ℕ) → IsComment bytes → Spells k piece → bytes ++ left ≡ piece ++ rest → ⊥
comment_or_token bytes k piece left rest comment spells e =
    let begun : BeginsWithHash bytes = comment_begins bytes comment in
    let start : BeginsWith piece = piece_begins k piece spells in
    let same : begun.first ∷ (begun.others ++ left) ≡ start.first ∷ (start.others ++ rest) =
    sym (ap (λ b. b ++ left) begun.is) ∙ e ∙ ap (λ b. b ++ rest) start.is in
    let first : begun.first ≡ start.first = cc in
    let no : is_hash begun.first ≡ false = subst (λ b. is_hash b ≡ false) (sym first) start.no_hash in
    let hash : is_hash begun.first ≡ true = begun.hash in
    cc

-- the longest piece of a text is one
same_piece : (k l : TokenKind) (piece front left rest : List ℕ) → IsLongestPiece k piece left → IsLongestPiece l front rest →
    piece ++ left ≡ front ++ rest → (k ≡ l) × (piece ≡ front)
same_piece k l piece front left rest one other e =
    let below : length piece ≤ length front = other.longest k piece left one.spells e in
    let above : length front ≤ length piece = one.longest l front rest other.spells (sym e) in
    let pieces : piece ≡ front = same_front piece front left rest e (omega arith) in
    (Spells-one k l front (subst (Spells k) pieces one.spells) other.spells, pieces)

same_step : (a b c : Where) → Step a b → Step a c → b ≡ c
same_step a b c (over_gap x gx ex px tx) (over_gap y gy ey py ty) =
    let bytes : x ∷ b.left ≡ y ∷ c.left = sym ex ∙ ey in
    let left : b.left ≡ c.left = cc in
    let byte : x ≡ y = cc in
    same_where b c (tx ∙ sym ty) (px ∙ ap (place_after a.place) byte ∙ sym py) left
same_step a b c (over_gap x gx ex px tx) (over_comment ys cy dy ey py ty) = absurd (gap_or_comment x ys b.left c.left gx cy (sym ex ∙ ey))
same_step a b c (over_gap x gx ex px tx) (over_token k ys ly ey py ty) = absurd (gap_or_token x k ys b.left c.left gx ly.spells (sym ex ∙ ey))
same_step a b c (over_comment xs cx dx ex px tx) (over_gap y gy ey py ty) = absurd (gap_or_comment y xs c.left b.left gy cx (sym ey ∙ ex))
same_step a b c (over_comment xs cx dx ex px tx) (over_comment ys cy dy ey py ty) =
    let whole : xs ++ b.left ≡ ys ++ c.left = sym ex ∙ ey in
    let bytes : xs ≡ ys = same_comment_bytes xs ys b.left c.left cx cy dx dy whole in
    let left : b.left ≡ c.left = append_cancel_left xs b.left c.left (whole ∙ ap (λ w. w ++ c.left) (sym bytes)) in
    same_where b c (tx ∙ sym ty) (px ∙ ap (place_past a.place) bytes ∙ sym py) left
same_step a b c (over_comment xs cx dx ex px tx) (over_token k ys ly ey py ty) = absurd (comment_or_token xs k ys b.left c.left cx ly.spells (sym ex ∙ ey))
same_step a b c (over_token k xs lx ex px tx) (over_gap y gy ey py ty) = absurd (gap_or_token y k xs c.left b.left gy lx.spells (sym ey ∙ ex))
same_step a b c (over_token k xs lx ex px tx) (over_comment ys cy dy ey py ty) = absurd (comment_or_token ys k xs c.left b.left cy lx.spells (sym ey ∙ ex))
same_step a b c (over_token k xs lx ex px tx) (over_token l ys ly ey py ty) =
    let whole : xs ++ b.left ≡ ys ++ c.left = sym ex ∙ ey in
    let same : (k ≡ l) × (xs ≡ ys) = same_piece k l xs ys b.left c.left lx ly whole in
    let kinds : k ≡ l = same.0 in
    let bytes : xs ≡ ys = same.1 in
    let left : b.left ≡ c.left = append_cancel_left xs b.left c.left (whole ∙ ap (λ w. w ++ c.left) (sym bytes)) in
    let tokens : a.tokens ++ token_at a.place k xs ∷ [] ≡ a.tokens ++ token_at a.place l ys ∷ [] = λ i. a.tokens ++ token_at a.place (kinds i) (bytes i) ∷ [] in
    same_where b c (tx ∙ tokens ∙ sym ty) (px ∙ ap (place_past a.place) bytes ∙ sym py) left

-- ---- one end

-- nothing is read from there on
abbrev IsStuck : Where → Type 0
IsStuck a = (b : Where) → Step a b → ⊥

same_end : (c d a : Where) → Leads c a → Leads d a → IsStuck c → IsStuck d → c ≡ d
same_end c d a here here stuck_c stuck_d = refl
same_end c d a here (on _ next step later) stuck_c stuck_d = absurd (stuck_c next step)
same_end c d a (on _ next step later) here stuck_c stuck_d = absurd (stuck_d next step)
same_end c d a (on _ b one later) (on _ other_b other after) stuck_c stuck_d =
    let same : other_b ≡ b = same_step a other_b b other one in
    same_end c d b later (subst (Leads d) same after) stuck_c stuck_d

-- a step more at the end
then_step : (b c a : Where) → Leads b a → Step b c → Leads c a
then_step b c a here step = on b c step here
then_step b c a (on _ next first later) step = on a next first (then_step b c next later step)

abbrev start_of : List ℕ → Where
start_of text = record { tokens = []; place = first_place; left = text }

abbrev here_in : List Token → Pos → List ℕ → Where
here_in tokens place left = record { tokens = tokens; place = place; left = left }

Leads-Reaches : (text : List ℕ) (tokens : List Token) (place : Pos) (left : List ℕ) → Reaches text tokens place left →
    Leads (here_in tokens place left) (start_of text)
Leads-Reaches text tokens place left at_start = here
Leads-Reaches text tokens place left (past_gap _ before byte _ reached is_gap_byte) =
    then_step _ _ _ (Leads-Reaches text tokens before (byte ∷ left) reached) (over_gap byte is_gap_byte refl refl refl)
Leads-Reaches text tokens place left (past_comment _ before bytes _ reached is_comment ends) =
    then_step _ _ _ (Leads-Reaches text tokens before (bytes ++ left) reached) (over_comment bytes is_comment ends refl refl refl)
Leads-Reaches text tokens place left (past_token earlier before k piece _ reached longest) =
    then_step _ _ _ (Leads-Reaches text earlier before (piece ++ left) reached) (over_token k piece longest refl refl refl)

stuck_at_end : (a : Where) → a.left ≡ [] → IsStuck a
stuck_at_end a none b (over_gap byte gap e place tokens) =
    let same : byte ∷ b.left ≡ [] = sym e ∙ none in
    cc
stuck_at_end a none b (over_comment bytes is_comment ends e place tokens) =
    let begun : BeginsWithHash bytes = comment_begins bytes is_comment in
    let same : begun.first ∷ (begun.others ++ b.left) ≡ [] = sym (e ∙ ap (λ w. w ++ b.left) begun.is) ∙ none in
    cc
stuck_at_end a none b (over_token k piece longest e place tokens) =
    let start : BeginsWith piece = piece_begins k piece longest.spells in
    let same : start.first ∷ (start.others ++ b.left) ≡ [] = sym (e ∙ ap (λ w. w ++ b.left) start.is) ∙ none in
    cc

stuck_at_stray : (a : Where) (byte : ℕ) (after : List ℕ) → IsStray byte after → a.left ≡ byte ∷ after → IsStuck a
stuck_at_stray a byte after stray left b (over_gap gap is_gap_byte e place tokens) =
    let same : gap ∷ b.left ≡ byte ∷ after = sym e ∙ left in
    let first : gap ≡ byte = cc in
    let gap_here : is_gap byte ≡ true = subst (λ c. is_gap c ≡ true) first is_gap_byte in
    let no : is_gap byte ≡ false = stray.no_gap in
    cc
stuck_at_stray a byte after stray left b (over_comment bytes is_comment ends e place tokens) =
    let begun : BeginsWithHash bytes = comment_begins bytes is_comment in
    let same : begun.first ∷ (begun.others ++ b.left) ≡ byte ∷ after = sym (e ∙ ap (λ w. w ++ b.left) begun.is) ∙ left in
    let first : begun.first ≡ byte = cc in
    let hash_here : is_hash byte ≡ true = subst (λ c. is_hash c ≡ true) first begun.hash in
    let no : is_hash byte ≡ false = stray.no_comment in
    cc
stuck_at_stray a byte after stray left b (over_token k piece longest e place tokens) = stray.no_token k piece b.left longest.spells (sym e ∙ left)

-- ---- the laws

pub tokens_are_one : (text : List ℕ) (one other : TokenList) → IsLexed text one → IsLexed text other → one ≡ other
tokens_are_one text one other lexed again =
    let same : here_in one.tokens one.end [] ≡ here_in other.tokens other.end [] =
    same_end _ _ _ (Leads-Reaches _ _ _ _ lexed) (Leads-Reaches _ _ _ _ again) (stuck_at_end _ refl) (stuck_at_end _ refl) in
    λ i. record { tokens = (same i).tokens; end = (same i).place }

pub stray_is_one : (text : List ℕ) (one other : Pos) → IsStrayAt text one → IsStrayAt text other → one ≡ other
stray_is_one text one other stray again =
    let same : here_in stray.tokens one (stray.byte ∷ stray.after) ≡ here_in again.tokens other (again.byte ∷ again.after) =
    same_end _ _ _ (Leads-Reaches _ _ _ _ stray.reached) (Leads-Reaches _ _ _ _ again.reached)
    (stuck_at_stray _ _ _ stray.stray refl) (stuck_at_stray _ _ _ again.stray refl) in
    ap (λ w. w.place) same

pub lexed_or_stray : (text : List ℕ) (list : TokenList) (place : Pos) → IsLexed text list → IsStrayAt text place → ⊥
lexed_or_stray text list place lexed stray =
    let same : here_in list.tokens list.end [] ≡ here_in stray.tokens place (stray.byte ∷ stray.after) =
    same_end _ _ _ (Leads-Reaches _ _ _ _ lexed) (Leads-Reaches _ _ _ _ stray.reached) (stuck_at_end _ refl) (stuck_at_stray _ _ _ stray.stray refl) in
    let left : [] ≡ stray.byte ∷ stray.after = ap (λ w. w.left) same in
    cc
