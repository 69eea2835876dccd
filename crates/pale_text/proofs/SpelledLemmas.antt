-- Tokens that stand apart are read as they are spelled.
use Rattle.std.proofs.Common.{◌≡◌, ℕ, ◌≤◌, Bool, true, false, not, List, [], ◌∷◌, ◌++◌, length, refl, sym, ◌∙◌, ap, subst, append_assoc, arith}
use Rattle.std.specs.List.{list_all, prefix_len}
use Rattle.std.specs.Char.{is_ascii_alphabetic, is_ascii_digit}
use Rattle.std.specs.Cmp.Derive.{both_true}
use Rattle.std.proofs.lemmas.List.{append-nil}
use Rattle.std.proofs.lemmas.Bool.Decides.{nat_tests}
use Rattle.pale_text.specs.declared.place.Pos.{Pos}
use Rattle.pale_text.specs.declared.token.Mark.{Mark}
use Rattle.pale_text.specs.declared.token.Mark.TheVariants as mark
use Rattle.pale_text.specs.declared.token.Token.{Token}
use Rattle.pale_text.specs.declared.token.TokenKind.{TokenKind}
use Rattle.pale_text.specs.declared.token.TokenKind.TheVariants as kind
use Rattle.pale_text.specs.Places.{first_place, place_after, place_past}
use Rattle.pale_text.specs.Spelling.{bytes_of, is_name_part, Spells}
use Rattle.pale_text.specs.Lexing.{is_gap, IsLongestPiece, token_at, Reaches, at_start, past_gap, past_token}
use Rattle.pale_text.specs.Spelled.{IsSpelled, nothing, last, more, kinds_of, IsReadAs}
use Rattle.pale_text.proofs.ListLemmas.{both, prefix_len-longest}

abbrev no_gap : ℕ → Bool
no_gap byte = not (is_gap byte)

-- ---- no gap stands in a piece

part_is_no_gap : (byte : ℕ) → is_name_part byte ≡ true → no_gap byte ≡ true
part_is_no_gap byte part = grind (arith, nat_tests)

letter_is_part : (byte : ℕ) → is_ascii_alphabetic byte ≡ true → is_name_part byte ≡ true
letter_is_part byte letter = grind (arith, nat_tests)

digit_is_part : (byte : ℕ) → is_ascii_digit byte ≡ true → is_name_part byte ≡ true
digit_is_part byte digit = grind (arith, nat_tests)

-- what passes one test passes another
all_pass : (p q : ℕ → Bool) → ((x : ℕ) → p x ≡ true → q x ≡ true) → (xs : List ℕ) → list_all p xs ≡ true → list_all q xs ≡ true
all_pass p q implies [] all = refl
all_pass p q implies (x ∷ xs) all =
    let parts : (p x ≡ true) × (list_all p xs ≡ true) = both (p x) (list_all p xs) all in
    both_true (implies x parts.0) (all_pass p q implies xs parts.1)

mark_has_no_gap : (m : Mark) → list_all no_gap (bytes_of m) ≡ true
mark_has_no_gap mark.Equivalent = refl
mark_has_no_gap mark.SameAs = refl
mark_has_no_gap mark.Implies = refl
mark_has_no_gap mark.NotSame = refl
mark_has_no_gap mark.NotEqual = refl
mark_has_no_gap mark.AndAlso = refl
mark_has_no_gap mark.OrElse = refl
mark_has_no_gap mark.Equals = refl
mark_has_no_gap mark.Bang = refl
mark_has_no_gap mark.Tilde = refl
mark_has_no_gap mark.Ampersand = refl
mark_has_no_gap mark.Bar = refl
mark_has_no_gap mark.Less = refl
mark_has_no_gap mark.Greater = refl
mark_has_no_gap mark.LeftParen = refl
mark_has_no_gap mark.RightParen = refl
mark_has_no_gap mark.LeftBracket = refl
mark_has_no_gap mark.RightBracket = refl
mark_has_no_gap mark.LeftBrace = refl
mark_has_no_gap mark.RightBrace = refl
mark_has_no_gap mark.Colon = refl
mark_has_no_gap mark.Semicolon = refl
mark_has_no_gap mark.Comma = refl
mark_has_no_gap mark.Dot = refl
mark_has_no_gap mark.Star = refl
mark_has_no_gap mark.Plus = refl
mark_has_no_gap mark.Caret = refl
mark_has_no_gap mark.Dollar = refl
mark_has_no_gap mark.At = refl
mark_has_no_gap mark.Question = refl

piece_has_no_gap : (k : TokenKind) (piece : List ℕ) → Spells k piece → list_all no_gap piece ≡ true
piece_has_no_gap (kind.Name name) [] spells = absurd spells.1
piece_has_no_gap (kind.Name name) (first ∷ others) spells =
    both_true (part_is_no_gap first (letter_is_part first spells.1.0)) (all_pass is_name_part no_gap part_is_no_gap others spells.1.1)
piece_has_no_gap (kind.Number digits) [] spells = absurd spells.1
piece_has_no_gap (kind.Number digits) (first ∷ others) spells =
    both_true (part_is_no_gap first (digit_is_part first spells.1.0))
    (all_pass is_ascii_digit no_gap (λ b d. part_is_no_gap b (digit_is_part b d)) others spells.1.1)
piece_has_no_gap (kind.Mark m) piece spells = subst (λ p. list_all no_gap p ≡ true) spells (mark_has_no_gap m)

-- ---- a piece that stands apart is the longest

-- a gap or the end
abbrev StandsApart : List ℕ → Type 0
StandsApart [] = Unit {0}
StandsApart (next ∷ _) = is_gap next ≡ true

run_before : (piece rest : List ℕ) → list_all no_gap piece ≡ true → StandsApart rest → prefix_len no_gap (piece ++ rest) ≡ length piece
run_before [] [] all apart = refl
run_before [] (next ∷ rest) all apart =
    let stops : no_gap next ≡ false = ap not apart in
    rw stops refl
run_before (x ∷ xs) rest all apart =
    let parts : (no_gap x ≡ true) × (list_all no_gap xs ≡ true) = both (no_gap x) (list_all no_gap xs) all in
    let passes : no_gap x ≡ true = parts.0 in
    let others : prefix_len no_gap (xs ++ rest) ≡ length xs = run_before xs rest parts.1 apart in
    rw passes (omega arith)

longest_apart : (k : TokenKind) (piece rest : List ℕ) → Spells k piece → StandsApart rest → IsLongestPiece k piece rest
longest_apart k piece rest spells apart = record {
  spells = spells;
  longest = λ other front after spelled e.
      let run : length front ≤ prefix_len no_gap (front ++ after) = prefix_len-longest no_gap front after (piece_has_no_gap other front spelled) in
      let same : prefix_len no_gap (front ++ after) ≡ length piece = ap (prefix_len no_gap) e ∙ run_before piece rest (piece_has_no_gap k piece spells) apart in
      omega arith;
}

-- ---- reading on

-- from such a rest of the text one comes to its end, after tokens of these kinds
record ComesToEnd (text : List ℕ) (tokens : List Token) (kinds : List TokenKind) : Type 0 where
  others : List Token
  end : Pos
  reached : Reaches text (tokens ++ others) end []
  same : kinds_of others ≡ kinds

read_on : (text : List ℕ) (kinds : List TokenKind) (left : List ℕ) → IsSpelled kinds left → (tokens : List Token) (place : Pos) →
    Reaches text tokens place left → ComesToEnd text tokens kinds
read_on text kinds left nothing tokens place reached = record {
  others = [];
  end = place;
  reached = subst (λ t. Reaches text t place []) (sym (append-nil tokens)) reached;
  same = refl;
}
read_on text kinds left (last k piece spells) tokens place reached = record {
  others = token_at place k piece ∷ [];
  end = place_past place piece;
  reached = past_token tokens place k piece [] (subst (Reaches text tokens place) (sym (append-nil piece)) reached) (longest_apart k piece [] spells tt);
  same = refl;
}
read_on text kinds left (more k piece gap later rest spells is_gap_byte spelled) tokens place reached =
    let token : Token = token_at place k piece in
    let at_gap : Reaches text (tokens ++ token ∷ []) (place_past place piece) (gap ∷ rest) =
    past_token tokens place k piece (gap ∷ rest) reached (longest_apart k piece (gap ∷ rest) spells is_gap_byte) in
    let after : Reaches text (tokens ++ token ∷ []) (place_after (place_past place piece) gap) rest = past_gap _ _ gap rest at_gap is_gap_byte in
    let end : ComesToEnd text (tokens ++ token ∷ []) later = read_on text later rest spelled (tokens ++ token ∷ []) _ after in
    record {
      others = token ∷ end.others;
      end = end.end;
      reached = subst (λ t. Reaches text t end.end []) (append_assoc tokens (token ∷ []) end.others) end.reached;
      same = ap (λ ks. k ∷ ks) end.same;
    }

pub spelled_tokens_are_read : (kinds : List TokenKind) (text : List ℕ) → IsSpelled kinds text → IsReadAs kinds text
spelled_tokens_are_read kinds text spelled =
    let end : ComesToEnd text [] kinds = read_on text kinds text spelled [] first_place at_start in
    record { list = record { tokens = end.others; end = end.end }; lexed = end.reached; same = end.same }
