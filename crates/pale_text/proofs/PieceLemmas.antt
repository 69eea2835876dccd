-- Which piece of a text is the longest.
use Rattle.std.proofs.Common.{◌≡◌, ℕ, suc, ◌+◌, ◌<◌, ◌≤◌, Bool, true, false, List, [], ◌∷◌, ◌++◌, length, take, drop, refl, sym}
use Rattle.std.proofs.Common.{◌∙◌, ap, subst, nat_eq, Some, None, arith}
use Rattle.std.specs.List.{prefix_len, starts_with, find, slice_get}
use Rattle.std.specs.Char.{is_ascii_alphabetic, is_ascii_digit}
use Rattle.std.proofs.lemmas.List.{take-append-drop, length-append}
use Rattle.std.proofs.Math.Seq.{take-append_seam}
use Rattle.std.proofs.lemmas.List.Folds.{length-prefix_len}
use Rattle.std.proofs.lemmas.List.Sums.{prefix_len-le-length}
use Rattle.std.proofs.lemmas.Bool.Decides.{nat_tests}
use Rattle.pale_text.specs.declared.piece.TheConstants.{MARKS}
use Rattle.pale_text.specs.declared.token.Mark.{Mark}
use Rattle.pale_text.specs.declared.token.TokenKind.{TokenKind}
use Rattle.pale_text.specs.declared.token.TokenKind.TheVariants as kind
use Rattle.pale_text.specs.Spelling.{bytes_of, is_name_part, Spells}
use Rattle.pale_text.specs.Lexing.{is_gap, is_hash, HasNoPiece}
use Rattle.pale_text.specs.Fronts.{HasPiece}
use Rattle.pale_text.proofs.ListLemmas.{list_all-prefix_len, prefix_len-longest, append-starts_with}
use Rattle.pale_text.proofs.MarkLemmas.{BeginsAsMark, mark_begins, place_of, MARKS-place_of, begins, find-passes, find-none}
use Rattle.pale_text.proofs.MarkLemmas.{find-longest, MARKS-longest_first, begins-append, mark_of_bytes}

-- no letter is a digit
letter_is_no_digit : (byte : ℕ) → is_ascii_alphabetic byte ≡ true → is_ascii_digit byte ≡ true → ⊥
letter_is_no_digit byte letter digit = grind (arith, nat_tests)

-- letters and digits separate no tokens and begin no comment
letter_begins_token : (byte : ℕ) → is_ascii_alphabetic byte ≡ true → (is_gap byte ≡ false) × (is_hash byte ≡ false)
letter_begins_token byte letter = (grind (arith, nat_tests), grind (arith, nat_tests))

digit_begins_token : (byte : ℕ) → is_ascii_digit byte ≡ true → (is_gap byte ≡ false) × (is_hash byte ≡ false)
digit_begins_token byte digit = (grind (arith, nat_tests), grind (arith, nat_tests))

-- the first byte of a piece, and those after it
pub record BeginsWith (piece : List ℕ) : Type 0 where
  pub first : ℕ
  pub others : List ℕ
  pub is : piece ≡ first ∷ others
  pub no_gap : is_gap first ≡ false
  pub no_hash : is_hash first ≡ false

mark_piece_begins : (bytes : List ℕ) → BeginsAsMark bytes → BeginsWith bytes
mark_piece_begins [] begins = absurd begins
mark_piece_begins (first ∷ others) begins = record { first = first; others = others; is = refl; no_gap = begins.no_gap; no_hash = begins.no_hash }

-- a piece has a first byte, which separates no tokens and begins no comment
pub piece_begins : (k : TokenKind) (piece : List ℕ) → Spells k piece → BeginsWith piece
piece_begins (kind.Name name) [] spells = absurd spells.1
piece_begins (kind.Name name) (first ∷ others) spells =
    let begins : (is_gap first ≡ false) × (is_hash first ≡ false) = letter_begins_token first spells.1.0 in
    record { first = first; others = others; is = refl; no_gap = begins.0; no_hash = begins.1 }
piece_begins (kind.Number digits) [] spells = absurd spells.1
piece_begins (kind.Number digits) (first ∷ others) spells =
    let begins : (is_gap first ≡ false) × (is_hash first ≡ false) = digit_begins_token first spells.1.0 in
    record { first = first; others = others; is = refl; no_gap = begins.0; no_hash = begins.1 }
piece_begins (kind.Mark m) piece spells = mark_piece_begins piece (subst BeginsAsMark spells (mark_begins m))

-- the first byte of a text that begins with a mark is no letter and no digit
mark_front : (bytes after : List ℕ) (first : ℕ) (others : List ℕ) → BeginsAsMark bytes → bytes ++ after ≡ first ∷ others →
    (is_ascii_alphabetic first ≡ false) × (is_ascii_digit first ≡ false)
mark_front [] after first others begins e = absurd begins
mark_front (byte ∷ bytes) after first others begins e =
    let same : byte ≡ first = cc in
    (subst (λ b. is_ascii_alphabetic b ≡ false) same begins.no_letter, subst (λ b. is_ascii_digit b ≡ false) same begins.no_digit)

-- ---- names and numbers

-- what begins a text with a letter is no longer than its longest name
name_longest : (first : ℕ) (others : List ℕ) → is_ascii_alphabetic first ≡ true →
    (other : TokenKind) (front after : List ℕ) → Spells other front → front ++ after ≡ first ∷ others → length front ≤ suc (prefix_len is_name_part others)
name_longest first others letter (kind.Name name) [] after spells e = absurd spells.1
name_longest first others letter (kind.Name name) (byte ∷ bytes) after spells e =
    let rest : bytes ++ after ≡ others = cc in
    let bound : length bytes ≤ prefix_len is_name_part others =
    subst (λ text. length bytes ≤ prefix_len is_name_part text) rest (prefix_len-longest is_name_part bytes after spells.1.1) in
    omega arith
name_longest first others letter (kind.Number digits) [] after spells e = absurd spells.1
name_longest first others letter (kind.Number digits) (byte ∷ bytes) after spells e =
    let same : first ≡ byte = cc in
    absurd (letter_is_no_digit byte (subst (λ b. is_ascii_alphabetic b ≡ true) same letter) spells.1.0)
name_longest first others letter (kind.Mark m) front after spells e =
    let no_letter : is_ascii_alphabetic first ≡ false = (mark_front front after first others (subst BeginsAsMark spells (mark_begins m)) e).0 in
    cc

-- what begins a text with a digit is no longer than its longest number
number_longest : (first : ℕ) (others : List ℕ) → is_ascii_digit first ≡ true →
    (other : TokenKind) (front after : List ℕ) → Spells other front → front ++ after ≡ first ∷ others → length front ≤ suc (prefix_len is_ascii_digit others)
number_longest first others digit (kind.Number digits) [] after spells e = absurd spells.1
number_longest first others digit (kind.Number digits) (byte ∷ bytes) after spells e =
    let rest : bytes ++ after ≡ others = cc in
    let bound : length bytes ≤ prefix_len is_ascii_digit others =
    subst (λ text. length bytes ≤ prefix_len is_ascii_digit text) rest (prefix_len-longest is_ascii_digit bytes after spells.1.1) in
    omega arith
number_longest first others digit (kind.Name name) [] after spells e = absurd spells.1
number_longest first others digit (kind.Name name) (byte ∷ bytes) after spells e =
    let same : first ≡ byte = cc in
    absurd (letter_is_no_digit byte spells.1.0 (subst (λ b. is_ascii_digit b ≡ true) same digit))
number_longest first others digit (kind.Mark m) front after spells e =
    let no_digit : is_ascii_digit first ≡ false = (mark_front front after first others (subst BeginsAsMark spells (mark_begins m)) e).1 in
    cc

-- the first byte of a text and the others
front_of : (text : List ℕ) (first : ℕ) → slice_get text 0 ≡ Some first → (others : List ℕ) × (text ≡ first ∷ others)
front_of [] first e = cc
front_of (x ∷ xs) first e = (xs, cc)

letter_in_name : (byte : ℕ) → is_ascii_alphabetic byte ≡ true → is_name_part byte ≡ true
letter_in_name byte letter = grind (arith, nat_tests)

-- a run that is the longest piece of its text
run_is_piece : (k : TokenKind) (p : ℕ → Bool) (text : List ℕ) → 0 < prefix_len p text → Spells k (take (prefix_len p text) text) →
    ((other : TokenKind) (front after : List ℕ) → Spells other front → front ++ after ≡ text → length front ≤ prefix_len p text) →
    HasPiece text k (prefix_len p text)
run_is_piece k p text positive spells bound = record {
  some = positive;
  within = prefix_len-le-length p text;
  longest = record {
    spells = spells;
    longest = λ other front after spelled e.
        rw (length-prefix_len p text) (bound other front after spelled (e ∙ take-append-drop (prefix_len p text) text));
  };
}

run_starts : (p : ℕ → Bool) (first : ℕ) (others : List ℕ) → p first ≡ true → prefix_len p (first ∷ others) ≡ suc (prefix_len p others)
run_starts p first others passes = rw passes (omega arith)

whole_name : (first : ℕ) (others : List ℕ) → is_ascii_alphabetic first ≡ true →
    HasPiece (first ∷ others) (kind.Name (take (prefix_len is_name_part (first ∷ others)) (first ∷ others))) (prefix_len is_name_part (first ∷ others))
whole_name first others letter =
    let count : prefix_len is_name_part (first ∷ others) ≡ suc (prefix_len is_name_part others) =
    run_starts is_name_part first others (letter_in_name first letter) in
    run_is_piece (kind.Name (take (prefix_len is_name_part (first ∷ others)) (first ∷ others))) is_name_part (first ∷ others) (omega arith)
    (let P : ℕ → Type 0 = λ n. Spells (kind.Name (take n (first ∷ others))) (take n (first ∷ others)) in
    subst P (sym count) (refl, (letter, list_all-prefix_len is_name_part others)))
    (λ other front after spells e. let bound : length front ≤ suc (prefix_len is_name_part others) = name_longest first
    others letter other front after spells e in omega arith)

whole_number : (first : ℕ) (others : List ℕ) → is_ascii_digit first ≡ true →
    HasPiece (first ∷ others) (kind.Number (take (prefix_len is_ascii_digit (first ∷ others)) (first ∷ others))) (prefix_len is_ascii_digit (first ∷ others))
whole_number first others digit =
    let count : prefix_len is_ascii_digit (first ∷ others) ≡ suc (prefix_len is_ascii_digit others) = run_starts is_ascii_digit first others digit in
    run_is_piece (kind.Number (take (prefix_len is_ascii_digit (first ∷ others)) (first ∷ others))) is_ascii_digit (first ∷ others) (omega arith)
    (let P : ℕ → Type 0 = λ n. Spells (kind.Number (take n (first ∷ others))) (take n (first ∷ others)) in
    subst P (sym count) (refl, (digit, list_all-prefix_len is_ascii_digit others)))
    (λ other front after spells e. let bound : length front ≤ suc (prefix_len is_ascii_digit others) = number_longest first
    others digit other front after spells e in omega arith)

-- the name parts at the front of a text that begins with a letter are its longest name
pub name_is_piece : (text : List ℕ) (first count : ℕ) (name : List ℕ) → slice_get text 0 ≡ Some first → is_ascii_alphabetic first ≡ true →
    count ≡ prefix_len is_name_part text → name ≡ take count text → HasPiece text (kind.Name name) count
name_is_piece text first count name e letter counted named =
    let start : (others : List ℕ) × (text ≡ first ∷ others) = front_of text first e in
    let P : List ℕ → Type 0 = λ t. HasPiece t (kind.Name (take (prefix_len is_name_part t) t)) (prefix_len is_name_part t) in
    let piece : HasPiece text (kind.Name (take (prefix_len is_name_part text) text)) (prefix_len is_name_part text) =
    subst P (sym start.1) (whole_name first start.0 letter) in
    rw (named, counted) piece

pub number_is_piece : (text : List ℕ) (first count : ℕ) (digits : List ℕ) → slice_get text 0 ≡ Some first → is_ascii_digit first ≡ true →
    count ≡ prefix_len is_ascii_digit text → digits ≡ take count text → HasPiece text (kind.Number digits) count
number_is_piece text first count digits e digit counted named =
    let start : (others : List ℕ) × (text ≡ first ∷ others) = front_of text first e in
    let P : List ℕ → Type 0 = λ t. HasPiece t (kind.Number (take (prefix_len is_ascii_digit t) t)) (prefix_len is_ascii_digit t) in
    let piece : HasPiece text (kind.Number (take (prefix_len is_ascii_digit text) text)) (prefix_len is_ascii_digit text) =
    subst P (sym start.1) (whole_number first start.0 digit) in
    rw (named, counted) piece

-- ---- marks

-- what spells a token at the front of a text that begins with no letter and no digit is a mark
only_marks : (first : ℕ) (others : List ℕ) → is_ascii_alphabetic first ≡ false → is_ascii_digit first ≡ false →
    (other : TokenKind) (front after : List ℕ) → Spells other front → front ++ after ≡ first ∷ others → (m : Mark) × (bytes_of m ≡ front)
only_marks first others no_letter no_digit (kind.Name name) [] after spells e = absurd spells.1
only_marks first others no_letter no_digit (kind.Name name) (byte ∷ bytes) after spells e =
    let same : first ≡ byte = cc in
    let letter : is_ascii_alphabetic first ≡ true = subst (λ b. is_ascii_alphabetic b ≡ true) (sym same) spells.1.0 in
    absurd cc
only_marks first others no_letter no_digit (kind.Number digits) [] after spells e = absurd spells.1
only_marks first others no_letter no_digit (kind.Number digits) (byte ∷ bytes) after spells e =
    let same : first ≡ byte = cc in
    let digit : is_ascii_digit first ≡ true = subst (λ b. is_ascii_digit b ≡ true) (sym same) spells.1.0 in
    absurd cc
only_marks first others no_letter no_digit (kind.Mark m) front after spells e = (m, spells)

-- the text begins with a longest mark
pub HasPiece-mark : (first : ℕ) (others : List ℕ) (m : Mark) → is_ascii_alphabetic first ≡ false → is_ascii_digit first ≡ false →
    find (λ mark. starts_with nat_eq (first ∷ others) (bytes_of mark)) MARKS ≡ Some m → HasPiece (first ∷ others) (kind.Mark m) (length (bytes_of m))
HasPiece-mark first others m no_letter no_digit found =
    let text : List ℕ = first ∷ others in
    let bytes : List ℕ = bytes_of m in
    let whole : bytes ++ drop (length bytes) text ≡ text = append-starts_with text bytes (find-passes (begins text) MARKS m found) in
    let sizes : length bytes + length (drop (length bytes) text) ≡ length text = sym (length-append bytes (drop (length bytes) text)) ∙ ap length whole in
    let front : take (length bytes) text ≡ bytes = ap (take (length bytes)) (sym whole) ∙ take-append_seam bytes (drop (length bytes) text) in
    let start : BeginsWith bytes = mark_piece_begins bytes (mark_begins m) in
    let size : length bytes ≡ suc (length start.others) = ap length start.is in
    record {
      some = omega arith;
      within = omega arith;
      longest = rw front (record {
        spells = refl;
        longest = λ other piece after spells e.
            let at_front : piece ++ after ≡ text = e ∙ whole in
            let found_mark : (n : Mark) × (bytes_of n ≡ piece) = only_marks first others no_letter no_digit other piece after spells at_front in
            let there : begins text found_mark.0 ≡ true = begins-append found_mark.0 after text (ap (λ p. p ++ after) found_mark.1 ∙ at_front) in
            let bound : length (bytes_of found_mark.0) ≤ length bytes =
            find-longest text MARKS MARKS-longest_first m found (place_of found_mark.0) found_mark.0
            (MARKS-place_of found_mark.0) there in
            subst (λ p. length p ≤ length bytes) found_mark.1 bound;
      });
    }

-- no token begins the text
pub HasNoPiece-mark : (first : ℕ) (others : List ℕ) → is_ascii_alphabetic first ≡ false → is_ascii_digit first ≡ false →
    find (λ mark. starts_with nat_eq (first ∷ others) (bytes_of mark)) MARKS ≡ None → HasNoPiece (first ∷ others)
HasNoPiece-mark first others no_letter no_digit none = λ other piece after spells e.
    let text : List ℕ = first ∷ others in
    let found_mark : (n : Mark) × (bytes_of n ≡ piece) = only_marks first others no_letter no_digit other piece after spells e in
    let there : begins text found_mark.0 ≡ true = begins-append found_mark.0 after text (ap (λ p. p ++ after) found_mark.1 ∙ e) in
    find-none (begins text) MARKS (place_of found_mark.0) found_mark.0 none (MARKS-place_of found_mark.0) there

-- no token begins a text without bytes
pub HasNoPiece-nil : HasNoPiece []
HasNoPiece-nil = λ k piece after spells e.
    let start : BeginsWith piece = piece_begins k piece spells in
    let same : start.first ∷ (start.others ++ after) ≡ [] = sym (ap (λ p. p ++ after) start.is) ∙ e in
    cc

-- what `mark_of` answers is the longest piece, or there is none, where the text begins with no letter and no digit
pub mark_is_piece : (text : List ℕ) (first count : ℕ) (m : Mark) → slice_get text 0 ≡ Some first →
    is_ascii_alphabetic first ≡ false → is_ascii_digit first ≡ false →
    find (λ mark. starts_with nat_eq text (bytes_of mark)) MARKS ≡ Some m → count ≡ length (bytes_of m) → HasPiece text (kind.Mark m) count
mark_is_piece text first count m e no_letter no_digit found counted =
    let start : (others : List ℕ) × (text ≡ first ∷ others) = front_of text first e in
    let P : List ℕ → Type 0 = λ t. find (λ mark. starts_with nat_eq t (bytes_of mark)) MARKS ≡ Some m → HasPiece t (kind.Mark m) (length (bytes_of m)) in
    let piece : HasPiece text (kind.Mark m) (length (bytes_of m)) = subst P (sym start.1) (HasPiece-mark first start.0 m no_letter no_digit) found in
    rw counted piece

pub no_mark_is_piece : (text : List ℕ) (first : ℕ) → slice_get text 0 ≡ Some first → is_ascii_alphabetic first ≡ false → is_ascii_digit first ≡ false →
    find (λ mark. starts_with nat_eq text (bytes_of mark)) MARKS ≡ None → HasNoPiece text
no_mark_is_piece text first e no_letter no_digit none =
    let start : (others : List ℕ) × (text ≡ first ∷ others) = front_of text first e in
    let P : List ℕ → Type 0 = λ t. find (λ mark. starts_with nat_eq t (bytes_of mark)) MARKS ≡ None → HasNoPiece t in
    subst P (sym start.1) (HasNoPiece-mark first start.0 no_letter no_digit) none

pub nothing_is_piece : (text : List ℕ) → slice_get text 0 ≡ None → HasNoPiece text
nothing_is_piece [] e = HasNoPiece-nil
nothing_is_piece (x ∷ xs) e = cc

-- ---- one kind for a piece

letter_is_no_mark : (m : Mark) (first : ℕ) (others : List ℕ) → is_ascii_alphabetic first ≡ true → bytes_of m ≡ first ∷ others → ⊥
letter_is_no_mark m first others letter spells =
    let no_letter : is_ascii_alphabetic first ≡ false = (subst BeginsAsMark spells (mark_begins m)).no_letter in
    cc

digit_is_no_mark : (m : Mark) (first : ℕ) (others : List ℕ) → is_ascii_digit first ≡ true → bytes_of m ≡ first ∷ others → ⊥
digit_is_no_mark m first others digit spells =
    let no_digit : is_ascii_digit first ≡ false = (subst BeginsAsMark spells (mark_begins m)).no_digit in
    cc

-- a piece spells tokens of one kind
pub Spells-one : (k l : TokenKind) (piece : List ℕ) → Spells k piece → Spells l piece → k ≡ l
Spells-one (kind.Name name) (kind.Name other) piece s t = let same : name ≡ other = s.0 ∙ sym t.0 in ap kind.Name same
Spells-one (kind.Number name) (kind.Number other) piece s t = let same : name ≡ other = s.0 ∙ sym t.0 in ap kind.Number same
Spells-one (kind.Mark m) (kind.Mark n) piece s t = ap kind.Mark (mark_of_bytes m n (s ∙ sym t))
Spells-one (kind.Name name) (kind.Number other) [] s t = absurd s.1
Spells-one (kind.Name name) (kind.Number other) (first ∷ others) s t = absurd (letter_is_no_digit first s.1.0 t.1.0)
Spells-one (kind.Number name) (kind.Name other) [] s t = absurd s.1
Spells-one (kind.Number name) (kind.Name other) (first ∷ others) s t = absurd (letter_is_no_digit first t.1.0 s.1.0)
Spells-one (kind.Name name) (kind.Mark m) [] s t = absurd s.1
Spells-one (kind.Name name) (kind.Mark m) (first ∷ others) s t = absurd (letter_is_no_mark m first others s.1.0 t)
Spells-one (kind.Mark m) (kind.Name name) [] s t = absurd t.1
Spells-one (kind.Mark m) (kind.Name name) (first ∷ others) s t = absurd (letter_is_no_mark m first others t.1.0 s)
Spells-one (kind.Number name) (kind.Mark m) [] s t = absurd s.1
Spells-one (kind.Number name) (kind.Mark m) (first ∷ others) s t = absurd (digit_is_no_mark m first others s.1.0 t)
Spells-one (kind.Mark m) (kind.Number name) [] s t = absurd t.1
Spells-one (kind.Mark m) (kind.Number name) (first ∷ others) s t = absurd (digit_is_no_mark m first others t.1.0 s)
