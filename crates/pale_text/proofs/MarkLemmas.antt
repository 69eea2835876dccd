-- What holds of each mark, and of the table of marks.
use Rattle.std.proofs.Common.{◌≡◌, ℕ, zero, suc, ◌≤◌, Bool, true, false, cond, ◌&&◌, List, [], ◌∷◌, ◌++◌, length, refl, sym, ◌∙◌}
use Rattle.std.proofs.Common.{ap, subst, nat_eq, nat_le, Some, None, arith}
use Rattle.std.specs.List.{list_all, starts_with, find, slice_get}
use Rattle.std.specs.Char.{is_ascii_alphabetic, is_ascii_digit}
use Rattle.std.specs.Str.{bytes_eq}
use borrow.Author.Tests.{leb-true}
use Rattle.pale_text.specs.declared.piece.TheConstants.{MARKS}
use Rattle.pale_text.specs.declared.token.Mark.{Mark}
use Rattle.pale_text.specs.declared.token.Mark.TheVariants as mark
use Rattle.pale_text.specs.Spelling.{bytes_of}
use Rattle.pale_text.specs.Lexing.{is_gap, is_hash}
use Rattle.pale_text.proofs.ListLemmas.{both, starts_with-append}

-- what the first byte of a mark is not
pub record IsMarkByte (byte : ℕ) : Type 0 where
  pub no_letter : is_ascii_alphabetic byte ≡ false
  pub no_digit : is_ascii_digit byte ≡ false
  pub no_gap : is_gap byte ≡ false
  pub no_hash : is_hash byte ≡ false

-- a list with such a first byte
abbrev pub BeginsAsMark : List ℕ → Type 0
BeginsAsMark [] = ⊥
BeginsAsMark (byte ∷ _) = IsMarkByte byte

-- no mark begins as a name, a number, a gap or a comment
pub mark_begins : (m : Mark) → BeginsAsMark (bytes_of m)
mark_begins mark.Equivalent = record { no_letter = refl; no_digit = refl; no_gap = refl; no_hash = refl }
mark_begins mark.SameAs = record { no_letter = refl; no_digit = refl; no_gap = refl; no_hash = refl }
mark_begins mark.Implies = record { no_letter = refl; no_digit = refl; no_gap = refl; no_hash = refl }
mark_begins mark.NotSame = record { no_letter = refl; no_digit = refl; no_gap = refl; no_hash = refl }
mark_begins mark.NotEqual = record { no_letter = refl; no_digit = refl; no_gap = refl; no_hash = refl }
mark_begins mark.AndAlso = record { no_letter = refl; no_digit = refl; no_gap = refl; no_hash = refl }
mark_begins mark.OrElse = record { no_letter = refl; no_digit = refl; no_gap = refl; no_hash = refl }
mark_begins mark.Equals = record { no_letter = refl; no_digit = refl; no_gap = refl; no_hash = refl }
mark_begins mark.Bang = record { no_letter = refl; no_digit = refl; no_gap = refl; no_hash = refl }
mark_begins mark.Tilde = record { no_letter = refl; no_digit = refl; no_gap = refl; no_hash = refl }
mark_begins mark.Ampersand = record { no_letter = refl; no_digit = refl; no_gap = refl; no_hash = refl }
mark_begins mark.Bar = record { no_letter = refl; no_digit = refl; no_gap = refl; no_hash = refl }
mark_begins mark.Less = record { no_letter = refl; no_digit = refl; no_gap = refl; no_hash = refl }
mark_begins mark.Greater = record { no_letter = refl; no_digit = refl; no_gap = refl; no_hash = refl }
mark_begins mark.LeftParen = record { no_letter = refl; no_digit = refl; no_gap = refl; no_hash = refl }
mark_begins mark.RightParen = record { no_letter = refl; no_digit = refl; no_gap = refl; no_hash = refl }
mark_begins mark.LeftBracket = record { no_letter = refl; no_digit = refl; no_gap = refl; no_hash = refl }
mark_begins mark.RightBracket = record { no_letter = refl; no_digit = refl; no_gap = refl; no_hash = refl }
mark_begins mark.LeftBrace = record { no_letter = refl; no_digit = refl; no_gap = refl; no_hash = refl }
mark_begins mark.RightBrace = record { no_letter = refl; no_digit = refl; no_gap = refl; no_hash = refl }
mark_begins mark.Colon = record { no_letter = refl; no_digit = refl; no_gap = refl; no_hash = refl }
mark_begins mark.Semicolon = record { no_letter = refl; no_digit = refl; no_gap = refl; no_hash = refl }
mark_begins mark.Comma = record { no_letter = refl; no_digit = refl; no_gap = refl; no_hash = refl }
mark_begins mark.Dot = record { no_letter = refl; no_digit = refl; no_gap = refl; no_hash = refl }
mark_begins mark.Star = record { no_letter = refl; no_digit = refl; no_gap = refl; no_hash = refl }
mark_begins mark.Plus = record { no_letter = refl; no_digit = refl; no_gap = refl; no_hash = refl }
mark_begins mark.Caret = record { no_letter = refl; no_digit = refl; no_gap = refl; no_hash = refl }
mark_begins mark.Dollar = record { no_letter = refl; no_digit = refl; no_gap = refl; no_hash = refl }
mark_begins mark.At = record { no_letter = refl; no_digit = refl; no_gap = refl; no_hash = refl }
mark_begins mark.Question = record { no_letter = refl; no_digit = refl; no_gap = refl; no_hash = refl }

-- where a mark stands in the table
pub place_of : Mark → ℕ
place_of mark.Equivalent = 0
place_of mark.SameAs = 1
place_of mark.Implies = 2
place_of mark.NotSame = 3
place_of mark.NotEqual = 4
place_of mark.AndAlso = 5
place_of mark.OrElse = 6
place_of mark.Equals = 7
place_of mark.Bang = 8
place_of mark.Tilde = 9
place_of mark.Ampersand = 10
place_of mark.Bar = 11
place_of mark.Less = 12
place_of mark.Greater = 13
place_of mark.LeftParen = 14
place_of mark.RightParen = 15
place_of mark.LeftBracket = 16
place_of mark.RightBracket = 17
place_of mark.LeftBrace = 18
place_of mark.RightBrace = 19
place_of mark.Colon = 20
place_of mark.Semicolon = 21
place_of mark.Comma = 22
place_of mark.Dot = 23
place_of mark.Star = 24
place_of mark.Plus = 25
place_of mark.Caret = 26
place_of mark.Dollar = 27
place_of mark.At = 28
place_of mark.Question = 29

-- it stands there
pub MARKS-place_of : (m : Mark) → slice_get MARKS (place_of m) ≡ Some m
unfolding place_of
MARKS-place_of mark.Equivalent = refl
MARKS-place_of mark.SameAs = refl
MARKS-place_of mark.Implies = refl
MARKS-place_of mark.NotSame = refl
MARKS-place_of mark.NotEqual = refl
MARKS-place_of mark.AndAlso = refl
MARKS-place_of mark.OrElse = refl
MARKS-place_of mark.Equals = refl
MARKS-place_of mark.Bang = refl
MARKS-place_of mark.Tilde = refl
MARKS-place_of mark.Ampersand = refl
MARKS-place_of mark.Bar = refl
MARKS-place_of mark.Less = refl
MARKS-place_of mark.Greater = refl
MARKS-place_of mark.LeftParen = refl
MARKS-place_of mark.RightParen = refl
MARKS-place_of mark.LeftBracket = refl
MARKS-place_of mark.RightBracket = refl
MARKS-place_of mark.LeftBrace = refl
MARKS-place_of mark.RightBrace = refl
MARKS-place_of mark.Colon = refl
MARKS-place_of mark.Semicolon = refl
MARKS-place_of mark.Comma = refl
MARKS-place_of mark.Dot = refl
MARKS-place_of mark.Star = refl
MARKS-place_of mark.Plus = refl
MARKS-place_of mark.Caret = refl
MARKS-place_of mark.Dollar = refl
MARKS-place_of mark.At = refl
MARKS-place_of mark.Question = refl

-- looked up by its spelling, a mark is found
find-bytes_of : (m : Mark) → find (λ other. bytes_eq (bytes_of other) (bytes_of m)) MARKS ≡ Some m
find-bytes_of mark.Equivalent = refl
find-bytes_of mark.SameAs = refl
find-bytes_of mark.Implies = refl
find-bytes_of mark.NotSame = refl
find-bytes_of mark.NotEqual = refl
find-bytes_of mark.AndAlso = refl
find-bytes_of mark.OrElse = refl
find-bytes_of mark.Equals = refl
find-bytes_of mark.Bang = refl
find-bytes_of mark.Tilde = refl
find-bytes_of mark.Ampersand = refl
find-bytes_of mark.Bar = refl
find-bytes_of mark.Less = refl
find-bytes_of mark.Greater = refl
find-bytes_of mark.LeftParen = refl
find-bytes_of mark.RightParen = refl
find-bytes_of mark.LeftBracket = refl
find-bytes_of mark.RightBracket = refl
find-bytes_of mark.LeftBrace = refl
find-bytes_of mark.RightBrace = refl
find-bytes_of mark.Colon = refl
find-bytes_of mark.Semicolon = refl
find-bytes_of mark.Comma = refl
find-bytes_of mark.Dot = refl
find-bytes_of mark.Star = refl
find-bytes_of mark.Plus = refl
find-bytes_of mark.Caret = refl
find-bytes_of mark.Dollar = refl
find-bytes_of mark.At = refl
find-bytes_of mark.Question = refl

-- marks of one spelling are one
pub mark_of_bytes : (m n : Mark) → bytes_of m ≡ bytes_of n → m ≡ n
mark_of_bytes m n same =
    let one : Some m ≡ Some n = sym (find-bytes_of m) ∙ ap (λ bytes. find (λ other. bytes_eq (bytes_of other) bytes) MARKS) same ∙ find-bytes_of n in
    cc

-- ---- the first mark of the table that begins a text

-- the mark begins the text
abbrev pub begins : List ℕ → Mark → Bool
begins text m = starts_with nat_eq text (bytes_of m)

-- no mark of the list is longer than one before it
abbrev pub is_longest_first : List Mark → Bool
is_longest_first [] = true
is_longest_first (m ∷ ms) = list_all (λ other. nat_le (length (bytes_of other)) (length (bytes_of m))) ms && is_longest_first ms

-- a test that the whole list passes is passed at each place
passes_at : (p : Mark → Bool) (ms : List Mark) (k : ℕ) (m : Mark) → list_all p ms ≡ true → slice_get ms k ≡ Some m → p m ≡ true
passes_at p [] k m all there = cc
passes_at p (x ∷ xs) zero m all there =
    let same : x ≡ m = cc in
    subst (λ y. p y ≡ true) same (both (p x) (list_all p xs) all).0
passes_at p (x ∷ xs) (suc k) m all there = passes_at p xs k m (both (p x) (list_all p xs) all).1 there

-- what is found passes
pub find-passes : (p : Mark → Bool) (ms : List Mark) (found : Mark) → find p ms ≡ Some found → p found ≡ true
find-passes p [] found e = cc
find-passes p (x ∷ xs) found e = at (p x) refl (find-passes p xs found) e
  where
    at : (v : Bool) → p x ≡ v → (find p xs ≡ Some found → p found ≡ true) → cond v (Some x) (find p xs) ≡ Some found → p found ≡ true
    at true here later is =
        let same : x ≡ found = cc in
        subst (λ y. p y ≡ true) same here
    at false here later is = later is

-- where nothing is found, nothing passes
pub find-none : (p : Mark → Bool) (ms : List Mark) (k : ℕ) (m : Mark) → find p ms ≡ None → slice_get ms k ≡ Some m → p m ≡ true → ⊥
find-none p [] k m e there passes = cc
find-none p (x ∷ xs) k m e there passes = at (p x) refl (λ later_is j. find-none p xs j m later_is) k e there
  where
    at : (v : Bool) → p x ≡ v → (find p xs ≡ None → (j : ℕ) → slice_get xs j ≡ Some m → p m ≡ true → ⊥) → (j : ℕ) →
        cond v (Some x) (find p xs) ≡ None → slice_get (x ∷ xs) j ≡ Some m → ⊥
    at true here later j is at_j = cc
    at false here later zero is at_j =
        let same : m ≡ x = cc in
        let fails : p m ≡ false = subst (λ y. p y ≡ false) (sym same) here in
        cc
    at false here later (suc j) is at_j = later is j at_j passes

-- the first mark of such a list that begins a text is the longest that does
pub find-longest : (text : List ℕ) (ms : List Mark) → is_longest_first ms ≡ true → (found : Mark) → find (begins text) ms ≡ Some found →
    (k : ℕ) (other : Mark) → slice_get ms k ≡ Some other → begins text other ≡ true → length (bytes_of other) ≤ length (bytes_of found)
find-longest text [] sorted found e k other there begun = cc
find-longest text (x ∷ xs) sorted found e k other there begun =
    at (begins text x) refl (λ is j at_j. find-longest text xs order.1 found is j other at_j begun) k e there
  where
    order : (list_all (λ m. nat_le (length (bytes_of m)) (length (bytes_of x))) xs ≡ true) × (is_longest_first xs ≡ true)
    order = both _ (is_longest_first xs) sorted

    at : (v : Bool) → begins text x ≡ v →
        (find (begins text) xs ≡ Some found → (j : ℕ) → slice_get xs j ≡ Some other → length (bytes_of other) ≤ length (bytes_of found)) →
        (j : ℕ) → cond v (Some x) (find (begins text) xs) ≡ Some found → slice_get (x ∷ xs) j ≡ Some other → length (bytes_of other) ≤ length (bytes_of found)
    at true here later zero is at_j =
        let same : other ≡ found = cc in
        rw same (omega arith)
    at true here later (suc j) is at_j =
        let same : x ≡ found = cc in
        let shorter : nat_le (length (bytes_of other)) (length (bytes_of x)) ≡ true =
        passes_at (λ m. nat_le (length (bytes_of m)) (length (bytes_of x))) xs j other order.0 at_j in
        subst (λ m. length (bytes_of other) ≤ length (bytes_of m)) same (leb-true _ _ shorter)
    at false here later zero is at_j =
        let same : x ≡ other = cc in
        let fails : begins text other ≡ false = subst (λ m. begins text m ≡ false) same here in
        cc
    at false here later (suc j) is at_j = later is j at_j

-- the table is such a list
pub MARKS-longest_first : is_longest_first MARKS ≡ true
MARKS-longest_first = refl

-- a mark in front of a text begins it
pub begins-append : (m : Mark) (after text : List ℕ) → bytes_of m ++ after ≡ text → begins text m ≡ true
begins-append m after text e = subst (λ whole. starts_with nat_eq whole (bytes_of m) ≡ true) e (starts_with-append (bytes_of m) after)
