-- How a text of words falls into lines, and a line into its words.
use Rattle.std.proofs.Common.{◌≡◌, ℕ, suc, ◌+◌, ◌<◌, ◌==◌, ◌&&◌, ◌^◌, ◌%◌, Bool, true, false, cond, List, [], ◌∷◌, ◌++◌, length, take, drop, Some}
use Rattle.std.proofs.Common.{None, refl, sym, ap, ◌∙◌, arith, position, append_assoc, codes}
use Rattle.std.specs.Option.{option_map}
use Rattle.std.specs.List.{AllByRecursion, flat_map, list_all, onto_first}
use Rattle.std.specs.Fmt.{decimal}
use Rattle.std.specs.Char.{is_ascii_digit}
use Rattle.std.proofs.lemmas.Fmt.{decimal_by_steps}
use Rattle.std.proofs.lemmas.List.{append-nil}
use Rattle.store_text.specs.Lines.{lines_of, parts_from, braced_after}
use Rattle.store_text.specs.Spelling.{is_name_part, cut_at}
use Rattle.store_core.proofs.Names.{position-cons}

-- ---- bytes

-- a letter, a digit or `_` is no mark of the store text
pub record IsPlain (b : ℕ) : Type 0 where
  pub line : (b == 10) ≡ false
  pub space : (b == 32) ≡ false
  pub open_brace : (b == 123) ≡ false
  pub close_brace : (b == 125) ≡ false
  pub equals : (b == 61) ≡ false
  pub colon : (b == 58) ≡ false

pub plain_part : (b : ℕ) → is_name_part b ≡ true → IsPlain b
plain_part b part = record {
  line = grind arith;
  space = grind arith;
  open_brace = grind arith;
  close_brace = grind arith;
  equals = grind arith;
  colon = grind arith;
}

pub digit_part : (b : ℕ) → is_ascii_digit b ≡ true → is_name_part b ≡ true
digit_part b digit = grind arith

-- only letters, digits and `_`
abbrev pub AreParts : List ℕ → Type 0
AreParts bytes = AllByRecursion (λ b. is_name_part b ≡ true) bytes

pub parts_all : (bytes : List ℕ) → list_all is_name_part bytes ≡ true → AreParts bytes
parts_all [] all = tt
parts_all (b ∷ bytes) all = let both = split (is_name_part b) (list_all is_name_part bytes) all in (both.0, parts_all bytes both.1)
  where
    split : (x y : Bool) → (x && y) ≡ true → (x ≡ true) × (y ≡ true)
    split true y e = (refl, e)
    split false y e = absurd (cc)

-- ---- lines

abbrev pub HasNoLine : List ℕ → Type 0
HasNoLine bytes = AllByRecursion (λ b. (b == 10) ≡ false) bytes

pub lines_cons : (line rest : List ℕ) → HasNoLine line → lines_of (line ++ 10 ∷ rest) ≡ line ∷ lines_of rest
lines_cons [] rest none = refl
lines_cons (b ∷ line) rest none = ap (λ t. cond t ([] ∷ lines_of (line ++ 10 ∷ rest)) (onto_first b (lines_of (line ++ 10 ∷ rest))))
    none.0 ∙ ap (onto_first b) (lines_cons line rest none.1)

-- ---- words

-- the parts with a word before the first
abbrev onto_all : List ℕ → List (List ℕ) → List (List ℕ)
onto_all [] parts = parts
onto_all (b ∷ word) parts = onto_first b (onto_all word parts)

onto_all-append : (u w : List ℕ) (parts : List (List ℕ)) → onto_all (u ++ w) parts ≡ onto_all u (onto_all w parts)
onto_all-append [] w parts = refl
onto_all-append (b ∷ u) w parts = ap (onto_first b) (onto_all-append u w parts)

onto_all-cons : (w p : List ℕ) (ps : List (List ℕ)) → onto_all w (p ∷ ps) ≡ (w ++ p) ∷ ps
onto_all-cons [] p ps = refl
onto_all-cons (b ∷ w) p ps = ap (onto_first b) (onto_all-cons w p ps)

-- a part of a line that holds no end of the line and that no space cuts
pub record IsWord (w : List ℕ) : Type 0 where
  pub line : HasNoLine w
  pub passes : (rest : List ℕ) → parts_from false (w ++ rest) ≡ onto_all w (parts_from false rest)

HasNoLine-append : (u w : List ℕ) → HasNoLine u → HasNoLine w → HasNoLine (u ++ w)
HasNoLine-append [] w one other = other
HasNoLine-append (b ∷ u) w one other = (one.0, HasNoLine-append u w one.1 other)

pub IsWord-append : (u w : List ℕ) → IsWord u → IsWord w → IsWord (u ++ w)
IsWord-append u w one other = record {
  line = HasNoLine-append u w one.line other.line;
  passes = λ rest. ap (parts_from false) (append_assoc u w rest) ∙ one.passes (w ++ rest) ∙ ap (onto_all u) (other.passes rest) ∙
      sym (onto_all-append u w (parts_from false rest));
}

-- a byte that is none of the line's marks
IsWord-byte : (b : ℕ) → (b == 10) ≡ false → (b == 32) ≡ false → (b == 123) ≡ false → (b == 125) ≡ false → IsWord (b ∷ [])
IsWord-byte b line space open_brace close_brace = record {
  line = (line, tt);
  passes = λ rest. ap (λ t. cond t ([] ∷ parts_from false rest) (onto_first b (parts_from (braced_after false b) rest))) space
      ∙ ap (λ t. onto_first b (parts_from (cond t true (cond (b == 125) false false)) rest)) open_brace
      ∙ ap (λ t. onto_first b (parts_from (cond t false false) rest)) close_brace;
}

pub IsWord-parts : (w : List ℕ) → AreParts w → IsWord w
IsWord-parts [] parts = record { line = tt; passes = λ rest. refl }
IsWord-parts (b ∷ w) parts =
    let plain = plain_part b parts.0 in
    IsWord-append (b ∷ []) w (IsWord-byte b plain.line plain.space plain.open_brace plain.close_brace) (IsWord-parts w parts.1)

pub IsWord-equals : IsWord (codes "=")
IsWord-equals = IsWord-byte 61 refl refl refl refl

pub IsWord-colon : IsWord (codes ":")
IsWord-colon = IsWord-byte 58 refl refl refl refl

-- what stands in braces is not cut
abbrev pub IsInside : List ℕ → Type 0
IsInside bytes = AllByRecursion (λ b. ((b == 10) ≡ false) × ((b == 125) ≡ false)) bytes

pub IsWord-braces : (inside : List ℕ) → IsInside inside → IsWord (123 ∷ (inside ++ 125 ∷ []))
IsWord-braces inside is = record {
  line = (refl, HasNoLine-append inside (125 ∷ []) (lines inside is) (refl, tt));
  passes = λ rest. ap (onto_first 123) (braced inside is rest);
}
  where
    lines : (inside : List ℕ) → IsInside inside → HasNoLine inside
    lines [] is = tt
    lines (b ∷ inside) is = (is.0.0, lines inside is.1)

    after : (b : ℕ) → (b == 125) ≡ false → braced_after true b ≡ true
    after b e = ap (λ t. cond (b == 123) true (cond t false true)) e ∙ both (b == 123)
      where
        both : (t : Bool) → cond t true true ≡ true
        both true = refl
        both false = refl

    braced : (inside : List ℕ) → IsInside inside → (rest : List ℕ) → parts_from true ((inside ++ 125 ∷ []) ++ rest) ≡ onto_all
        (inside ++ 125 ∷ []) (parts_from false rest)
    braced [] is rest = refl
    braced (b ∷ inside) is rest = ap (λ t. onto_first b (parts_from t ((inside ++ 125 ∷ []) ++ rest))) (after b is.0.1) ∙
        ap (onto_first b) (braced inside is.1 rest)

-- words with a space before each
abbrev pub spaced : List (List ℕ) → List ℕ
spaced words = flat_map (λ w. 32 ∷ w) words

-- a line of words falls into its words
pub parts_words : (w : List ℕ) (words : List (List ℕ)) → IsWord w → AllByRecursion IsWord words → parts_from false (w ++ spaced words) ≡ w ∷ words
parts_words w [] is all = is.passes [] ∙ onto_all-cons w [] [] ∙ ap (λ u. u ∷ []) (append-nil w)
parts_words w (u ∷ words) is all =
    is.passes (32 ∷ (u ++ spaced words)) ∙ ap (λ parts. onto_all w ([] ∷ parts)) (parts_words u words all.0 all.1) ∙
    onto_all-cons w [] (u ∷ words) ∙ ap (λ v. v ∷ u ∷ words) (append-nil w)

-- and no line ends in it
pub HasNoLine-words : (w : List ℕ) (words : List (List ℕ)) → IsWord w → AllByRecursion IsWord words → HasNoLine (w ++ spaced words)
HasNoLine-words w [] is all = HasNoLine-append w [] is.line tt
HasNoLine-words w (u ∷ words) is all = HasNoLine-append w (32 ∷ (u ++ spaced words)) is.line (refl, HasNoLine-words u words all.0 all.1)

-- ---- cutting a word

-- a byte that the front hasn't is first found after it
pub cut_front : (byte : ℕ) (front back : List ℕ) → AllByRecursion (λ b. (b == byte) ≡ false) front → (byte == byte) ≡ true →
    cut_at byte (front ++ byte ∷ back) ≡ Some (front, back)
cut_front byte front back apart same = ap (option_map (λ i. (take i (front ++ byte ∷ back), drop (i + 1) (front ++ byte ∷ back))))
    (place front back apart same) ∙ (λ j. Some (taken front back j, dropped front back j))
  where
    place : (front back : List ℕ) → AllByRecursion (λ b. (b == byte) ≡ false) front → (byte == byte) ≡ true →
        position (λ b. b == byte) (front ++ byte ∷ back) ≡ Some (length front)
    place [] back apart same = position-cons (λ b. b == byte) byte back ∙ ap (λ t. cond t (Some 0) (option_map suc (position (λ b. b == byte) back))) same
    place (b ∷ front) back apart same =
        position-cons (λ b. b == byte) b (front ++ byte ∷ back) ∙
        ap (λ t. cond t (Some 0) (option_map suc (position (λ b. b == byte) (front ++ byte ∷ back)))) apart.0
        ∙ ap (option_map suc) (place front back apart.1 same)

    taken : (front back : List ℕ) → take (length front) (front ++ byte ∷ back) ≡ front
    taken [] back = refl
    taken (b ∷ front) back = ap (λ l. b ∷ l) (taken front back)

    dropped : (front back : List ℕ) → drop (length front + 1) (front ++ byte ∷ back) ≡ back
    dropped [] back = refl
    dropped (b ∷ front) back = let e : suc (length front) + 1 ≡ suc (length front + 1) = omega arith in
        ap (λ n. drop n (b ∷ (front ++ byte ∷ back))) e ∙ dropped front back

-- a byte that a word hasn't does not cut it
pub cut_none : (byte : ℕ) (word : List ℕ) → AllByRecursion (λ b. (b == byte) ≡ false) word → cut_at byte word ≡ None
cut_none byte word apart = ap (option_map (λ i. (take i word, drop (i + 1) word))) (none word apart)
  where
    none : (word : List ℕ) → AllByRecursion (λ b. (b == byte) ≡ false) word → position (λ b. b == byte) word ≡ None
    none [] apart = refl
    none (b ∷ word) apart =
        position-cons (λ b. b == byte) b word ∙ ap (λ t. cond t (Some 0) (option_map suc (position (λ b. b == byte) word))) apart.0 ∙
        ap (option_map suc) (none word apart.1)

-- ---- digits

abbrev pub AreDigits : List ℕ → Type 0
AreDigits bytes = AllByRecursion (λ b. is_ascii_digit b ≡ true) bytes

AreDigits-push : (bytes : List ℕ) (b : ℕ) → AreDigits bytes → is_ascii_digit b ≡ true → AreDigits (bytes ++ b ∷ [])
AreDigits-push [] b all last = (last, tt)
AreDigits-push (c ∷ bytes) b all last = (all.0, AreDigits-push bytes b all.1 last)

is_digit : (d : ℕ) → d < 10 → is_ascii_digit (48 + d) ≡ true
is_digit d lt = grind arith

pub AreDigits-decimal : (n : ℕ) → n < 2 ^ 64 → AreDigits (decimal n)
AreDigits-decimal = decimal_by_steps (λ n ds. AreDigits ds) (λ n lt. (is_digit n lt, tt))
    (λ n ds le all. AreDigits-push ds (48 + n % 10) all (is_digit (n % 10) (omega arith)))

pub AreParts-digits : (bytes : List ℕ) → AreDigits bytes → AreParts bytes
AreParts-digits [] all = tt
AreParts-digits (b ∷ bytes) all = (digit_part b all.0, AreParts-digits bytes all.1)
