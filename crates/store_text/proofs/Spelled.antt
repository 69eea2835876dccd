-- What is spelled of values and lines is read as those values and lines.
use Rattle.std.proofs.Common.{◌≡◌, ℕ, ◌<◌, ◌≤◌, ◌==◌, ◌&&◌, ◌^◌, Bool, true, false, cond, nat_le, List, [], ◌∷◌, ◌++◌, length, map, Some, None, refl}
use Rattle.std.proofs.Common.{sym, ap, ◌∙◌, arith, get_or, codes}
use Rattle.std.specs.Option.{option_map}
use Rattle.std.specs.List.{AllByRecursion, flat_map, join_by, list_all}
use Rattle.std.specs.Fmt.{decimal}
use Rattle.std.specs.Char.{is_ascii_digit, is_ascii_alphabetic}
use Rattle.std.specs.Str.{bytes_eq}
use Rattle.std.specs.Str.Parse.{digits_value_after}
use Rattle.std.proofs.lemmas.Fmt.{decimal_is_IsNumeral, decimal_nonempty, first_decimal}
use Rattle.store_core.specs.declared.ids.CellId.{CellId}
use Rattle.store_core.specs.declared.value.Value.{Value}
use Rattle.store_core.specs.declared.value.Value.TheVariants as value
use Rattle.store_text.specs.declared.read.spelled.Spelled.{Spelled}
use Rattle.store_text.specs.declared.read.spelled.Spelled.TheVariants as spelled
use Rattle.store_text.specs.StoreText.{value_text, cell_text}
use Rattle.store_text.specs.Lines.{parts_of}
use Rattle.store_text.specs.Spelling.{◌>>=◌, is_name, is_name_part, all_of, number_of, number_after, before_close, numbers_of, counted_of, value_of}
use Rattle.store_text.specs.Writable.{IsTellable, NamesTellable}
use Rattle.store_text.proofs.Words.{IsWord, IsWord-parts, IsWord-braces, IsInside, AreParts, parts_all, AreDigits, AreDigits-decimal, AreParts-digits}
use Rattle.store_text.proofs.Words.{spaced, parts_words}

-- ---- names

pub name_parts : (name : List ℕ) → is_name name ≡ true → AreParts name
name_parts [] e = absurd (cc)
name_parts (b ∷ name) e = let both = split (is_ascii_alphabetic b) (list_all is_name_part name) e in (letter b both.0, parts_all name both.1)
  where
    split : (x y : Bool) → (x && y) ≡ true → (x ≡ true) × (y ≡ true)
    split true y e = (refl, e)
    split false y e = absurd (cc)

    letter : (b : ℕ) → is_ascii_alphabetic b ≡ true → is_name_part b ≡ true
    letter b e = grind arith

-- ---- numbers

-- the first digit is none of `0`, `f`, `n`, `t` and `{`
record IsFirst (d : ℕ) : Type 0 where
  zero_digit : (d == 48) ≡ false
  letter_f : (d == 102) ≡ false
  letter_n : (d == 110) ≡ false
  letter_t : (d == 116) ≡ false
  brace : (d == 123) ≡ false

is_first : (d : ℕ) → 48 < d → is_ascii_digit d ≡ true → IsFirst d
is_first d more digit = record { zero_digit = grind arith; letter_f = grind arith; letter_n = grind arith; letter_t = grind arith; brace = grind arith }

all_digits : (bytes : List ℕ) → AreDigits bytes → list_all is_ascii_digit bytes ≡ true
all_digits [] all = refl
all_digits (b ∷ bytes) all = ap (λ t. t && list_all is_ascii_digit bytes) all.0 ∙ all_digits bytes all.1

-- the digits of a number that a text may name
record IsNumber (n : ℕ) (word : List ℕ) : Type 0 where
  first : ℕ
  others : List ℕ
  is : word ≡ first ∷ others
  start : IsFirst first
  digits : AreDigits (first ∷ others)
  stands_for : digits_value_after 10 0 (first ∷ others) ≡ n

is_number : (n : ℕ) → 1 ≤ n → n ≤ 1000000 → IsNumber n (decimal n)
is_number n low high = by (decimal n) (decimal_nonempty n small) (first_decimal n (omega arith) small) (AreDigits-decimal n small)
    ((decimal_is_IsNumeral n small).1)
  where
    small : n < 2 ^ 64
    small = omega arith

    by : (word : List ℕ) → 0 < length word → 48 < get_or word 0 0 → AreDigits word → digits_value_after 10 0 word ≡ n → IsNumber n word
    by [] some first digits value = absurd (omega arith)
    by (d ∷ ds) some first digits value = record { first = d; others = ds; is = refl; start = is_first d first digits.0; digits = digits; stands_for = value }

pub number_read : (n : ℕ) → 1 ≤ n → n ≤ 1000000 → number_of (decimal n) ≡ Some n
unfolding number_of number_after
number_read n low high =
    let is = is_number n low high in
    let ds = is.first ∷ is.others in
    let small : nat_le (digits_value_after 10 0 ds) 1000000 ≡ true = ap (λ m. nat_le m 1000000) is.stands_for ∙ le_true n high in
    ap number_of is.is
    ∙ ap (λ t. cond t None (number_after 0 ds)) is.start.zero_digit
    ∙ ap (λ t. cond (t && nat_le (digits_value_after 10 0 ds) 1000000) (Some (digits_value_after 10 0 ds)) None) (all_digits ds is.digits)
    ∙ ap (λ t. cond t (Some (digits_value_after 10 0 ds)) None) small
    ∙ ap Some is.stands_for
  where
    le_true : (n : ℕ) → n ≤ 1000000 → nat_le n 1000000 ≡ true
    le_true n le = grind arith

-- ---- values

-- a value as it is spelled
abbrev pub spelled_of : Value → Spelled
spelled_of (value.Bool b) = spelled.Truth b
spelled_of (value.Cell None) = spelled.Null
spelled_of (value.Cell (Some c)) = spelled.Number c.0
spelled_of (value.Cells cells) = spelled.Numbers (map (λ c. c.0) cells)

number_value : (n : ℕ) → 1 ≤ n → n ≤ 1000000 → value_of (decimal n) ≡ Some (spelled.Number n)
unfolding value_of counted_of
number_value n low high =
    let is = is_number n low high in
    let first = is.first in
    let others = is.others in
    ap value_of is.is
    ∙ ap (λ t. cond (t && bytes_eq others (codes "rue")) (Some (spelled.Truth true))
    (cond (bytes_eq (first ∷ others) (codes "false")) (Some (spelled.Truth false))
    (cond (bytes_eq (first ∷ others) (codes "null")) (Some spelled.Null) (counted_of (first ∷ others))))) is.start.letter_t
    ∙ ap (λ t. cond (t && bytes_eq others (codes "alse")) (Some (spelled.Truth false))
    (cond (bytes_eq (first ∷ others) (codes "null")) (Some spelled.Null) (counted_of (first ∷ others)))) is.start.letter_f
    ∙ ap (λ t. cond (t && bytes_eq others (codes "ull")) (Some spelled.Null) (counted_of (first ∷ others))) is.start.letter_n
    ∙ ap (λ t. cond t (option_map spelled.Numbers (before_close others >>= numbers_of)) (option_map spelled.Number (number_of (first ∷ others)))) is.start.brace
    ∙ ap (option_map spelled.Number) (ap number_of (sym is.is) ∙ number_read n low high)

before_close_push : (inside : List ℕ) → before_close (inside ++ 125 ∷ []) ≡ Some inside
unfolding before_close
before_close_push [] = refl
before_close_push (b ∷ []) = refl
before_close_push (b ∷ c ∷ inside) = ap (option_map (λ front. b ∷ front)) (before_close_push (c ∷ inside))

numbers_all : (cells : List CellId) → AllByRecursion IsTellable cells → all_of number_of (map cell_text cells) ≡ Some (map (λ c. c.0) cells)
numbers_all [] all = refl
numbers_all (c ∷ cells) all = ap (λ o. o >>= (λ y. option_map (λ ys. y ∷ ys) (all_of number_of (map cell_text cells))))
    (number_read c.0 all.0.0 all.0.1) ∙ ap (option_map (λ ys. c.0 ∷ ys)) (numbers_all cells all.1)

joined : (cells : List CellId) → flat_map (λ c. codes " " ++ cell_text c) cells ≡ spaced (map cell_text cells)
joined [] = refl
joined (c ∷ cells) = ap (λ rest. (32 ∷ cell_text c) ++ rest) (joined cells)

pub IsWord-cell : (c : CellId) → IsTellable c → IsWord (cell_text c)
IsWord-cell c tellable = let lt : c.0 < 2 ^ 64 = omega (arith, tellable.1) in IsWord-parts (cell_text c)
    (AreParts-digits (cell_text c) (AreDigits-decimal c.0 lt))

AreWords-cells : (cells : List CellId) → AllByRecursion IsTellable cells → AllByRecursion IsWord (map cell_text cells)
AreWords-cells [] all = tt
AreWords-cells (c ∷ cells) all = (IsWord-cell c all.0, AreWords-cells cells all.1)

-- the members of a set
abbrev members_text : List CellId → List ℕ
members_text cells = join_by cell_text (codes " ") cells

members_read : (cells : List CellId) → AllByRecursion IsTellable cells → numbers_of (members_text cells) ≡ Some (map (λ c. c.0) cells)
unfolding numbers_of
members_read [] all = refl
members_read (c ∷ cells) all =
    let is = is_number c.0 all.0.0 all.0.1 in
    let rest = flat_map (λ c. codes " " ++ cell_text c) cells in
    ap (λ w. numbers_of (w ++ rest)) is.is
    ∙ ap (λ w. all_of number_of (parts_of (w ++ rest))) (sym is.is)
    ∙ ap (λ r. all_of number_of (parts_of (cell_text c ++ r))) (joined cells)
    ∙ ap (all_of number_of) (parts_words (cell_text c) (map cell_text cells) (IsWord-cell c all.0) (AreWords-cells cells all.1))
    ∙ numbers_all (c ∷ cells) all

pub value_read : (x : Value) → NamesTellable x → value_of (value_text x) ≡ Some (spelled_of x)
unfolding value_of counted_of
value_read (value.Bool true) tellable = refl
value_read (value.Bool false) tellable = refl
value_read (value.Cell None) tellable = refl
value_read (value.Cell (Some c)) tellable = number_value c.0 tellable.0 tellable.1
value_read (value.Cells cells) tellable =
    ap (λ o. option_map spelled.Numbers (o >>= numbers_of)) (before_close_push (members_text cells)) ∙
    ap (option_map spelled.Numbers) (members_read cells tellable)

inside_digits : (bytes : List ℕ) → AreDigits bytes → IsInside bytes
inside_digits [] all = tt
inside_digits (b ∷ bytes) all = ((grind arith, grind arith), inside_digits bytes all.1)

inside-append : (u w : List ℕ) → IsInside u → IsInside w → IsInside (u ++ w)
inside-append [] w one other = other
inside-append (b ∷ u) w one other = (one.0, inside-append u w one.1 other)

inside_cell : (c : CellId) → IsTellable c → IsInside (cell_text c)
inside_cell c tellable = let lt : c.0 < 2 ^ 64 = omega (arith, tellable.1) in inside_digits (cell_text c) (AreDigits-decimal c.0 lt)

inside_members : (cells : List CellId) → AllByRecursion IsTellable cells → IsInside (members_text cells)
inside_members [] all = tt
inside_members (c ∷ cells) all = inside-append (cell_text c) _ (inside_cell c all.0) (others cells all.1)
  where
    others : (cells : List CellId) → AllByRecursion IsTellable cells → IsInside (flat_map (λ c. codes " " ++ cell_text c) cells)
    others [] all = tt
    others (d ∷ cells) all = ((refl, refl), inside-append (cell_text d) _ (inside_cell d all.0) (others cells all.1))

pub IsWord-value : (x : Value) → NamesTellable x → IsWord (value_text x)
IsWord-value (value.Bool true) tellable = IsWord-parts (codes "true") (refl, (refl, (refl, (refl, tt))))
IsWord-value (value.Bool false) tellable = IsWord-parts (codes "false") (refl, (refl, (refl, (refl, (refl, tt)))))
IsWord-value (value.Cell None) tellable = IsWord-parts (codes "null") (refl, (refl, (refl, (refl, tt))))
IsWord-value (value.Cell (Some c)) tellable = IsWord-cell c tellable
IsWord-value (value.Cells cells) tellable = IsWord-braces (members_text cells) (inside_members cells tellable)
