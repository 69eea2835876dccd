-- How names, numbers and values are spelled in a store text, and which forms its lines have.
use Rattle.std.specs.Prelude.{ℕ, ◌+◌, ◌==◌, ◌&&◌, ◌||◌, nat_le, Bool, true, false, List, [], ◌∷◌, take, drop, Option, Some, None, option_map}
use Rattle.std.specs.Prelude.{position, if◌then◌else◌, codes}
use Rattle.std.specs.Option.{option_map_or}
use Rattle.std.specs.List.{list_all}
use Rattle.std.specs.Char.{is_ascii_alphabetic, is_ascii_alphanumeric, is_ascii_digit}
use Rattle.std.specs.Str.{bytes_eq}
use Rattle.std.specs.Str.Parse.{digits_value_after}
use Rattle.store_text.specs.declared.read.spelled.Spelled.{Spelled}
use Rattle.store_text.specs.declared.read.spelled.Spelled.TheVariants as spelled
use Rattle.store_text.specs.declared.read.spelled.Given.{Given}
use Rattle.store_text.specs.declared.read.spelled.Line.{Line}
use Rattle.store_text.specs.declared.read.spelled.Line.TheVariants as line
use Rattle.store_text.specs.Lines.{parts_of}

infixl 10 ◌>>=◌
abbrev pub ◌>>=◌ : {A B : Type 0} → Option A → (A → Option B) → Option B
None >>= f = None
(Some x) >>= f = f x

-- what all of them spell, where each of them spells something
abbrev pub all_of : {A B : Type 0} → (A → Option B) → List A → Option (List B)
all_of f [] = Some []
all_of f (x ∷ xs) = f x >>= (λ y. option_map (λ ys. y ∷ ys) (all_of f xs))

-- what stands before and after the first such byte
abbrev pub cut_at : ℕ → List ℕ → Option (List ℕ × List ℕ)
cut_at byte word = option_map (λ i. (take i word, drop (i + 1) word)) (position (λ b. b == byte) word)

-- ---- names and numbers

-- a letter, a digit or `_` (95), which may stand in a name after its first byte
abbrev pub is_name_part : ℕ → Bool
is_name_part byte = is_ascii_alphanumeric byte || byte == 95

-- a name is a letter followed by letters, digits and `_`
abbrev pub is_name : List ℕ → Bool
is_name [] = false
is_name (first ∷ others) = is_ascii_alphabetic first && list_all is_name_part others

-- the name that a word is
unfoldable pub name_of : List ℕ → Option (List ℕ)
name_of word = if is_name word then Some word else None

-- the number that digits stand for where they follow those of `front`, if it is at most 1,000,000
unfoldable pub number_after : ℕ → List ℕ → Option ℕ
number_after front digits =
    if list_all is_ascii_digit digits && nat_le (digits_value_after 10 front digits) 1000000 then Some (digits_value_after 10 front digits) else None

-- the number that a word spells: 1 to 1,000,000, without a leading `0` (48)
unfoldable pub number_of : List ℕ → Option ℕ
number_of [] = None
number_of (first ∷ others) = if first == 48 then None else number_after 0 (first ∷ others)

-- ---- values

-- what stands before a `}` (125) that comes last
unfoldable pub before_close : List ℕ → Option (List ℕ)
before_close [] = None
before_close (byte ∷ []) = if byte == 125 then Some [] else None
before_close (byte ∷ next ∷ bytes) = option_map (λ front. byte ∷ front) (before_close (next ∷ bytes))

-- the numbers in braces, separated by single spaces
unfoldable pub numbers_of : List ℕ → Option (List ℕ)
numbers_of [] = Some []
numbers_of (byte ∷ bytes) = all_of number_of (parts_of (byte ∷ bytes))

-- a word that begins with `{` (123) ends with `}`, and between them stand numbers; another word is a number
unfoldable pub counted_of : List ℕ → Option Spelled
counted_of [] = None
counted_of (first ∷ others) =
    if first == 123 then option_map spelled.Numbers (before_close others >>= numbers_of) else option_map spelled.Number (number_of (first ∷ others))

-- the value that a word spells
unfoldable pub value_of : List ℕ → Option Spelled
value_of word =
    if bytes_eq word (codes "true") then Some (spelled.Truth true)
    else (if bytes_eq word (codes "false") then Some (spelled.Truth false)
    else (if bytes_eq word (codes "null") then Some spelled.Null
    else counted_of word))

-- ---- the forms of lines

-- a name and a value
unfoldable pub given_of : List ℕ → List ℕ → Option Given
given_of name value = do
  n ← name_of name
  v ← value_of value
  Some (record { name = n; value = v })

-- `F=VALUE`; `=` is 61
unfoldable pub field_of : List ℕ → Option Given
field_of word = cut_at 61 word >>= (λ cut. given_of cut.0 cut.1)

-- `V`, the name of a variant
unfoldable pub variant_of : List ℕ → List ℕ → Option (List ℕ × Option (List ℕ))
variant_of ty variant = do
  t ← name_of ty
  v ← name_of variant
  Some (t, Some v)

-- `T`, or `T:V` for a named variant; `:` is 58
unfoldable pub type_of : List ℕ → Option (List ℕ × Option (List ℕ))
type_of word = option_map_or (λ cut. variant_of cut.0 cut.1) (cut_at 58 word) (option_map (λ t. (t, None)) (name_of word))

-- `NAME VALUE`, after `var`
unfoldable pub var_line : List (List ℕ) → Option Line
var_line (name ∷ value ∷ []) = option_map line.Var (given_of name value)
var_line _ = None

-- a number, a type and fields
unfoldable pub cell_in : List ℕ → List ℕ → List (List ℕ) → Option Line
cell_in number ty fields = do
  n ← number_of number
  t ← type_of ty
  fs ← all_of field_of fields
  Some (line.Cell (record { number = n; ty = t.0; variant = t.1; fields = fs }))

-- `N TYPE F=VALUE ..`, after `cell`
unfoldable pub cell_line : List (List ℕ) → Option Line
cell_line (number ∷ ty ∷ fields) = cell_in number ty fields
cell_line _ = None

-- `var NAME VALUE` or `cell N TYPE F=VALUE ..`
unfoldable pub line_in : List (List ℕ) → Option Line
line_in [] = None
line_in (word ∷ others) =
    if bytes_eq word (codes "var") then var_line others else (if bytes_eq word (codes "cell") then cell_line others else None)

-- what a line between `store` and `end` says, where it has one of the two forms
unfoldable pub line_of : List ℕ → Option Line
line_of bytes = line_in (parts_of bytes)
