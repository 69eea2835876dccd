-- The written lines are read as what they tell.
use Rattle.std.proofs.Common.{◌≡◌, ℕ, ◌==◌, false, true, List, [], ◌∷◌, ◌++◌, Option, Some, None, IfSome, refl, sym, ap, ◌∙◌, subst, append_assoc, codes}
use Rattle.std.specs.Option.{option_map, option_map_or}
use Rattle.std.specs.List.{AllByRecursion}
use Rattle.std.specs.Fmt.{decimal}
use Rattle.std.proofs.lemmas.List.{append-nil}
use Rattle.store_core.specs.declared.value.Value.{Value}
use Rattle.store_text.specs.declared.read.spelled.Given.{Given}
use Rattle.store_text.specs.declared.read.spelled.Line.TheVariants as line
use Rattle.store_core.specs.Tables.{FieldEntry, field_names}
use Rattle.store_text.specs.StoreText.{value_text, slots_text}
use Rattle.store_text.specs.Spelling.{◌>>=◌, is_name, all_of, name_of, given_of, field_of, variant_of, type_of, line_in, line_of, var_line, cell_line, cell_in}
use Rattle.store_text.specs.Writable.{AreNames, IsTellable, NamesTellable}
use Rattle.store_text.proofs.Words.{IsWord, IsWord-parts, IsWord-append, IsWord-equals, IsWord-colon, HasNoLine, HasNoLine-words, AreParts}
use Rattle.store_text.proofs.Words.{plain_part, spaced, parts_words, cut_front, cut_none}
use Rattle.store_text.proofs.Spelled.{name_parts, number_read, spelled_of, value_read, IsWord-value, IsWord-cell}

apart_equals : (bytes : List ℕ) → AreParts bytes → AllByRecursion (λ b. (b == 61) ≡ false) bytes
apart_equals [] parts = tt
apart_equals (b ∷ bytes) parts = ((plain_part b parts.0).equals, apart_equals bytes parts.1)

apart_colon : (bytes : List ℕ) → AreParts bytes → AllByRecursion (λ b. (b == 58) ≡ false) bytes
apart_colon [] parts = tt
apart_colon (b ∷ bytes) parts = ((plain_part b parts.0).colon, apart_colon bytes parts.1)

name_read : (name : List ℕ) → is_name name ≡ true → name_of name ≡ Some name
unfolding name_of
name_read name is = rw is refl

IsWord-name : (name : List ℕ) → is_name name ≡ true → IsWord name
IsWord-name name is = IsWord-parts name (name_parts name is)

abbrev pub given : List ℕ → Value → Given
given name x = record { name = name; value = spelled_of x }

given_read : (name : List ℕ) (x : Value) → is_name name ≡ true → NamesTellable x → given_of name (value_text x) ≡ Some (given name x)
unfolding given_of
given_read name x is tellable = rw (name_read name is) (rw (value_read x tellable) refl)

-- ---- lines `var`

-- the line without its end
abbrev pub var_told : List ℕ → Value → List ℕ
var_told name x = codes "var " ++ name ++ codes " " ++ value_text x

var_words : (name : List ℕ) (x : Value) → var_told name x ≡ codes "var" ++ spaced (name ∷ value_text x ∷ [])
var_words name x = ap (λ t. codes "var " ++ t) (append_assoc name (32 ∷ []) (value_text x) ∙ ap (λ v. name ++ 32 ∷ v) (sym (append-nil (value_text x))))

IsWord-var : IsWord (codes "var")
IsWord-var = IsWord-parts (codes "var") (refl, (refl, (refl, tt)))

IsWord-celled : IsWord (codes "cell")
IsWord-celled = IsWord-parts (codes "cell") (refl, (refl, (refl, (refl, tt))))

pub var_read : (name : List ℕ) (x : Value) → is_name name ≡ true → NamesTellable x → line_of (var_told name x) ≡ Some (line.Var (given name x))
unfolding line_of line_in var_line
var_read name x is tellable =
    ap line_of (var_words name x)
    ∙ ap line_in (parts_words (codes "var") (name ∷ value_text x ∷ []) IsWord-var (IsWord-name name is, (IsWord-value x tellable, tt)))
    ∙ ap (option_map line.Var) (given_read name x is tellable)

pub var_has_no_line : (name : List ℕ) (x : Value) → is_name name ≡ true → NamesTellable x → HasNoLine (var_told name x)
var_has_no_line name x is tellable =
    subst HasNoLine (sym (var_words name x))
    (HasNoLine-words (codes "var") (name ∷ value_text x ∷ []) IsWord-var (IsWord-name name is, (IsWord-value x tellable, tt)))

-- ---- fields

-- the fields that a cell has, as they are told
abbrev pub givens : List FieldEntry → List (Option Value) → List Given
givens [] xs = []
givens (f ∷ fs) [] = []
givens (f ∷ fs) (None ∷ xs) = givens fs xs
givens (f ∷ fs) (Some x ∷ xs) = given f.name x ∷ givens fs xs

field_words : List FieldEntry → List (Option Value) → List (List ℕ)
field_words [] xs = []
field_words (f ∷ fs) [] = []
field_words (f ∷ fs) (None ∷ xs) = field_words fs xs
field_words (f ∷ fs) (Some x ∷ xs) = (f.name ++ 61 ∷ value_text x) ∷ field_words fs xs

slots_words : (fields : List FieldEntry) (slots : List (Option Value)) → slots_text fields slots ≡ spaced (field_words fields slots)
unfolding field_words
slots_words [] xs = refl
slots_words (f ∷ fs) [] = refl
slots_words (f ∷ fs) (None ∷ xs) = slots_words fs xs
slots_words (f ∷ fs) (Some x ∷ xs) = λ i. (32 ∷ append_assoc f.name (61 ∷ []) (value_text x) i) ++ slots_words fs xs i

abbrev AreTellable : List (Option Value) → Type 0
AreTellable slots = AllByRecursion (λ x. IfSome x NamesTellable) slots

AreWords-fields : (fields : List FieldEntry) (slots : List (Option Value)) → AreNames (field_names fields) → AreTellable slots →
    AllByRecursion IsWord (field_words fields slots)
unfolding field_words
AreWords-fields [] xs names all = tt
AreWords-fields (f ∷ fs) [] names all = tt
AreWords-fields (f ∷ fs) (None ∷ xs) names all = AreWords-fields fs xs names.1 all.1
AreWords-fields (f ∷ fs) (Some x ∷ xs) names all = (
  IsWord-append f.name (61 ∷ value_text x) (IsWord-name f.name names.0)
      (IsWord-append (codes "=") (value_text x) IsWord-equals (IsWord-value x all.0)),
  AreWords-fields fs xs names.1 all.1,
)

field_read : (name : List ℕ) (x : Value) → is_name name ≡ true → NamesTellable x → field_of (name ++ 61 ∷ value_text x) ≡ Some (given name x)
unfolding field_of
field_read name x is tellable = ap (λ cut. cut >>= (λ cut. given_of cut.0 cut.1))
    (cut_front 61 name (value_text x) (apart_equals name (name_parts name is)) refl) ∙ given_read name x is tellable

fields_read : (fields : List FieldEntry) (slots : List (Option Value)) → AreNames (field_names fields) → AreTellable slots →
    all_of field_of (field_words fields slots) ≡ Some (givens fields slots)
unfolding field_words
fields_read [] xs names all = refl
fields_read (f ∷ fs) [] names all = refl
fields_read (f ∷ fs) (None ∷ xs) names all = fields_read fs xs names.1 all.1
fields_read (f ∷ fs) (Some x ∷ xs) names all =
    ap (λ o. o >>= (λ y. option_map (λ ys. y ∷ ys) (all_of field_of (field_words fs xs)))) (field_read f.name x names.0 all.0) ∙
    ap (option_map (λ ys. given f.name x ∷ ys)) (fields_read fs xs names.1 all.1)

-- ---- types and variants

-- `TYPE`, or `TYPE:VARIANT`
abbrev pub type_word : List ℕ → Option (List ℕ) → List ℕ
type_word name None = name
type_word name (Some variant) = name ++ 58 ∷ variant

IsWord-type : (name : List ℕ) (variant : Option (List ℕ)) → is_name name ≡ true → IfSome variant (λ v. is_name v ≡ true) → IsWord (type_word name variant)
IsWord-type name None is of = IsWord-name name is
IsWord-type name (Some v) is of = IsWord-append name (58 ∷ v) (IsWord-name name is) (IsWord-append (codes ":") v IsWord-colon (IsWord-name v of))

type_read : (name : List ℕ) (variant : Option (List ℕ)) → is_name name ≡ true → IfSome variant (λ v. is_name v ≡ true) →
    type_of (type_word name variant) ≡ Some (name, variant)
unfolding type_of variant_of
type_read name None is of =
    ap (λ cut. option_map_or (λ cut. variant_of cut.0 cut.1) cut (option_map (λ t. (t, None)) (name_of name)))
    (cut_none 58 name (apart_colon name (name_parts name is)))
    ∙ ap (option_map (λ t. (t, None))) (name_read name is)
type_read name (Some v) is of =
    ap (λ cut. option_map_or (λ cut. variant_of cut.0 cut.1) cut (option_map (λ t. (t, None)) (name_of (name ++ 58 ∷ v))))
    (cut_front 58 name v (apart_colon name (name_parts name is)) refl)
    ∙ rw (name_read name is) (rw (name_read v of) refl)

-- ---- lines `cell`

-- the line without its end
abbrev pub cell_told : ℕ → List ℕ → List FieldEntry → List (Option Value) → List ℕ
cell_told number ty fields slots = codes "cell " ++ decimal number ++ codes " " ++ ty ++ slots_text fields slots

cell_words : (number : ℕ) (ty : List ℕ) (fields : List FieldEntry) (slots : List (Option Value)) →
    cell_told number ty fields slots ≡ codes "cell" ++ spaced (decimal number ∷ ty ∷ field_words fields slots)
cell_words number ty fields slots =
    ap (λ t. codes "cell " ++ t) (ap (λ u. u ++ slots_text fields slots) (append_assoc (decimal number) (32 ∷ []) ty) ∙
    append_assoc (decimal number) (32 ∷ ty) (slots_text fields slots)
    ∙ ap (λ r. decimal number ++ 32 ∷ (ty ++ r)) (slots_words fields slots))

module _ (number : ℕ) (name : List ℕ) (variant : Option (List ℕ)) (fields : List FieldEntry) (slots : List (Option Value))
    (tellable : IsTellable (record { 0 = number })) (is : is_name name ≡ true)
    (of : IfSome variant (λ v. is_name v ≡ true)) (names : AreNames (field_names fields)) (all : AreTellable slots) where
  words : AllByRecursion IsWord (decimal number ∷ type_word name variant ∷ field_words fields slots)
  words = (IsWord-cell (record { 0 = number }) tellable, (IsWord-type name variant is of, AreWords-fields fields slots names all))

  pub cell_read : line_of (cell_told number (type_word name variant) fields slots) ≡ Some
      (line.Cell (record { number = number; ty = name; variant = variant; fields = givens fields slots }))
  unfolding line_of line_in cell_line cell_in
  cell_read =
      ap line_of (cell_words number (type_word name variant) fields slots)
      ∙ ap line_in (parts_words (codes "cell") (decimal number ∷ type_word name variant ∷ field_words fields slots) IsWord-celled words)
      ∙ rw (number_read number tellable.0 tellable.1) (rw (type_read name variant is of) (rw (fields_read fields slots names all) refl))

  pub cell_has_no_line : HasNoLine (cell_told number (type_word name variant) fields slots)
  cell_has_no_line = subst HasNoLine (sym (cell_words number (type_word name variant) fields slots))
      (HasNoLine-words (codes "cell") (decimal number ∷ type_word name variant ∷ field_words fields slots) IsWord-celled words)
