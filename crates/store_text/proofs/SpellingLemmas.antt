-- Names, numbers and values, read byte by byte and word by word.
use Rattle.std.proofs.Common.{◌≡◌, ◌≢◌, ℕ, ◌+◌, ◌-◌, ◌*◌, ◌<◌, ◌≤◌, ◌==◌, ◌&&◌, nat_le, Bool, true, false, cond, List, [], ◌∷◌, ◌++◌, length, Option}
use Rattle.std.proofs.Common.{Some, None, refl, sym, ap, ◌∙◌, arith, append_assoc, get_or, drop, codes, subst}
use Rattle.std.specs.Option.{option_map}
use Rattle.std.specs.List.{list_all}
use Rattle.std.specs.Char.{is_ascii_digit, digit_value}
use Rattle.std.specs.Str.Parse.{digits_value_after}
use Rattle.std.specs.Str.{bytes_eq}
use Rattle.std.proofs.lemmas.List.{append-nil}
use Rattle.std.proofs.lemmas.Bool.Decides.{nat_tests}
use Rattle.store_text.specs.declared.read.spelled.Spelled.TheVariants as spelled
use Rattle.store_text.specs.declared.read.spelled.Given.{Given}
use Rattle.store_text.specs.declared.read.spelled.CellLine.{CellLine}
use Rattle.store_text.specs.declared.read.spelled.Line.TheVariants as line
use Rattle.store_text.specs.Lines.{parts_of}
use Rattle.store_text.specs.Spelling.{◌>>=◌, all_of, number_after, number_of, before_close, numbers_of, counted_of, given_of, field_of, type_of}
use Rattle.store_text.specs.Spelling.{var_line, cell_in, cell_line, line_in, line_of}

-- ---- all of a list

-- one more is spelled
pub all_of-more : {A B : Type 0} (f : A → Option B) (ys : List B) (x : A) (xs : List A) (y : B) → f x ≡ Some y
    → option_map (λ rest. ys ++ rest) (all_of f (x ∷ xs)) ≡ option_map (λ rest. (ys ++ y ∷ []) ++ rest) (all_of f xs)
all_of-more {A = A} {B = B} f ys x xs y is =
    ap (λ o. option_map (λ rest. ys ++ rest) (o >>= (λ z. option_map (λ zs. z ∷ zs) (all_of f xs)))) is ∙ by (all_of f xs)
  where
    by : (o : Option (List B)) → option_map (λ rest. ys ++ rest) (option_map (λ zs. y ∷ zs) o) ≡ option_map (λ rest. (ys ++ y ∷ []) ++ rest) o
    by None = refl
    by (Some zs) = ap Some (sym (append_assoc ys (y ∷ []) zs))

-- one that isn't leaves none
pub all_of-none : {A B : Type 0} (f : A → Option B) (ys : List B) (x : A) (xs : List A) → f x ≡ None →
    option_map (λ rest. ys ++ rest) (all_of f (x ∷ xs)) ≡ None
all_of-none f ys x xs is = ap (λ o. option_map (λ rest. ys ++ rest) (o >>= (λ z. option_map (λ zs. z ∷ zs) (all_of f xs)))) is

-- none are left
pub all_of-end : {A B : Type 0} (f : A → Option B) (ys : List B) (xs : List A) → xs ≡ [] → option_map (λ rest. ys ++ rest) (all_of f xs) ≡ Some ys
all_of-end f ys xs is = ap (λ l. option_map (λ rest. ys ++ rest) (all_of f l)) is ∙ ap Some (append-nil ys)

-- nothing before them
pub all_of-whole : {A B : Type 0} (f : A → Option B) (xs : List A) → option_map (λ rest. [] ++ rest) (all_of f xs) ≡ all_of f xs
all_of-whole {B = B} f xs = by (all_of f xs)
  where
    by : (o : Option (List B)) → option_map (λ rest. [] ++ rest) o ≡ o
    by None = refl
    by (Some zs) = refl

-- ---- numbers

digits-grow : (front : ℕ) (ds : List ℕ) → front ≤ digits_value_after 10 front ds
digits-grow front [] = omega arith
digits-grow front (d ∷ ds) = let more = digits-grow (front * 10 + digit_value d) ds in omega (arith, more)

digit_is : (d : ℕ) → is_ascii_digit d ≡ true → digit_value d ≡ d - 48
digit_is d is = grind (arith, nat_tests)

-- a digit is taken off
pub number_after-digit : (front d : ℕ) (ds : List ℕ) → is_ascii_digit d ≡ true → number_after front (d ∷ ds) ≡ number_after (front * 10 + (d - 48)) ds
unfolding number_after
number_after-digit front d ds is =
    ap (λ t. cond ((t && list_all is_ascii_digit ds) && nat_le (digits_value_after 10 (front * 10 + digit_value d) ds) 1000000)
    (Some (digits_value_after 10 (front * 10 + digit_value d) ds)) None) is
    ∙ ap (λ v. cond (list_all is_ascii_digit ds && nat_le (digits_value_after 10 (front * 10 + v) ds) 1000000)
    (Some (digits_value_after 10 (front * 10 + v) ds)) None) (digit_is d is)

-- another byte spells no number
pub number_after-stray : (front d : ℕ) (ds : List ℕ) → is_ascii_digit d ≡ false → number_after front (d ∷ ds) ≡ None
unfolding number_after
number_after-stray front d ds is =
    ap (λ t. cond ((t && list_all is_ascii_digit ds) && nat_le (digits_value_after 10 (front * 10 + digit_value d) ds) 1000000)
    (Some (digits_value_after 10 (front * 10 + digit_value d) ds)) None) is

too_great : (t : Bool) (n : ℕ) → 1000000 < n → cond (t && nat_le n 1000000) (Some n) None ≡ None
too_great true n great = let not_le : nat_le n 1000000 ≡ false = grind (arith, nat_tests) in ap (λ u. cond u (Some n) None) not_le
too_great false n great = refl

-- a digit more makes it too great
pub number_after-great : (front d : ℕ) (ds : List ℕ) → 100000 < front → number_after front (d ∷ ds) ≡ None
unfolding number_after
number_after-great front d ds great =
    too_great (list_all is_ascii_digit (d ∷ ds)) (digits_value_after 10 (front * 10 + digit_value d) ds)
    (let more = digits-grow (front * 10 + digit_value d) ds in omega (arith, more))

-- no digit is left
pub number_after-end : (front : ℕ) (ds : List ℕ) → ds ≡ [] → number_after front ds ≡ cond (nat_le front 1000000) (Some front) None
unfolding number_after
number_after-end front ds is = ap (λ l. cond (list_all is_ascii_digit l && nat_le (digits_value_after 10 front l) 1000000)
    (Some (digits_value_after 10 front l)) None) is

pub number_of-cons : (word : List ℕ) (first : ℕ) (others : List ℕ) → word ≡ first ∷ others → number_of word ≡ cond (first == 48) None (number_after 0 word)
unfolding number_of
number_of-cons word first others is = ap number_of is ∙ ap (λ l. cond (first == 48) None (number_after 0 l)) (sym is)

pub number_of-none : (word : List ℕ) → length word ≡ 0 → number_of word ≡ None
unfolding number_of
number_of-none [] none = refl
number_of-none (b ∷ bs) none = absurd (omega arith)

-- ---- braces

closed : (t : Bool) (b : ℕ) (front : List ℕ) → option_map (λ f. b ∷ f) (cond t (Some front) None) ≡ cond t (Some (b ∷ front)) None
closed true b front = refl
closed false b front = refl

pub before_close-push : (front : List ℕ) (last : ℕ) → before_close (front ++ last ∷ []) ≡ cond (last == 125) (Some front) None
unfolding before_close
before_close-push [] last = refl
before_close-push (b ∷ []) last = closed (last == 125) b []
before_close-push (b ∷ d ∷ front) last = ap (option_map (λ f. b ∷ f)) (before_close-push (d ∷ front) last) ∙ closed (last == 125) b (d ∷ front)

pub before_close-none : (word : List ℕ) → length word ≡ 0 → before_close word ≡ None
unfolding before_close
before_close-none [] none = refl
before_close-none (b ∷ bs) none = absurd (omega arith)

pub numbers_of-nothing : (inside : List ℕ) → (length inside == 0) ≡ true → numbers_of inside ≡ Some []
unfolding numbers_of
numbers_of-nothing [] none = refl
numbers_of-nothing (b ∷ bs) none = absurd (grind (arith, nat_tests))

pub numbers_of-some : (inside : List ℕ) → (length inside == 0) ≡ false → numbers_of inside ≡ all_of number_of (parts_of inside)
unfolding numbers_of
numbers_of-some [] some = absurd (cc)
numbers_of-some (b ∷ bs) some = refl

pub counted_of-none : (word : List ℕ) → length word ≡ 0 → counted_of word ≡ None
unfolding counted_of
counted_of-none [] none = refl
counted_of-none (b ∷ bs) none = absurd (omega arith)

pub counted_of-cons : (word : List ℕ) (first : ℕ) (others : List ℕ) → word ≡ first ∷ others
    → counted_of word ≡ cond (first == 123) (option_map spelled.Numbers (before_close others >>= numbers_of)) (option_map spelled.Number (number_of word))
unfolding counted_of
counted_of-cons word first others is =
    ap counted_of is ∙ ap (λ l. cond (first == 123) (option_map spelled.Numbers (before_close others >>= numbers_of))
    (option_map spelled.Number (number_of l))) (sym is)

-- ---- forms

pub var_line-two : (parts : List (List ℕ)) (name value : List ℕ) → length parts ≡ 2 → name ≡ get_or parts 0 name → value ≡ get_or parts 1 value
    → var_line parts ≡ option_map line.Var (given_of name value)
unfolding var_line
var_line-two [] name value two first second = absurd (omega arith)
var_line-two (a ∷ []) name value two first second = absurd (omega arith)
var_line-two (a ∷ b ∷ []) name value two first second = ap (λ n. option_map line.Var (given_of n b)) (sym first) ∙
    ap (λ v. option_map line.Var (given_of name v)) (sym second)
var_line-two (a ∷ b ∷ d ∷ parts) name value two first second = absurd (omega arith)

-- the same where the two parts are read through references
pub var_line-given : (parts : List (List ℕ)) (a b name value : List ℕ) (given : Option Given) → length parts ≡ 2 →
    a ≡ get_or parts 0 a → b ≡ get_or parts 1 b → name ≡ a → value ≡ b
    → given ≡ given_of name value → option_map line.Var given ≡ var_line parts
var_line-given parts a b name value given two first second named valued is =
    ap (option_map line.Var) (is ∙ (λ i. given_of (named i) (valued i))) ∙ sym (var_line-two parts a b two first second)

pub var_line-other : (parts : List (List ℕ)) → length parts ≢ 2 → var_line parts ≡ None
unfolding var_line
var_line-other [] other = refl
var_line-other (a ∷ []) other = refl
var_line-other (a ∷ b ∷ []) other = absurd (other refl)
var_line-other (a ∷ b ∷ d ∷ parts) other = refl

pub cell_line-more : (parts : List (List ℕ)) (number ty : List ℕ) → 2 ≤ length parts → number ≡ get_or parts 0 number → ty ≡ get_or parts 1 ty
    → cell_line parts ≡ cell_in number ty (drop 2 parts)
unfolding cell_line
cell_line-more [] number ty two first second = absurd (omega arith)
cell_line-more (a ∷ []) number ty two first second = absurd (omega arith)
cell_line-more (a ∷ b ∷ parts) number ty two first second = ap (λ n. cell_in n b parts) (sym first) ∙ ap (λ t. cell_in number t parts) (sym second)

pub cell_line-fewer : (parts : List (List ℕ)) → length parts < 2 → cell_line parts ≡ None
unfolding cell_line
cell_line-fewer [] fewer = refl
cell_line-fewer (a ∷ []) fewer = refl
cell_line-fewer (a ∷ b ∷ parts) fewer = absurd (omega arith)

-- ---- how great a cell's number is

number_after-small : (front : ℕ) (digits : List ℕ) (n : ℕ) → number_after front digits ≡ Some n → n ≤ 1000000
unfolding number_after
number_after-small front digits n is = by (list_all is_ascii_digit digits) (digits_value_after 10 front digits) is
  where
    within : (m : ℕ) (t : Bool) → nat_le m 1000000 ≡ t → cond t (Some m) None ≡ Some n → n ≤ 1000000
    within m true le e = let same : m ≡ n = cc in let fits : m ≤ 1000000 = grind (arith, nat_tests) in omega arith
    within m false le e = absurd (cc)

    by : (t : Bool) (m : ℕ) → cond (t && nat_le m 1000000) (Some m) None ≡ Some n → n ≤ 1000000
    by true m e = within m (nat_le m 1000000) refl e
    by false m e = absurd (cc)

number_of-small : (word : List ℕ) (n : ℕ) → number_of word ≡ Some n → n ≤ 1000000
unfolding number_of
number_of-small [] n is = absurd (cc)
number_of-small (b ∷ bs) n is = by (b == 48) is
  where
    by : (t : Bool) → cond t None (number_after 0 (b ∷ bs)) ≡ Some n → n ≤ 1000000
    by true e = absurd (cc)
    by false e = number_after-small 0 (b ∷ bs) n e

cell_in-small : (number ty : List ℕ) (fields : List (List ℕ)) (cell : CellLine) → cell_in number ty fields ≡ Some (line.Cell cell) → cell.number ≤ 1000000
unfolding cell_in
cell_in-small number ty fields cell is = by (number_of number) refl (type_of ty) (all_of field_of fields) is
  where
    by : (n : Option ℕ) → number_of number ≡ n → (t : Option (List ℕ × Option (List ℕ))) (fs : Option (List Given))
        → n >>= (λ m. t >>= (λ u. fs >>= (λ gs. Some (line.Cell (record { number = m; ty = u.0; variant = u.1; fields = gs }))))) ≡ Some
        (line.Cell cell) → cell.number ≤ 1000000
    by None read t fs e = absurd (cc)
    by (Some n) read None fs e = absurd (cc)
    by (Some n) read (Some t) None e = absurd (cc)
    by (Some n) read (Some t) (Some gs) e =
        let same : record { number = n; ty = t.0; variant = t.1; fields = gs } ≡ cell = cc in
        subst (λ (c : CellLine). c.number ≤ 1000000) same (number_of-small number n read)

cell_line-small : (parts : List (List ℕ)) (cell : CellLine) → cell_line parts ≡ Some (line.Cell cell) → cell.number ≤ 1000000
unfolding cell_line
cell_line-small [] cell is = absurd (cc)
cell_line-small (a ∷ []) cell is = absurd (cc)
cell_line-small (a ∷ b ∷ parts) cell is = cell_in-small a b parts cell is

var_line-no_cell : (parts : List (List ℕ)) (cell : CellLine) → var_line parts ≡ Some (line.Cell cell) → ⊥
unfolding var_line
var_line-no_cell [] cell is = absurd (cc)
var_line-no_cell (a ∷ []) cell is = absurd (cc)
var_line-no_cell (a ∷ b ∷ []) cell is = by (given_of a b) is
  where
    by : (o : Option Given) → option_map line.Var o ≡ Some (line.Cell cell) → ⊥
    by None e = absurd (cc)
    by (Some g) e = absurd (cc)
var_line-no_cell (a ∷ b ∷ d ∷ parts) cell is = absurd (cc)

line_in-small : (parts : List (List ℕ)) (cell : CellLine) → line_in parts ≡ Some (line.Cell cell) → cell.number ≤ 1000000
unfolding line_in
line_in-small [] cell is = absurd (cc)
line_in-small (word ∷ others) cell is = by (bytes_eq word (codes "var")) (bytes_eq word (codes "cell")) is
  where
    by : (t u : Bool) → cond t (var_line others) (cond u (cell_line others) None) ≡ Some (line.Cell cell) → cell.number ≤ 1000000
    by true u e = absurd (var_line-no_cell others cell e)
    by false true e = cell_line-small others cell e
    by false false e = absurd (cc)

-- a cell's number in a line is at most 1,000,000
pub line_of-small : (bytes : List ℕ) (cell : CellLine) → line_of bytes ≡ Some (line.Cell cell) → cell.number ≤ 1000000
unfolding line_of
line_of-small bytes cell is = line_in-small (parts_of bytes) cell is
