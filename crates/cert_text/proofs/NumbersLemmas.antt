-- Numbers, read digit by digit: what is read is the decimal of the number, and its decimal is read.
use Rattle.std.proofs.Common.{◌≡◌, ℕ, zero, suc, ◌+◌, ◌-◌, ◌*◌, ◌%◌, ◌^◌, ◌<◌, ◌≤◌, ◌==◌}
use Rattle.std.proofs.Common.{◌&&◌, not, nat_le, Bool, true, false, cond, List, [], ◌∷◌, ◌++◌, length}
use Rattle.std.proofs.Common.{Some, None, get_or, refl, sym, ap, ◌∙◌, arith, subst, rules, eqb-true}
use Rattle.std.specs.List.{list_all}
use Rattle.std.specs.Char.{is_ascii_digit, digit_value}
use Rattle.std.specs.Fmt.{decimal}
use Rattle.std.specs.Str.Parse.{digits_value, digits_value_after}
use Rattle.std.proofs.lemmas.Bool.{and_from, and_parts, false≢true}
use Rattle.std.proofs.lemmas.Bool.Decides.{nat_tests}
use Rattle.std.proofs.lemmas.Fmt.{decimal_is_IsNumeral, decimal_nonempty, first_decimal, decimal_by_steps, decimal_digit, decimal-digits_value}
use Rattle.std.proofs.lemmas.Str.Parse.{IsNumeralModel, numerals_by_value}
use Rattle.cert_text.specs.Reading.{number_after, number_of}
use Rattle.cert_text.specs.Spelling.{IsNumber}
use Rattle.cert_text.proofs.WordsLemmas.{lacks}

digits-grow : (front : ℕ) (ds : List ℕ) → front ≤ digits_value_after 10 front ds
digits-grow front [] = omega arith
digits-grow front (d ∷ ds) = let more = digits-grow (front * 10 + digit_value d) ds in omega (arith, more)

digit_is : (d : ℕ) → is_ascii_digit d ≡ true → digit_value d ≡ d - 48
digit_is d is = grind (arith, nat_tests)

-- a digit is taken off
pub number_after-digit : (front d : ℕ) (ds : List ℕ) → is_ascii_digit d ≡ true → number_after front (d ∷ ds) ≡ number_after (front * 10 + (d - 48)) ds
unfolding number_after
number_after-digit front d ds is =
    ap (λ t. cond ((t && list_all is_ascii_digit ds) && nat_le (digits_value_after 10 (front * 10 + digit_value d) ds) 4294967295)
    (Some (digits_value_after 10 (front * 10 + digit_value d) ds)) None) is
    ∙ ap (λ v. cond (list_all is_ascii_digit ds && nat_le (digits_value_after 10 (front * 10 + v) ds) 4294967295)
    (Some (digits_value_after 10 (front * 10 + v) ds)) None) (digit_is d is)

-- another byte spells no number
pub number_after-stray : (front d : ℕ) (ds : List ℕ) → is_ascii_digit d ≡ false → number_after front (d ∷ ds) ≡ None
unfolding number_after
number_after-stray front d ds is =
    ap (λ t. cond ((t && list_all is_ascii_digit ds) && nat_le (digits_value_after 10 (front * 10 + digit_value d) ds) 4294967295)
    (Some (digits_value_after 10 (front * 10 + digit_value d) ds)) None) is

too_great : (t : Bool) (n : ℕ) → 4294967295 < n → cond (t && nat_le n 4294967295) (Some n) None ≡ None
too_great true n great = let not_le : nat_le n 4294967295 ≡ false = grind (arith, nat_tests) in ap (λ u. cond u (Some n) None) not_le
too_great false n great = refl

-- a digit more makes it too great
pub number_after-great : (front d : ℕ) (ds : List ℕ) → 429496729 < front → number_after front (d ∷ ds) ≡ None
unfolding number_after
number_after-great front d ds great =
    too_great (list_all is_ascii_digit (d ∷ ds)) (digits_value_after 10 (front * 10 + digit_value d) ds)
    (let more = digits-grow (front * 10 + digit_value d) ds in omega (arith, more))

-- no digit is left
pub number_after-end : (front : ℕ) (ds : List ℕ) → ds ≡ [] → number_after front ds ≡ cond (nat_le front 4294967295) (Some front) None
unfolding number_after
number_after-end front ds is = ap (λ l. cond (list_all is_ascii_digit l && nat_le (digits_value_after 10 front l) 4294967295)
    (Some (digits_value_after 10 front l)) None) is

-- ---- decimals

abbrev AreDigits : List ℕ → Bool
AreDigits bytes = list_all is_ascii_digit bytes

digits-push : (bytes : List ℕ) (b : ℕ) → AreDigits bytes ≡ true → is_ascii_digit b ≡ true → AreDigits (bytes ++ b ∷ []) ≡ true
digits-push [] b all last = and_from _ _ last refl
digits-push (c ∷ bytes) b all last =
    let parts = and_parts (is_ascii_digit c) (list_all is_ascii_digit bytes) all in
    and_from _ _ parts.0 (digits-push bytes b parts.1 last)

is_digit : (d : ℕ) → d < 10 → is_ascii_digit (48 + d) ≡ true
is_digit d lt = grind arith

digits-decimal : (n : ℕ) → n < 2 ^ 64 → AreDigits (decimal n) ≡ true
digits-decimal = decimal_by_steps (λ n ds. AreDigits ds ≡ true) (λ n lt. and_from _ _ (is_digit n lt) refl)
    (λ n ds le all. digits-push ds (48 + n % 10) all (is_digit (n % 10) (omega arith)))

apart : (b byte : ℕ) → is_ascii_digit b ≡ true → is_ascii_digit byte ≡ false → (t : Bool) → (b == byte) ≡ t → t ≡ false
apart b byte digit other true same = absurd (false≢true (sym other ∙ sym (ap is_ascii_digit (eqb-true b byte same)) ∙ digit))
apart b byte digit other false same = refl

-- digits lack any other byte
digits-lack : (byte : ℕ) → is_ascii_digit byte ≡ false → (bytes : List ℕ) → AreDigits bytes ≡ true → lacks byte bytes ≡ true
digits-lack byte other [] all = refl
digits-lack byte other (b ∷ bytes) all =
    let parts = and_parts (is_ascii_digit b) (list_all is_ascii_digit bytes) all in
    and_from _ _ (ap not (apart b byte parts.0 other (b == byte) refl)) (digits-lack byte other bytes parts.1)

small : (n : ℕ) → IsNumber n → n < 2 ^ 64
small n is = omega (arith, is)

pub decimal-lacks : (byte n : ℕ) → is_ascii_digit byte ≡ false → IsNumber n → lacks byte (decimal n) ≡ true
decimal-lacks byte n other is = digits-lack byte other (decimal n) (digits-decimal n (small n is))

-- whether a first digit `0` has others behind it
abbrev is_led : ℕ → List ℕ → Bool
is_led first others = (first == 48) && not (length others == 0)

and-false : (t : Bool) → (t && false) ≡ false
and-false true = refl
and-false false = refl

above : (first : ℕ) → 48 < first → (first == 48) ≡ false
above first more = grind (arith, nat_tests)

-- the first of several digits of a decimal isn't `0`
not_led : (n : ℕ) → IsNumber n → (first : ℕ) (others : List ℕ) → decimal n ≡ first ∷ others → is_led first others ≡ false
not_led zero is first others same =
    let one : 48 ∷ [] ≡ first ∷ others = sym (decimal_digit 0 (omega arith)) ∙ same in
    let none : [] ≡ others = cc in
    ap (λ (l : List ℕ). (first == 48) && not (length l == 0)) (sym none) ∙ and-false (first == 48)
not_led (suc n) is first others same =
    let more : 48 < first = subst (λ l. 48 < get_or l 0 0) same (first_decimal (suc n) (omega arith) (small (suc n) is)) in
    ap (λ t. t && not (length others == 0)) (above first more)

within : (n : ℕ) → IsNumber n → nat_le n 4294967295 ≡ true
within n is = grind (arith, nat_tests)

pub number_of-decimal : (n : ℕ) → IsNumber n → number_of (decimal n) ≡ Some n
unfolding number_of number_after
number_of-decimal n is =
    by (decimal n) (decimal_nonempty n (small n is)) (digits-decimal n (small n is)) ((decimal_is_IsNumeral n (small n is)).1) (not_led n is)
  where
    by : (word : List ℕ) → 0 < length word → AreDigits word ≡ true → digits_value_after 10 0 word ≡ n →
        ((first : ℕ) (others : List ℕ) → word ≡ first ∷ others → is_led first others ≡ false) → number_of word ≡ Some n
    by [] some digits value led = absurd (omega arith)
    by (d ∷ ds) some digits value led =
        ap (λ t. cond t None (number_after 0 (d ∷ ds))) (led d ds refl)
        ∙ ap (λ t. cond (t && nat_le (digits_value_after 10 0 (d ∷ ds)) 4294967295) (Some (digits_value_after 10 0 (d ∷ ds))) None) digits
        ∙ ap (λ v. cond (nat_le v 4294967295) (Some v) None) value
        ∙ ap (λ t. cond t (Some n) None) (within n is)

own : IsNumeralModel (λ ds. list_all is_ascii_digit ds ≡ true) (digits_value 10)
own = numerals_by_value _ (search rules)

-- a number that digits spell
record IsSpelled (word : List ℕ) (n : ℕ) : Type 0 where
  digits : AreDigits word ≡ true
  value : digits_value_after 10 0 word ≡ n
  fits : IsNumber n

spelled_by : (word : List ℕ) (n : ℕ) → number_after 0 word ≡ Some n → IsSpelled word n
unfolding number_after
spelled_by word n is = by (AreDigits word) refl (nat_le (digits_value_after 10 0 word) 4294967295) refl is
  where
    by : (t : Bool) → AreDigits word ≡ t → (u : Bool) → nat_le (digits_value_after 10 0 word) 4294967295 ≡ u →
        cond (t && u) (Some (digits_value_after 10 0 word)) None ≡ Some n → IsSpelled word n
    by true all true le e =
        let same : digits_value_after 10 0 word ≡ n = cc in
        let low : nat_le n 4294967295 ≡ true = subst (λ v. nat_le v 4294967295 ≡ true) same le in
        record { digits = all; value = same; fits = grind (arith, nat_tests) }
    by true all false le e = absurd (cc)
    by false all u le e = absurd (cc)

-- where a first `0` has nothing behind it
alone : (first : ℕ) (others : List ℕ) → is_led first others ≡ false → first ≡ 48 → length (first ∷ others) ≡ 1
alone first [] led zeroed = refl
alone first (o ∷ others) led zeroed =
    let yes : (first == 48) ≡ true = ap (λ n. n == 48) zeroed in
    let some : (length (o ∷ others) == 0) ≡ false = some-is (length others) in
    absurd (false≢true (sym led ∙ ap (λ t. t && not (length (o ∷ others) == 0)) yes ∙ ap not some))
  where
    some-is : (k : ℕ) → (suc k == 0) ≡ false
    some-is k = grind (arith, nat_tests)

pub decimal-number_of : (word : List ℕ) (n : ℕ) → number_of word ≡ Some n → (word ≡ decimal n) × IsNumber n
unfolding number_of
decimal-number_of [] n is = absurd (cc)
decimal-number_of (first ∷ others) n is = by (is_led first others) refl is
  where
    by : (t : Bool) → is_led first others ≡ t → cond t None (number_after 0 (first ∷ others)) ≡ Some n → ((first ∷ others) ≡ decimal n) × IsNumber n
    by true led e = absurd (cc)
    by false led e =
        let spelled = spelled_by (first ∷ others) n e in
        let value : digits_value 10 (first ∷ others) ≡ n = spelled.value in (
          sym (decimal-digits_value own (first ∷ others) spelled.digits (omega arith) (alone first others led)
              (subst (λ v. v < 2 ^ 64) (sym value) (small n spelled.fits))) ∙ ap decimal value,
          spelled.fits,
        )
