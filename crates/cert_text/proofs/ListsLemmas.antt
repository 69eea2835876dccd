-- A list of numbers, read one after the other.
use Rattle.std.proofs.Common.{◌≡◌, ℕ, zero, suc, ◌-◌, ◌==◌, true, false, List, [], ◌∷◌, ◌++◌, length, Option, Some, None, refl, sym, ap, ◌∙◌, arith}
use Rattle.std.proofs.Common.{append_assoc}
use Rattle.std.specs.Option.{option_map}
use Rattle.std.proofs.lemmas.Bool.Decides.{nat_tests}
use Rattle.std.proofs.lemmas.List.{append-nil}
use Rattle.cert_text.specs.Reading.{◌>>=◌, next_word, number_next, numbers_in, numbers_of}

-- the numbers so far, and those that are left
abbrev pub left_of : List ℕ → ℕ → List ℕ → Option (List ℕ)
left_of front k left = option_map (λ ns. front ++ ns) (numbers_in k left)

nothing-before : (o : Option (List ℕ)) → option_map (λ ns. [] ++ ns) o ≡ o
nothing-before None = refl
nothing-before (Some ns) = refl

pub numbers-start : (bytes numbers : List ℕ) → numbers ≡ [] → left_of numbers (length bytes - 0) bytes ≡ numbers_of bytes
unfolding numbers_of
numbers-start bytes numbers is =
    let all : length bytes - 0 ≡ length bytes = omega arith in
    (λ i. left_of (is i) (all i) bytes) ∙ nothing-before (numbers_in (length bytes) bytes)

some-is : (k : ℕ) → (suc k == 0) ≡ true → ⊥
some-is k e = grind (arith, nat_tests)

none-is : (0 == 0) ≡ false → ⊥
none-is e = absurd (cc)

pub numbers-done : (numbers : List ℕ) (k : ℕ) (left : List ℕ) (r : Option (List ℕ)) → (length left == 0) ≡ true → left_of numbers k left ≡ r → Some numbers ≡ r
numbers-done numbers zero [] r empty is = ap Some (sym (append-nil numbers)) ∙ is
numbers-done numbers (suc k) [] r empty is = ap Some (sym (append-nil numbers)) ∙ is
numbers-done numbers k (b ∷ bs) r empty is = absurd (some-is (length bs) empty)

pub numbers-bad : (numbers : List ℕ) (k : ℕ) (left : List ℕ) (r : Option (List ℕ)) → number_next left ≡ None → (length left == 0) ≡ false →
    left_of numbers k left ≡ r → None ≡ r
numbers-bad numbers k [] r none some is = absurd (none-is some)
numbers-bad numbers zero (b ∷ bs) r none some is = is
numbers-bad numbers (suc k) (b ∷ bs) r none some is =
    sym (ap (λ o. option_map (λ ns. numbers ++ ns) (o >>= (λ n. option_map (λ ns. n.0 ∷ ns) (numbers_in k n.1)))) none) ∙ is

pub numbers-stuck : (numbers : List ℕ) (k : ℕ) (left : List ℕ) (r : Option (List ℕ)) → k ≡ 0 → (length left == 0) ≡ false →
    left_of numbers k left ≡ r → None ≡ r
numbers-stuck numbers k [] r zeroed some is = absurd (none-is some)
numbers-stuck numbers k (b ∷ bs) r zeroed some is = sym (ap (λ n. left_of numbers n (b ∷ bs)) zeroed) ∙ is

later : (numbers : List ℕ) (n : ℕ) (o : Option (List ℕ)) →
    option_map (λ ns. numbers ++ ns) (option_map (λ ns. n ∷ ns) o) ≡ option_map (λ ns. (numbers ++ n ∷ []) ++ ns) o
later numbers n None = refl
later numbers n (Some ns) = ap Some (sym (append_assoc numbers (n ∷ []) ns))

pub numbers-more : (numbers grown : List ℕ) (k rest : ℕ) (left : List ℕ) (n : ℕ) (after : List ℕ) (r : Option (List ℕ)) → k ≡ suc rest →
    number_next left ≡ Some (n, after) → grown ≡ numbers ++ n ∷ [] → left_of numbers k left ≡ r → left_of grown rest after ≡ r
unfolding number_next next_word
numbers-more numbers grown k rest [] n after r one next more is = absurd (cc)
numbers-more numbers grown k rest (b ∷ bs) n after r one next more is =
    ap (λ l. left_of l rest after) more
    ∙ sym (later numbers n (numbers_in rest after))
    ∙ sym (ap (λ o. option_map (λ ns. numbers ++ ns) (o >>= (λ m. option_map (λ ns. m.0 ∷ ns) (numbers_in rest m.1)))) next)
    ∙ sym (ap (λ j. left_of numbers j (b ∷ bs)) one)
    ∙ is
