-- Fields: what is read of one is spelled so, and what is spelled so is read.
use Rattle.std.proofs.Common.{◌≡◌, ℕ, zero, suc, ◌≤◌, ◌==◌, Bool, true, false, cond, List, [], ◌∷◌, ◌++◌, length, Option, Some, None, ◌⊎◌, inl, inr}
use Rattle.std.proofs.Common.{refl, ap, ◌∙◌, arith, subst, codes, length-append, eqb-true}
use Rattle.std.specs.Option.{option_map}
use Rattle.std.specs.Fmt.{decimal}
use Rattle.std.specs.Str.{bytes_eq}
use Rattle.std.proofs.lemmas.Bool.{and_parts, false≢true}
use Rattle.cert_text.specs.declared.line.Way.{Way}
use Rattle.cert_text.specs.declared.line.Way.TheVariants as way
use Rattle.cert_text.specs.declared.line.Target.{Target}
use Rattle.cert_text.specs.declared.line.Target.TheVariants as target
use Rattle.cert_text.specs.Spelling.{number_text, numbers_texts, joined, way_text, target_text, bit_text, IsNumber, AreNumbers, IsTarget}
use Rattle.cert_text.specs.Reading.{◌>>=◌, next_word, number_of, way_of, target_of, bit_of}
use Rattle.cert_text.specs.Reading.{number_next, way_next, target_next, bit_next, numbers_in, numbers_of}
use Rattle.cert_text.proofs.WordsLemmas.{lacks, lacks-head, is_break, next_word-word, next_word-whole}
use Rattle.cert_text.proofs.NumbersLemmas.{decimal-lacks, number_of-decimal, decimal-number_of}

-- what was bound was there
pub bind-some : {A B : Type 0} (o : Option A) (f : A → Option B) (y : B) → o >>= f ≡ Some y → (x : A) × (o ≡ Some x) × (f x ≡ Some y)
bind-some None f y e = absurd (cc)
bind-some (Some x) f y e = (x, refl, e)

pub map-some : {A B : Type 0} (o : Option A) (f : A → B) (y : B) → option_map f o ≡ Some y → (x : A) × (o ≡ Some x) × (f x ≡ y)
map-some None f y e = absurd (cc)
map-some (Some x) f y e = (x, refl, cc)

-- ---- a field of one word

module _ {X : Type 0} (of : List ℕ → Option X) where
  -- the word's meaning, and what follows the word
  abbrev pub field : List ℕ → Option (X × List ℕ)
  field bytes = next_word bytes >>= (λ w. of w.0 >>= (λ x. Some (x, w.1)))

  pub field-reads : (w rest : List ℕ) (x : X) → lacks 32 w ≡ true → is_break rest ≡ true → of w ≡ Some x → field (32 ∷ (w ++ rest)) ≡ Some (x, rest)
  field-reads w rest x word break is =
      ap (λ o. o >>= (λ w. of w.0 >>= (λ x. Some (x, w.1)))) (next_word-word w rest word break)
      ∙ ap (λ o. o >>= (λ x. Some (x, rest))) is

  -- a word that means x, and what follows it
  pub record IsField (bytes : List ℕ) (x : X) (rest : List ℕ) : Type 0 where
    pub word : List ℕ
    pub means : of word ≡ Some x
    pub bytes_are : bytes ≡ 32 ∷ (word ++ rest)
    pub break : is_break rest ≡ true

  pub field-whole : (bytes : List ℕ) (x : X × List ℕ) → field bytes ≡ Some x → IsField bytes x.0 x.1
  field-whole bytes x is =
      let cut = bind-some (next_word bytes) (λ w. of w.0 >>= (λ x. Some (x, w.1))) x is in
      let meant = bind-some (of cut.0.0) (λ y. let o : Option (X × List ℕ) = Some (y, cut.0.1) in o) x cut.2 in
      let whole = next_word-whole bytes cut.0 cut.1 in
      let same : (meant.0, cut.0.1) ≡ x = cc in
      subst (λ (y : X × List ℕ). IsField bytes y.0 y.1) same (record { word = cut.0.0; means = meant.1; bytes_are = whole.0; break = whole.1 })

-- what a field leaves: the bytes are its text and the rest, which begins with a space if anything is left
abbrev pub IsLeft : List ℕ → List ℕ → List ℕ → Type 0
IsLeft text rest bytes = (bytes ≡ text ++ rest) × (is_break rest ≡ true)

-- ---- numbers

pub number-reads : (n : ℕ) (rest : List ℕ) → IsNumber n → is_break rest ≡ true → number_next (number_text n ++ rest) ≡ Some (n, rest)
unfolding number_next
number-reads n rest is break = field-reads number_of (decimal n) rest n (decimal-lacks 32 n refl is) break (number_of-decimal n is)

pub number-whole : (bytes : List ℕ) (x : ℕ × List ℕ) → number_next bytes ≡ Some x → IsNumber x.0 × IsLeft (number_text x.0) x.1 bytes
unfolding number_next
number-whole bytes x is =
    let whole = field-whole number_of bytes x is in
    let meant = decimal-number_of whole.word x.0 whole.means in
    (meant.1, (whole.bytes_are ∙ ap (λ w. 32 ∷ (w ++ x.1)) meant.0, whole.break))

-- ---- ways

pub eq-is : (xs ys : List ℕ) → bytes_eq xs ys ≡ true → xs ≡ ys
eq-is [] [] is = refl
eq-is [] (y ∷ ys) is = absurd (false≢true is)
eq-is (x ∷ xs) [] is = absurd (false≢true is)
eq-is (x ∷ xs) (y ∷ ys) is =
    let parts = and_parts (x == y) (bytes_eq xs ys) is in
    λ i. eqb-true x y parts.0 i ∷ eq-is xs ys parts.1 i

-- one of two names
pub two_names : {X : Type 0} (word first second : List ℕ) (x y z : X) →
    cond (bytes_eq word first) (Some x) (cond (bytes_eq word second) (Some y) None) ≡ Some z →
    ((word ≡ first) × (x ≡ z)) ⊎ ((word ≡ second) × (y ≡ z))
two_names {X} word first second x y z is = by (bytes_eq word first) refl (bytes_eq word second) refl is
  where
    by : (t : Bool) → bytes_eq word first ≡ t → (u : Bool) → bytes_eq word second ≡ u →
        cond t (let o : Option X = Some x in o) (cond u (Some y) None) ≡ Some z → ((word ≡ first) × (x ≡ z)) ⊎ ((word ≡ second) × (y ≡ z))
    by true one u two e = inl (eq-is word first one, cc)
    by false one true two e = inr (eq-is word second two, cc)
    by false one false two e = absurd (cc)

pub way-reads : (w : Way) (rest : List ℕ) → is_break rest ≡ true → way_next (way_text w ++ rest) ≡ Some (w, rest)
unfolding way_next way_of
way-reads way.Easier rest break = field-reads way_of (codes "easier") rest way.Easier refl break refl
way-reads way.Whole rest break = field-reads way_of (codes "whole") rest way.Whole refl break refl

pub way-whole : (bytes : List ℕ) (x : Way × List ℕ) → way_next bytes ≡ Some x → IsLeft (way_text x.0) x.1 bytes
unfolding way_next way_of
way-whole bytes x is =
    let whole = field-whole way_of bytes x is in
    let spelled : 32 ∷ whole.word ≡ way_text x.0 =
    elim (two_names whole.word (codes "easier") (codes "whole") way.Easier way.Whole x.0 whole.means) as (λ _. 32 ∷ whole.word ≡ way_text x.0) [
      | inl one ↦ ap (λ w. 32 ∷ w) one.0 ∙ ap way_text one.1
      | inr two ↦ ap (λ w. 32 ∷ w) two.0 ∙ ap way_text two.1
    ] in
    (whole.bytes_are ∙ ap (λ l. l ++ x.1) spelled, whole.break)

-- ---- bits

pub bit-reads : (b : Bool) (rest : List ℕ) → is_break rest ≡ true → bit_next (bit_text b ++ rest) ≡ Some (b, rest)
unfolding bit_next bit_of
bit-reads true rest break = field-reads bit_of (codes "1") rest true refl break refl
bit-reads false rest break = field-reads bit_of (codes "0") rest false refl break refl

pub bit-whole : (bytes : List ℕ) (x : Bool × List ℕ) → bit_next bytes ≡ Some x → IsLeft (bit_text x.0) x.1 bytes
unfolding bit_next bit_of
bit-whole bytes x is =
    let whole = field-whole bit_of bytes x is in
    let spelled : 32 ∷ whole.word ≡ bit_text x.0 =
    elim (two_names whole.word (codes "1") (codes "0") true false x.0 whole.means) as (λ _. 32 ∷ whole.word ≡ bit_text x.0) [
      | inl one ↦ ap (λ w. 32 ∷ w) one.0 ∙ ap bit_text one.1
      | inr two ↦ ap (λ w. 32 ∷ w) two.0 ∙ ap bit_text two.1
    ] in
    (whole.bytes_are ∙ ap (λ l. l ++ x.1) spelled, whole.break)

-- ---- targets

-- a decimal doesn't begin with `=`
node-means : (n : ℕ) → (word : List ℕ) → number_of word ≡ Some n → lacks 61 word ≡ true → target_of word ≡ Some (target.Node n)
unfolding target_of number_of
node-means n [] read none = absurd (cc)
node-means n (first ∷ others) read none =
    let other = lacks-head (first == 61) (lacks 61 others) none in
    ap (λ t. cond t (option_map target.State (number_of others)) (option_map target.Node (number_of (first ∷ others)))) other.0
    ∙ ap (option_map target.Node) read

pub target-reads : (t : Target) (rest : List ℕ) → IsTarget t → is_break rest ≡ true → target_next (target_text t ++ rest) ≡ Some (t, rest)
unfolding target_next target_of
target-reads (target.State q) rest is break =
    field-reads target_of (61 ∷ decimal q) rest (target.State q) (decimal-lacks 32 q refl is) break (ap (option_map target.State) (number_of-decimal q is))
target-reads (target.Node n) rest is break =
    field-reads target_of (decimal n) rest (target.Node n) (decimal-lacks 32 n refl is) break
    (node-means n (decimal n) (number_of-decimal n is) (decimal-lacks 61 n refl is))

equals : (b : ℕ) → (b == 61) ≡ true → b ≡ 61
equals b is = grind arith

-- the word of a target
target-spelled : (word : List ℕ) (t : Target) → target_of word ≡ Some t → IsTarget t × (32 ∷ word ≡ target_text t)
unfolding target_of
target-spelled [] t is = absurd (cc)
target-spelled (first ∷ others) t is = by (first == 61) refl is
  where
    by : (u : Bool) → (first == 61) ≡ u →
        cond u (option_map target.State (number_of others)) (option_map target.Node (number_of (first ∷ others))) ≡ Some t →
        IsTarget t × (32 ∷ first ∷ others ≡ target_text t)
    by true here e =
        let found = map-some (number_of others) target.State t e in
        let meant = decimal-number_of others found.0 found.1 in
        subst (λ (x : Target). IsTarget x × (32 ∷ first ∷ others ≡ target_text x)) found.2
        (meant.1, (λ i. 32 ∷ equals first here i ∷ meant.0 i))
    by false here e =
        let found = map-some (number_of (first ∷ others)) target.Node t e in
        let meant = decimal-number_of (first ∷ others) found.0 found.1 in
        subst (λ (x : Target). IsTarget x × (32 ∷ first ∷ others ≡ target_text x)) found.2
        (meant.1, ap (λ w. 32 ∷ w) meant.0)

pub target-whole : (bytes : List ℕ) (x : Target × List ℕ) → target_next bytes ≡ Some x → IsTarget x.0 × IsLeft (target_text x.0) x.1 bytes
unfolding target_next
target-whole bytes x is =
    let whole = field-whole target_of bytes x is in
    let spelled = target-spelled whole.word x.0 whole.means in
    (spelled.0, (whole.bytes_are ∙ ap (λ l. l ++ x.1) spelled.1, whole.break))

-- ---- lists of numbers

abbrev pub numbers_text : List ℕ → List ℕ
numbers_text ns = joined (numbers_texts ns)

pub numbers-break : (ns : List ℕ) → is_break (numbers_text ns) ≡ true
numbers-break [] = refl
numbers-break (n ∷ ns) = refl

pub numbers_in-reads : (k : ℕ) (ns : List ℕ) → length ns ≤ k → AreNumbers ns → numbers_in k (numbers_text ns) ≡ Some ns
numbers_in-reads zero [] few all = refl
numbers_in-reads (suc k) [] few all = refl
numbers_in-reads zero (n ∷ ns) few all = absurd (omega arith)
numbers_in-reads (suc k) (n ∷ ns) few all =
    ap (λ o. o >>= (λ m. option_map (λ ms. m.0 ∷ ms) (numbers_in k m.1))) (number-reads n (numbers_text ns) all.0 (numbers-break ns))
    ∙ ap (option_map (λ ms. n ∷ ms)) (numbers_in-reads k ns (omega arith) all.1)

numbers-long : (ns : List ℕ) → length ns ≤ length (numbers_text ns)
numbers-long [] = omega arith
numbers-long (n ∷ ns) =
    let rest = numbers-long ns in
    let both = length-append (number_text n) (numbers_text ns) in
    omega (arith, rest, both)

pub numbers-read : (ns : List ℕ) → AreNumbers ns → numbers_of (numbers_text ns) ≡ Some ns
unfolding numbers_of
numbers-read ns all = numbers_in-reads (length (numbers_text ns)) ns (numbers-long ns) all

pub numbers_in-whole : (k : ℕ) (bytes ns : List ℕ) → numbers_in k bytes ≡ Some ns → AreNumbers ns × (bytes ≡ numbers_text ns)
numbers_in-whole zero [] ns is = let none : [] ≡ ns = cc in subst (λ (l : List ℕ). AreNumbers l × ([] ≡ numbers_text l)) none (tt, refl)
numbers_in-whole (suc k) [] ns is = let none : [] ≡ ns = cc in subst (λ (l : List ℕ). AreNumbers l × ([] ≡ numbers_text l)) none (tt, refl)
numbers_in-whole zero (b ∷ bs) ns is = absurd (cc)
numbers_in-whole (suc k) (b ∷ bs) ns is =
    let first = bind-some (number_next (b ∷ bs)) (λ m. option_map (λ ms. m.0 ∷ ms) (numbers_in k m.1)) ns is in
    let others = map-some (numbers_in k first.0.1) (λ ms. first.0.0 ∷ ms) ns first.2 in
    let one = number-whole (b ∷ bs) first.0 first.1 in
    let rest = numbers_in-whole k first.0.1 others.0 others.1 in
    subst (λ (l : List ℕ). AreNumbers l × ((b ∷ bs) ≡ numbers_text l)) others.2
    ((one.0, rest.0), one.1.0 ∙ ap (λ l. number_text first.0.0 ++ l) rest.1)

pub numbers-whole : (bytes ns : List ℕ) → numbers_of bytes ≡ Some ns → AreNumbers ns × (bytes ≡ numbers_text ns)
unfolding numbers_of
numbers-whole bytes ns is = numbers_in-whole (length bytes) bytes ns is
