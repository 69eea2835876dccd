-- The line `run PROC STEPS`: where its name ends, and that it says one thing.
use Rattle.std.proofs.Common.{◌≡◌, ◌∙◌, ◌+◌, ◌≤◌, ◌==◌, ◌&&◌, ℕ, suc, Bool, true, false, List, [], ◌∷◌, ◌++◌, take, drop, Option, Some, None, position}
use Rattle.std.proofs.Common.{option_map, codes, refl, sym, ap, subst, arith}
use Rattle.std.specs.Prelude.{IsTrue, IfNone}
use Rattle.std.specs.List.{AllByRecursion, list_all}
use Rattle.std.specs.Char.{is_ascii_alphabetic}
use Rattle.std.proofs.lemmas.Option.{same_Some}
use Rattle.store_text.specs.Spelling.{cut_at, is_name, is_name_part, number_of}
use Rattle.store_text.proofs.Words.{plain_part, parts_all, AreParts, cut_front}
use Rattle.pale_parts.specs.Parts.{IsRunLine}
use Rattle.pale_parts.proofs.PartLemmas.{cut_at_byte}

-- ---- where a word is cut

-- the byte stands between what stands before it and what follows
pub cut_is : (byte : ℕ) (word front back : List ℕ) → cut_at byte word ≡ Some (front, back) → word ≡ front ++ byte ∷ back
cut_is byte word front back is = by (position (λ b. b == byte) word) refl is
  where
    by : (r : Option ℕ) → position (λ b. b == byte) word ≡ r → option_map {U = List ℕ × List ℕ} (λ i. (take i word, drop (i + 1) word)) r ≡ Some (front, back) →
        word ≡ front ++ byte ∷ back
    by None at e = absurd (cc)
    by (Some i) at e =
        let both = same_Some (take i word, drop (i + 1) word) (front, back) e in
        let before : take i word ≡ front = ap (λ p. p.0) both in
        let behind : drop (i + 1) word ≡ back = ap (λ p. p.1) both in
        let one : suc i ≡ i + 1 = omega arith in
        cut_at_byte byte word i at ∙ ap (λ n. take i word ++ byte ∷ drop n word) one ∙ ap (λ l. l ++ byte ∷ drop (i + 1) word) before
        ∙ ap (λ l. front ++ byte ∷ l) behind

-- a name has no space
no_space : (name : List ℕ) → AreParts name → AllByRecursion (λ b. (b == 32) ≡ false) name
no_space [] parts = tt
no_space (b ∷ bs) parts = ((plain_part b parts.0).space, no_space bs parts.1)

first_part : (b : ℕ) → is_ascii_alphabetic b ≡ true → is_name_part b ≡ true
first_part b is = grind arith

name_parts : (name : List ℕ) → IsTrue (is_name name) → AreParts name
name_parts [] is = absurd (cc)
name_parts (b ∷ bs) is = let both = split (is_ascii_alphabetic b) (list_all is_name_part bs) is in (first_part b both.0, parts_all bs both.1)
  where
    split : (x y : Bool) → (x && y) ≡ true → (x ≡ true) × (y ≡ true)
    split true y e = (refl, e)
    split false y e = absurd (cc)

-- so the first space stands behind it
pub name_cut : (name word : List ℕ) → IsTrue (is_name name) → cut_at 32 (name ++ 32 ∷ word) ≡ Some (name, word)
name_cut name word is = cut_front 32 name word (no_space name (name_parts name is)) refl

-- ---- what a line says

-- by what follows `run `
pub words_of : (line words name : List ℕ) (steps : ℕ) → line ≡ codes "run " ++ words → (is : IsRunLine line name steps) →
    words ≡ name ++ 32 ∷ is.word
words_of line words name steps whole is = ap (drop 4) (sym whole ∙ is.spelled)

pub cut_of : (line words name : List ℕ) (steps : ℕ) → line ≡ codes "run " ++ words → (is : IsRunLine line name steps) →
    cut_at 32 words ≡ Some (name, is.word)
cut_of line words name steps whole is = ap (cut_at 32) (words_of line words name steps whole is) ∙ name_cut name is.word is.named

-- it names one procedure and one number
pub one_run : (line name other : List ℕ) (steps more : ℕ) → IsRunLine line name steps → IsRunLine line other more → (name ≡ other) × (steps ≡ more)
one_run line name other steps more one two =
    let cut = sym (cut_of line (name ++ 32 ∷ one.word) name steps one.spelled one) ∙ cut_of line (name ++ 32 ∷ one.word) other more one.spelled two in
    let both : (name, one.word) ≡ (other, two.word) = same_Some (name, one.word) (other, two.word) cut in
    let same : one.word ≡ two.word = ap (λ p. p.1) both in
    (ap (λ p. p.0) both, same_Some steps more (sym one.counted ∙ ap number_of same ∙ two.counted))

-- what stands in a line that has this form
pub run_line : (line words name word : List ℕ) (steps : ℕ) → line ≡ codes "run " ++ words → cut_at 32 words ≡ Some (name, word) →
    number_of word ≡ Some steps → steps ≤ 100000 → is_name name ≡ true → IsRunLine line name steps
run_line line words name word steps whole cut counted few named = record {
  word = word;
  spelled = whole ∙ ap (λ l. codes "run " ++ l) (cut_is 32 words name word cut);
  named = named;
  counted = counted;
  few = few;
}

-- ---- what stands in a line that hasn't

pub if_none : {X P : Type 0} (o : Option X) → P → IfNone o P
if_none None p = p
if_none (Some x) p = tt

no_some : {X : Type 0} (x : X) → None ≡ Some x → ⊥
no_some x is = absurd (cc)

abbrev pub IsNone : List ℕ → Type 0
IsNone line = (name : List ℕ) (steps : ℕ) → IsRunLine line name steps → ⊥

-- what follows `run ` has no space
pub uncut : (line words : List ℕ) → line ≡ codes "run " ++ words → cut_at 32 words ≡ None → IsNone line
uncut line words whole cut name steps is = no_some (name, is.word) (sym cut ∙ cut_of line words name steps whole is)

-- it has one, and these stand before and after the first
module _ (line words name word : List ℕ) (whole : line ≡ codes "run " ++ words) (cut : cut_at 32 words ≡ Some (name, word)) where
  both : (other : List ℕ) (steps : ℕ) → (is : IsRunLine line other steps) → (name ≡ other) × (word ≡ is.word)
  both other steps is =
      let same = same_Some (name, word) (other, is.word) (sym cut ∙ cut_of line words other steps whole is) in
      (ap (λ p. p.0) same, ap (λ p. p.1) same)

  pub uncounted : number_of word ≡ None → IsNone line
  uncounted none other steps is =
      let bad : None ≡ Some steps = sym none ∙ ap number_of (both other steps is).1 ∙ is.counted in
      absurd (cc)

  pub unnamed : (is_name name ≡ true → ⊥) → IsNone line
  unnamed none other steps is = none (subst (λ (l : List ℕ). is_name l ≡ true) (sym (both other steps is).0) is.named)

  module _ (many : ℕ) (counted : number_of word ≡ Some many) where
    pub too_many : (many ≤ 100000 → ⊥) → IsNone line
    too_many none other steps is =
        let same = same_Some many steps (sym counted ∙ ap number_of (both other steps is).1 ∙ is.counted) in
        none (subst (λ (n : ℕ). n ≤ 100000) (sym same) is.few)
