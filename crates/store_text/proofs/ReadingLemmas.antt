-- A text read line by line, and what stands behind its end.
use Rattle.std.proofs.Common.{◌≡◌, ℕ, ◌+◌, ◌==◌, Bool, true, false, cond, List, [], ◌∷◌, length, Option, Some, None, Result, Ok, Err, IsSomeAnd}
use Rattle.std.proofs.Common.{codes, refl, sym, ap, ◌∙◌, arith}
use Rattle.std.specs.Option.{option_map_or}
use Rattle.std.specs.List.{find, onto_first}
use Rattle.std.specs.Str.{bytes_eq}
use Rattle.std.proofs.lemmas.Bool.Decides.{nat_tests}
use Rattle.store_core.specs.declared.value.Value.{Value}
use Rattle.store_text.specs.declared.fault.StoreKind.{StoreKind}
use Rattle.store_text.specs.declared.fault.StoreKind.TheVariants as kind
use Rattle.store_text.specs.declared.read.holds.Mention.{Mention}
use Rattle.store_core.specs.Tables.{TypeEntry, VarEntry}
use Rattle.store_core.specs.Stores.{StoreMap}
use Rattle.store_text.specs.Lines.{lines_of}
use Rattle.store_text.specs.Spelling.{all_of, line_of}
use Rattle.store_text.specs.Saying.{Said, nothing_said}
use Rattle.store_text.specs.Reading.{store_said, is_misnamed, checked, fault_at, after_end, read_end, say_line, at_line, read_lines, read_text, reading}

-- ---- the end

pub checked-fine : (store : StoreMap) (mentions : List Mention) → find (is_misnamed store) mentions ≡ None → checked store mentions ≡ Ok store
unfolding checked
checked-fine store mentions none = ap (λ o. option_map_or (λ m. Err (record { line = m.line; kind = kind.WrongType })) o (Ok store)) none

pub checked-wrong : (store : StoreMap) (mentions : List Mention) (m : Mention) → find (is_misnamed store) mentions ≡ Some m →
    checked store mentions ≡ fault_at m.line kind.WrongType
unfolding checked
checked-wrong store mentions m found = ap (λ o. option_map_or (λ m. Err (record { line = m.line; kind = kind.WrongType })) o (Ok store)) found

pub after_end-over : (n : ℕ) (store : StoreMap) (mentions : List Mention) (text : List ℕ) → (length text == 0) ≡ true →
    after_end n store mentions (lines_of text) ≡ checked store mentions
unfolding after_end
after_end-over n store mentions [] over = refl
after_end-over n store mentions (b ∷ bs) over = absurd (grind (arith, nat_tests))

pub after_end-more : (n : ℕ) (store : StoreMap) (mentions : List Mention) (text : List ℕ) → (length text == 0) ≡ false →
    after_end n store mentions (lines_of text) ≡ fault_at (n + 1) kind.Syntax
unfolding after_end
after_end-more n store mentions [] more = absurd (cc)
after_end-more n store mentions (b ∷ bs) more = by (b == 10) (lines_of bs)
  where
    by : (t : Bool) (ls : List (List ℕ)) → after_end n store mentions (cond t ([] ∷ ls) (onto_first b ls)) ≡ fault_at (n + 1) kind.Syntax
    by true ls = refl
    by false [] = refl
    by false (l ∷ ls) = refl

pub read_end-missing : (n : ℕ) (said : Said) (after : List (List ℕ)) → all_of (λ x. x) said.vars ≡ None → read_end n said after ≡ fault_at n kind.Missing
unfolding read_end
read_end-missing n said after none = ap
    (λ o. option_map_or (λ values. after_end n (store_said said values) said.mentions after) o (fault_at n kind.Missing)) none

pub read_end-store : (n : ℕ) (said : Said) (after : List (List ℕ)) (store : StoreMap) → IsSomeAnd (all_of (λ x. x) said.vars)
    (λ values. store ≡ store_said said values)
    → read_end n said after ≡ after_end n store said.mentions after
unfolding read_end
read_end-store n said after store made = by (all_of (λ x. x) said.vars) made
  where
    by : (o : Option (List Value)) → IsSomeAnd o (λ values. store ≡ store_said said values) →
        option_map_or (λ values. after_end n (store_said said values) said.mentions after) o (fault_at n kind.Missing) ≡ after_end n store said.mentions after
    by None some = absurd some
    by (Some values) same = ap (λ s. after_end n s said.mentions after) (sym same)

-- ---- line by line

-- a text that is over has no line
pub lines_of-over : (text : List ℕ) → (length text == 0) ≡ true → lines_of text ≡ []
lines_of-over [] over = refl
lines_of-over (b ∷ bs) over = absurd (grind (arith, nat_tests))

module _ (types : List TypeEntry) (vars : List VarEntry) where
  pub reading-nothing : (text : List ℕ) → (length text == 0) ≡ true → reading types vars text ≡ fault_at 1 kind.Missing
  unfolding reading read_text
  reading-nothing [] none = refl
  reading-nothing (b ∷ bs) none = absurd (grind (arith, nat_tests))

  pub reading-other : (text first : List ℕ) (lines : List (List ℕ)) → lines_of text ≡ first ∷ lines →
      bytes_eq first (codes "store") ≡ false → reading types vars text ≡ fault_at 1 kind.Syntax
  unfolding reading read_text
  reading-other text first lines is other = ap (read_text types vars) is ∙
      ap (λ t. cond t (read_lines types vars 2 (nothing_said vars) lines) (fault_at 1 kind.Syntax)) other

  pub reading-store : (text first : List ℕ) (lines : List (List ℕ)) → lines_of text ≡ first ∷ lines →
      bytes_eq first (codes "store") ≡ true → reading types vars text ≡ read_lines types vars 2 (nothing_said vars) lines
  unfolding reading read_text
  reading-store text first lines is store = ap (read_text types vars) is ∙
      ap (λ t. cond t (read_lines types vars 2 (nothing_said vars) lines) (fault_at 1 kind.Syntax)) store

  module _ (n : ℕ) (said : Said) where
    pub read_lines-over : (lines : List (List ℕ)) → lines ≡ [] → read_lines types vars n said lines ≡ fault_at n kind.Missing
    unfolding read_lines
    read_lines-over lines is = ap (read_lines types vars n said) is

    module _ (lines : List (List ℕ)) (line : List ℕ) (rest : List (List ℕ)) (is : lines ≡ line ∷ rest) where
      pub read_lines-end : bytes_eq line (codes "end") ≡ true → read_lines types vars n said lines ≡ read_end n said rest
      unfolding read_lines
      read_lines-end end =
          ap (read_lines types vars n said) is
          ∙ ap (λ t. cond t (read_end n said rest)
          (at_line n (say_line types vars n said (line_of line)) (λ more. read_lines types vars (n + 1) more rest))) end

      pub read_lines-said : (r : Result Said StoreKind) → bytes_eq line (codes "end") ≡ false → say_line types vars n said (line_of line) ≡ r
          → read_lines types vars n said lines ≡ at_line n r (λ more. read_lines types vars (n + 1) more rest)
      unfolding read_lines
      read_lines-said r goes says =
          ap (read_lines types vars n said) is
          ∙ ap (λ t. cond t (read_end n said rest)
          (at_line n (say_line types vars n said (line_of line)) (λ more. read_lines types vars (n + 1) more rest))) goes
          ∙ ap (λ s. at_line n s (λ more. read_lines types vars (n + 1) more rest)) says
