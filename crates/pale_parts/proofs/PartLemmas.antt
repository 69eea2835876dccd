-- Lines, and where a text is cut.
use Rattle.std.proofs.Common.{◌≡◌, ℕ, suc, ◌+◌, ◌-◌, ◌*◌, ◌<◌, ◌≤◌, ◌==◌, ◌&&◌, nat_le, Bool, true, false, cond, List, [], ◌∷◌, ◌++◌, length, take, drop}
use Rattle.std.proofs.Common.{Option, Some, None, position, refl, sym, ap, ◌∙◌, arith, append_assoc, inl, inr, ◌⊎◌}
use Rattle.std.specs.Prelude.{Contains}
use Rattle.std.specs.Option.{option_map}
use Rattle.std.specs.List.{list_all, onto_first}
use Rattle.std.specs.Char.{is_ascii_digit, digit_value}
use Rattle.std.specs.Str.Parse.{digits_value_after}
use Rattle.std.proofs.lemmas.Bool.Decides.{nat_tests}
use Rattle.std.proofs.Common.{length-append, subst, codes, IfSome}
use Rattle.std.proofs.Math.Seq.{take-append_seam, drop-append_seam}
use Rattle.std.proofs.lemmas.List.{append_cancel_right, append-nil, take-append-drop}
use Rattle.std.proofs.lemmas.List.Elements.{Contains-append_cases}
use Rattle.store_core.proofs.Names.{position-cons}
use Rattle.routing_walks.proofs.GatheringLemmas.{Contains-one}
use Rattle.store_text.specs.Lines.{lines_of}
use Rattle.store_text.specs.Spelling.{number_of, number_after}
use Rattle.pale_parts.specs.Parts.{cut_line, HasNoCut, IsCutAs, IsTripleLine}

-- ---- lines

at_cons : (byte b : ℕ) (bs : List ℕ) (r : Option ℕ) (t : Bool) (i : ℕ) → (b == byte) ≡ t → cond t (Some 0) (option_map suc r) ≡ Some i →
    ((j : ℕ) → r ≡ Some j → bs ≡ take j bs ++ byte ∷ drop (suc j) bs) → b ∷ bs ≡ take i (b ∷ bs) ++ byte ∷ drop (suc i) (b ∷ bs)
at_cons byte b bs r true i is e deeper =
    let here : b ≡ byte = grind (arith, nat_tests) in
    let zero_is : 0 ≡ i = cc in
    ap (λ n. n ∷ bs) here ∙ ap (λ n. take n (b ∷ bs) ++ byte ∷ drop (suc n) (b ∷ bs)) zero_is
at_cons byte b bs None false i is e deeper = absurd (cc)
at_cons byte b bs (Some j) false i is e deeper =
    let suc_is : suc j ≡ i = cc in
    ap (λ l. b ∷ l) (deeper j refl) ∙ ap (λ n. take n (b ∷ bs) ++ byte ∷ drop (suc n) (b ∷ bs)) suc_is

-- the first such byte stands between what stands before it and what follows it
pub cut_at_byte : (byte : ℕ) (text : List ℕ) (i : ℕ) → position (λ b. b == byte) text ≡ Some i → text ≡ take i text ++ byte ∷ drop (suc i) text
cut_at_byte byte [] i e = absurd (cc)
cut_at_byte byte (b ∷ bs) i e =
    at_cons byte b bs (position (λ c. c == byte) bs) (b == byte) i refl (sym (position-cons (λ c. c == byte) b bs) ∙ e) (λ j. cut_at_byte byte bs j)

-- an LF stands between the first line and what follows it
pub cut_at_lf : (text : List ℕ) (i : ℕ) → position (λ b. b == 10) text ≡ Some i → text ≡ take i text ++ 10 ∷ drop (suc i) text
cut_at_lf = cut_at_byte 10

lines-onto : (t : Bool) (b : ℕ) (ls ms more : List (List ℕ)) (x : List ℕ) (xs : List (List ℕ)) → ms ≡ ls ++ more → ls ≡ x ∷ xs →
    cond t ([] ∷ ms) (onto_first b ms) ≡ cond t ([] ∷ ls) (onto_first b ls) ++ more
lines-onto true b ls ms more x xs e some = ap (λ l. [] ∷ l) e
lines-onto false b ls ms more x xs e some = (λ i. onto_first b ((e ∙ ap (λ l. l ++ more) some) i)) ∙ ap (λ l. onto_first b l ++ more) (sym some)

-- a text that ends in an LF has a line
some_line : (xs : List ℕ) → (x : List ℕ) × (rest : List (List ℕ)) × (lines_of (xs ++ 10 ∷ []) ≡ x ∷ rest)
some_line [] = ([], [], refl)
some_line (b ∷ bs) = by (b == 10) (some_line bs)
  where
    by : (t : Bool) → ((x : List ℕ) × (rest : List (List ℕ)) × (lines_of (bs ++ 10 ∷ []) ≡ x ∷ rest)) → (x : List ℕ) × (rest : List (List ℕ))
        × (cond t ([] ∷ lines_of (bs ++ 10 ∷ [])) (onto_first b (lines_of (bs ++ 10 ∷ []))) ≡ x ∷ rest)
    by true more = ([], lines_of (bs ++ 10 ∷ []), refl)
    by false (x, rest, is) = (b ∷ x, rest, ap (onto_first b) is)

-- the lines after an LF stand behind those before it
lines-after : (xs ys : List ℕ) → lines_of (xs ++ 10 ∷ ys) ≡ lines_of (xs ++ 10 ∷ []) ++ lines_of ys
lines-after [] ys = refl
lines-after (b ∷ bs) ys =
    let some = some_line bs in
    lines-onto (b == 10) b (lines_of (bs ++ 10 ∷ [])) (lines_of (bs ++ 10 ∷ ys)) (lines_of ys) some.0 some.1 (lines-after bs ys) some.2

-- ---- one line further

-- where a text is put together, and is cut there again
seam : (text front after : List ℕ) → text ≡ front ++ after →
    (take (length text - length after) text ≡ front) × (drop (length text - length after) text ≡ after)
seam text front after e =
    let long : length text ≡ length front + length after = ap length e ∙ length-append front after in
    let at : length text - length after ≡ length front = omega arith in (
      ap (λ n. take n text) at ∙ ap (take (length front)) e ∙ take-append_seam front after,
      ap (λ n. drop n text) at ∙ ap (drop (length front)) e ∙ drop-append_seam front after,
    )

-- the text's lines go on at this place, and none before it is `---`
pub record Looked (text : List ℕ) (start : ℕ) : Type 0 where
  pub within : start ≤ length text
  pub lines : lines_of text ≡ lines_of (take start text) ++ lines_of (drop start text)
  pub none : HasNoCut (take start text)

-- a front of the text, and what follows it
record Longer (text after : List ℕ) : Type 0 where
  front : List ℕ
  whole : text ≡ front ++ after
  lines : lines_of text ≡ lines_of front ++ lines_of after

-- a line stands at this place, and then this follows
module _ (text line after : List ℕ) (start : ℕ) (here : Looked text start) (next : lines_of (drop start text) ≡ line ∷ lines_of after)
    (bytes : (drop start text ≡ line ++ 10 ∷ after) ⊎ ((drop start text ≡ line) × (after ≡ []))) where
  whole : text ≡ take start text ++ drop start text
  whole = sym (take-append-drop start text)

  longer : Longer text after
  longer = elim bytes [
    | inl with_lf ↦
        let same : text ≡ (take start text ++ line) ++ 10 ∷ after =
        whole ∙ ap (λ l. take start text ++ l) with_lf ∙ sym (append_assoc (take start text) line (10 ∷ after)) in
        record {
          front = (take start text ++ line) ++ 10 ∷ [];
          whole = same ∙ sym (append_assoc (take start text ++ line) (10 ∷ []) after);
          lines = ap lines_of same ∙ lines-after (take start text ++ line) after;
        }
    | inr last ↦ record {
      front = text;
      whole = sym (append-nil text) ∙ ap (λ l. text ++ l) (sym last.1);
      lines = sym (append-nil (lines_of text)) ∙ ap (λ l. lines_of text ++ lines_of l) (sym last.1);
    }
  ]

  split : lines_of text ≡ lines_of (take start text) ++ line ∷ lines_of after
  split = here.lines ∙ ap (λ ls. lines_of (take start text) ++ ls) next

  longer-lines : lines_of longer.front ≡ lines_of (take start text) ++ line ∷ []
  longer-lines = append_cancel_right (lines_of longer.front) (lines_of (take start text) ++ line ∷ []) (lines_of after)
      (sym longer.lines ∙ split ∙ sym (append_assoc (lines_of (take start text)) (line ∷ []) (lines_of after)))

  -- it isn't `---`, and so the text is looked through up to what follows it
  pub goes_on : (line ≡ cut_line → ⊥) → Looked text (length text - length after)
  goes_on other =
      let cut = seam text longer.front after longer.whole in
      record {
        within = omega arith;
        lines = longer.lines ∙ (λ i. lines_of (sym cut.0 i) ++ lines_of (sym cut.1 i));
        none = λ has. elim (Contains-append_cases (lines_of (take start text)) (line ∷ []) cut_line
            (subst (λ ls. Contains ls cut_line) (ap lines_of cut.0 ∙ longer-lines) has)) [
              | inl before ↦ here.none before
              | inr last ↦ other (sym (Contains-one line cut_line last))
            ];
      }

  -- it is `---`, and so the text is cut there
  pub cut_here : line ≡ cut_line → IsCutAs text (take start text) after
  cut_here is = record {
    bytes = elim bytes [
      | inl with_lf ↦ inl (whole ∙ ap (λ l. take start text ++ l) (with_lf ∙ ap (λ l. l ++ 10 ∷ after) is)
          ∙ sym (append_assoc (take start text) (codes "---\n") after))
      | inr last ↦ inr (whole ∙ ap (λ l. take start text ++ l) (last.0 ∙ is), last.1)
    ];
    lines = split ∙ ap (λ l. lines_of (take start text) ++ l ∷ lines_of after) is;
    first = here.none;
  }

-- ---- numbers

digits-grow : (front : ℕ) (ds : List ℕ) → front ≤ digits_value_after 10 front ds
digits-grow front [] = omega arith
digits-grow front (d ∷ ds) = let more = digits-grow (front * 10 + digit_value d) ds in omega (arith, more)

-- a number whose first digit isn't 0 is at least 1
from_first : (d : ℕ) (ds : List ℕ) (n : ℕ) (zero_first digit all small : Bool) → (d == 48) ≡ zero_first → is_ascii_digit d ≡ digit →
    cond zero_first None (cond ((digit && all) && small) (Some (digits_value_after 10 (0 * 10 + digit_value d) ds)) None) ≡ Some n → 0 < n
from_first d ds n true digit all small is of e = absurd (cc)
from_first d ds n false false all small is of e = absurd (cc)
from_first d ds n false true false small is of e = absurd (cc)
from_first d ds n false true true false is of e = absurd (cc)
from_first d ds n false true true true is of e =
    let value : digits_value_after 10 (0 * 10 + digit_value d) ds ≡ n = cc in
    let more = digits-grow (0 * 10 + digit_value d) ds in
    let least : 1 ≤ digit_value d = grind (arith, nat_tests) in
    omega (arith, value, more, least)

one_or_more : (word : List ℕ) (n : ℕ) → number_of word ≡ Some n → 0 < n
unfolding number_of number_after
one_or_more [] n e = absurd (cc)
one_or_more (d ∷ ds) n e =
    from_first d ds n (d == 48) (is_ascii_digit d) (list_all is_ascii_digit ds) (nat_le (digits_value_after 10 0 (d ∷ ds)) 1000000) refl refl e

-- the number of a line `triple K`
pub counted : (line word : List ℕ) → line ≡ codes "triple " ++ word → (r : Option ℕ) → r ≡ number_of word →
    IfSome r (λ number. IsTripleLine line number × (0 < number))
counted line word is None e = tt
counted line word is (Some n) e = (record { word = word; spelled = is; counted = sym e }, one_or_more word n (sym e))
