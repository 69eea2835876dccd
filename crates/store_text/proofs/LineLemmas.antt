-- Lines and parts, found byte by byte.
use Rattle.std.proofs.Common.{◌≡◌, ℕ, suc, ◌-◌, ◌<◌, ◌==◌, ◌&&◌, not, Bool, true, false, cond, List, [], ◌∷◌, ◌++◌, length, take, drop, Option, Some}
use Rattle.std.proofs.Common.{None, position, refl, sym, ap, ◌∙◌, arith, append_assoc, length-drop}
use Rattle.std.specs.Option.{option_map}
use Rattle.std.specs.List.{onto_first}
use Rattle.std.proofs.lemmas.List.{take_all, append-nil}
use Rattle.store_text.specs.Lines.{lines_of, parts_from, braced_after}
use Rattle.store_core.proofs.Names.{position-cons}

-- what is left behind a place
pub rest_from : {A : Type 0} (xs : List A) (k : ℕ) → take (length xs - k) (drop k xs) ≡ drop k xs
rest_from {A = A} xs k = take_all (length xs - k) (drop k xs) (omega (arith, length-drop k xs))

at_cons : (t : Bool) (r : Option ℕ) (b : ℕ) (bs : List ℕ) (i : ℕ) → cond t (Some 0) (option_map suc r) ≡ Some i →
    ((j : ℕ) → r ≡ Some j → lines_of bs ≡ take j bs ∷ lines_of (drop (suc j) bs))
    → cond t ([] ∷ lines_of bs) (onto_first b (lines_of bs)) ≡ take i (b ∷ bs) ∷ lines_of (drop (suc i) (b ∷ bs))
at_cons true r b bs i e deeper = let is : 0 ≡ i = cc in ap (λ n. take n (b ∷ bs) ∷ lines_of (drop (suc n) (b ∷ bs))) is
at_cons false None b bs i e deeper = absurd (cc)
at_cons false (Some j) b bs i e deeper =
    let is : suc j ≡ i = cc in
    ap (onto_first b) (deeper j refl) ∙ ap (λ n. take n (b ∷ bs) ∷ lines_of (drop (suc n) (b ∷ bs))) is

-- the first line ends at the first LF
pub lines_of-at : (text : List ℕ) (i : ℕ) → position (λ b. b == 10) text ≡ Some i → lines_of text ≡ take i text ∷ lines_of (drop (suc i) text)
lines_of-at [] i e = absurd (cc)
lines_of-at (b ∷ bs) i e = at_cons (b == 10) (position (λ c. c == 10) bs) b bs i (sym (position-cons (λ c. c == 10) b bs) ∙ e) (λ j. lines_of-at bs j)

none_cons : (t : Bool) (r : Option ℕ) (b : ℕ) (ls : List (List ℕ)) (bs : List ℕ) → cond t (Some 0) (option_map suc r) ≡ None →
    (r ≡ None → onto_first b ls ≡ (b ∷ bs) ∷ [])
    → cond t ([] ∷ ls) (onto_first b ls) ≡ (b ∷ bs) ∷ []
none_cons true r b ls bs e deeper = absurd (cc)
none_cons false None b ls bs e deeper = deeper refl
none_cons false (Some j) b ls bs e deeper = absurd (cc)

-- a text without an LF is one line
pub lines_of-none : (b : ℕ) (bs : List ℕ) → position (λ c. c == 10) (b ∷ bs) ≡ None → lines_of (b ∷ bs) ≡ (b ∷ bs) ∷ []
lines_of-none b [] e = none_cons (b == 10) None b [] [] (sym (position-cons (λ c. c == 10) b []) ∙ e) (λ n. refl)
lines_of-none b (d ∷ bs) e =
    none_cons (b == 10) (position (λ c. c == 10) (d ∷ bs)) b (lines_of (d ∷ bs)) (d ∷ bs) (sym (position-cons (λ c. c == 10) b (d ∷ bs)) ∙ e)
    (λ n. ap (onto_first b) (lines_of-none d bs n))

pub lines_of-whole : (text : List ℕ) → 0 < length text → position (λ c. c == 10) text ≡ None → lines_of text ≡ text ∷ []
lines_of-whole [] some e = absurd (omega arith)
lines_of-whole (b ∷ bs) some e = lines_of-none b bs e

-- ---- parts

-- these bytes before the first part
abbrev pub before : List ℕ → List (List ℕ) → List (List ℕ)
before front [] = front ∷ []
before front (part ∷ parts) = (front ++ part) ∷ parts

pub before_nothing : (braced : Bool) (bytes : List ℕ) → before [] (parts_from braced bytes) ≡ parts_from braced bytes
before_nothing braced [] = refl
before_nothing braced (b ∷ bytes) = by (not braced && (b == 32)) (parts_from (braced_after braced b) bytes)
  where
    by : (t : Bool) (ps : List (List ℕ)) → before [] (cond t ([] ∷ parts_from false bytes) (onto_first b ps)) ≡ cond t
        ([] ∷ parts_from false bytes) (onto_first b ps)
    by true ps = refl
    by false [] = refl
    by false (p ∷ ps) = refl

before_first_byte : (front : List ℕ) (b : ℕ) (ps : List (List ℕ)) → before front (onto_first b ps) ≡ before (front ++ b ∷ []) ps
before_first_byte front b [] = refl
before_first_byte front b (p ∷ ps) = ap (λ l. l ∷ ps) (sym (append_assoc front (b ∷ []) p))

cut_outside : (braced t : Bool) → (not braced && t) ≡ true → false ≡ braced
cut_outside true t is = absurd (cc)
cut_outside false t is = refl

-- a space outside of braces ends a part
pub parts_at_space : (parts : List (List ℕ)) (part : List ℕ) (braced : Bool) (b : ℕ) (bytes : List ℕ) → (not braced && (b == 32)) ≡ true
    → parts ++ before part (parts_from braced (b ∷ bytes)) ≡ (parts ++ part ∷ []) ++ before [] (parts_from braced bytes)
parts_at_space parts part braced b bytes is =
    ap (λ t. parts ++ before part (cond t ([] ∷ parts_from false bytes) (onto_first b (parts_from (braced_after braced b) bytes)))) is
    ∙ ap (λ p. parts ++ p ∷ parts_from false bytes) (append-nil part)
    ∙ sym (append_assoc parts (part ∷ []) (parts_from false bytes))
    ∙ ap (λ ps. (parts ++ part ∷ []) ++ ps) (sym (before_nothing false bytes))
    ∙ ap (λ o. (parts ++ part ∷ []) ++ before [] (parts_from o bytes)) (cut_outside braced (b == 32) is)

-- another byte goes on with it
pub parts_past_byte : (parts : List (List ℕ)) (part : List ℕ) (braced : Bool) (b : ℕ) (bytes : List ℕ) → (not braced && (b == 32)) ≡ false
    → parts ++ before part (parts_from braced (b ∷ bytes)) ≡ parts ++ before (part ++ b ∷ []) (parts_from (braced_after braced b) bytes)
parts_past_byte parts part braced b bytes is =
    ap (λ t. parts ++ before part (cond t ([] ∷ parts_from false bytes) (onto_first b (parts_from (braced_after braced b) bytes)))) is
    ∙ ap (λ ps. parts ++ ps) (before_first_byte part b (parts_from (braced_after braced b) bytes))
