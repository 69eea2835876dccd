-- Lines and words, cut at the first byte of a kind.
use Rattle.std.proofs.Common.{◌≡◌, ℕ, suc, ◌+◌, ◌-◌, ◌==◌, ◌&&◌, not, nat_lt, Bool, true, false, cond, List, [], ◌∷◌, ◌++◌, length, take, drop}
use Rattle.std.proofs.Common.{Option, Some, None, position, unwrap_or, refl, sym, ap, subst, ◌∙◌, arith, length-drop}
use Rattle.std.specs.Option.{option_map}
use Rattle.std.proofs.lemmas.Bool.{and_from, and_parts}
use Rattle.std.proofs.lemmas.List.{take_all}
use Rattle.cert_text.specs.Reading.{cut_word, next_word, cut_line}

-- ---- places of bytes

lt_suc : (n l : ℕ) → nat_lt (1 + n) (suc l) ≡ nat_lt n l
lt_suc n l = grind arith

lt_zero : (l : ℕ) → nat_lt 0 (suc l) ≡ true
lt_zero l = grind arith

moved : (b : Bool) (n : ℕ) → cond b (Some (1 + n)) None ≡ option_map suc (cond b (Some n) None)
moved true n = ap Some (omega arith)
moved false n = refl

cons_by : (b : Bool) (n l : ℕ) → cond (nat_lt (cond (not b) (1 + n) 0) (suc l)) (Some (cond (not b) (1 + n) 0)) None ≡ cond b
    (Some 0) (option_map suc (cond (nat_lt n l) (Some n) None))
cons_by true n l = ap (λ t. cond t (Some 0) None) (lt_zero l)
cons_by false n l = ap (λ t. cond t (Some (1 + n)) None) (lt_suc n l) ∙ moved (nat_lt n l) n

-- the place in a longer list is that in its tail, one on, unless the head passes
position-cons : (p : ℕ → Bool) (x : ℕ) (xs : List ℕ) → position p (x ∷ xs) ≡ cond (p x) (Some 0) (option_map suc (position p xs))
position-cons p x xs = cons_by (p x) _ (length xs)

-- what is left behind a place
pub rest_from : (xs : List ℕ) (k : ℕ) → take (length xs - k) (drop k xs) ≡ drop k xs
rest_from xs k = take_all (length xs - k) (drop k xs) (omega (arith, length-drop k xs))

-- ---- words

-- where the first space stands, or the end
abbrev pub word_end : List ℕ → ℕ
word_end bytes = unwrap_or (position (λ b. b == 32) bytes) (length bytes)

-- the bytes in two pieces at a place
abbrev pub pieces : ℕ → List ℕ → List ℕ × List ℕ
pieces n bytes = (take n bytes, drop n bytes)

-- the pieces with a byte in front of them, which may be the space
abbrev behind : Bool → ℕ → List ℕ → List ℕ × List ℕ → List ℕ × List ℕ
behind true b bs cut = ([], b ∷ bs)
behind false b bs cut = (b ∷ cut.0, cut.1)

behind-is : (t : Bool) (b : ℕ) (bs : List ℕ) (cut : List ℕ × List ℕ) → behind t b bs cut ≡ cond {A = List ℕ × List ℕ} t ([], b ∷ bs) (b ∷ cut.0, cut.1)
behind-is true b bs cut = refl
behind-is false b bs cut = refl

cut_cons : (t : Bool) (r : Option ℕ) (b : ℕ) (bs : List ℕ) → pieces (unwrap_or r (length bs)) bs ≡ cut_word bs →
    pieces (unwrap_or (cond t (Some 0) (option_map suc r)) (suc (length bs))) (b ∷ bs) ≡ behind t b bs (cut_word bs)
cut_cons true r b bs is = refl
cut_cons false None b bs is = λ i. (b ∷ (is i).0, (is i).1)
cut_cons false (Some j) b bs is = λ i. (b ∷ (is i).0, (is i).1)

pub cut_word-is : (bytes : List ℕ) → pieces (word_end bytes) bytes ≡ cut_word bytes
cut_word-is [] = refl
cut_word-is (b ∷ bs) =
    ap (λ (o : Option ℕ). pieces (unwrap_or o (suc (length bs))) (b ∷ bs)) (position-cons (λ c. c == 32) b bs)
    ∙ cut_cons (b == 32) (position (λ c. c == 32) bs) b bs (cut_word-is bs)
    ∙ behind-is (b == 32) b bs (cut_word bs)

-- no byte of the list is this one
abbrev pub lacks : ℕ → List ℕ → Bool
lacks byte [] = true
lacks byte (b ∷ bs) = not (b == byte) && lacks byte bs

pub lacks-head : (t u : Bool) → (not t && u) ≡ true → (t ≡ false) × (u ≡ true)
lacks-head true u e = absurd (cc)
lacks-head false u e = (refl, e)

pub lacks-append : (byte : ℕ) (xs ys : List ℕ) → lacks byte xs ≡ true → lacks byte ys ≡ true → lacks byte (xs ++ ys) ≡ true
lacks-append byte [] ys one other = other
lacks-append byte (b ∷ xs) ys one other =
    let parts = and_parts (not (b == byte)) (lacks byte xs) one in
    and_from (not (b == byte)) (lacks byte (xs ++ ys)) parts.0 (lacks-append byte xs ys parts.1 other)

-- nothing is left, or a space comes next
abbrev pub is_break : List ℕ → Bool
is_break [] = true
is_break (b ∷ bs) = b == 32

cut_word-cons : (b : ℕ) (bs : List ℕ) (t : Bool) → (b == 32) ≡ t → cut_word (b ∷ bs) ≡ behind t b bs (cut_word bs)
cut_word-cons b bs t is = sym (behind-is (b == 32) b bs (cut_word bs)) ∙ ap (λ u. behind u b bs (cut_word bs)) is

-- a word ends where a space comes next
pub cut_word-word : (w rest : List ℕ) → lacks 32 w ≡ true → is_break rest ≡ true → cut_word (w ++ rest) ≡ (w, rest)
cut_word-word [] [] word break = refl
cut_word-word [] (b ∷ bs) word break = cut_word-cons b bs true break
cut_word-word (b ∷ w) rest word break =
    let parts = lacks-head (b == 32) (lacks 32 w) word in
    cut_word-cons b (w ++ rest) false parts.0 ∙ ap (behind false b (w ++ rest)) (cut_word-word w rest parts.1 break)

-- two pieces of some bytes, the second of which begins with a space if anything is left
abbrev pub IsCut : List ℕ → List ℕ × List ℕ → Type 0
IsCut bytes cut = (bytes ≡ cut.0 ++ cut.1) × (is_break cut.1 ≡ true)

-- the two pieces make the whole
pub cut_word-whole : (bytes : List ℕ) → IsCut bytes (cut_word bytes)
cut_word-whole [] = (refl, refl)
cut_word-whole (b ∷ bs) = by (b == 32) refl (cut_word-whole bs)
  where
    by : (t : Bool) → (b == 32) ≡ t → IsCut bs (cut_word bs) → IsCut (b ∷ bs) (cut_word (b ∷ bs))
    by true is rest = subst (IsCut (b ∷ bs)) (sym (cut_word-cons b bs true is)) (refl, is)
    by false is rest = subst (IsCut (b ∷ bs)) (sym (cut_word-cons b bs false is)) (ap (λ l. b ∷ l) rest.0, rest.1)

pub next_word-word : (w rest : List ℕ) → lacks 32 w ≡ true → is_break rest ≡ true → next_word (32 ∷ (w ++ rest)) ≡ Some (w, rest)
unfolding next_word
next_word-word w rest word break = ap (λ (cut : List ℕ × List ℕ). Some cut) (cut_word-word w rest word break)

pub next_word-whole : (bytes : List ℕ) (w : List ℕ × List ℕ) → next_word bytes ≡ Some w → (bytes ≡ 32 ∷ (w.0 ++ w.1)) × (is_break w.1 ≡ true)
unfolding next_word
next_word-whole [] w is = absurd (cc)
next_word-whole (b ∷ bs) w is = by (b == 32) refl is
  where
    space : (b : ℕ) → (b == 32) ≡ true → b ≡ 32
    space b is = grind arith

    by : (t : Bool) → (b == 32) ≡ t → cond t (Some (cut_word bs)) None ≡ Some w → ((b ∷ bs) ≡ 32 ∷ (w.0 ++ w.1)) × (is_break w.1 ≡ true)
    by true here e =
        let same : cut_word bs ≡ w = cc in
        let whole = cut_word-whole bs in (
          (λ i. space b here i ∷ (whole.0 ∙ (λ j. (same j).0 ++ (same j).1)) i),
          sym (ap (λ (cut : List ℕ × List ℕ). is_break cut.1) same) ∙ whole.1,
        )
    by false here e = absurd (cc)

-- ---- lines

-- a line ends at the first LF
pub cut_line-line : (front rest : List ℕ) → lacks 10 front ≡ true → cut_line (front ++ 10 ∷ rest) ≡ Some (front, rest)
cut_line-line front rest none =
    ap (option_map (λ i. (take i (front ++ 10 ∷ rest), drop (i + 1) (front ++ 10 ∷ rest)))) (place front none)
    ∙ (λ j. Some (taken front j, dropped front j))
  where
    place : (front : List ℕ) → lacks 10 front ≡ true → position (λ b. b == 10) (front ++ 10 ∷ rest) ≡ Some (length front)
    place [] none = position-cons (λ b. b == 10) 10 rest
    place (b ∷ front) none =
        let parts = lacks-head (b == 10) (lacks 10 front) none in
        position-cons (λ c. c == 10) b (front ++ 10 ∷ rest)
        ∙ ap (λ t. cond t (Some 0) (option_map suc (position (λ c. c == 10) (front ++ 10 ∷ rest)))) parts.0
        ∙ ap (option_map suc) (place front parts.1)

    taken : (front : List ℕ) → take (length front) (front ++ 10 ∷ rest) ≡ front
    taken [] = refl
    taken (b ∷ front) = ap (λ l. b ∷ l) (taken front)

    dropped : (front : List ℕ) → drop (length front + 1) (front ++ 10 ∷ rest) ≡ rest
    dropped [] = refl
    dropped (b ∷ front) =
        let e : suc (length front) + 1 ≡ suc (length front + 1) = omega arith in
        ap (λ n. drop n (b ∷ (front ++ 10 ∷ rest))) e ∙ dropped front

lf : (b : ℕ) → (b == 10) ≡ true → b ≡ 10
lf b is = grind arith

abbrev IsSplit : List ℕ → ℕ → Type 0
IsSplit text i = text ≡ take i text ++ 10 ∷ drop (i + 1) text

split_cons : (b : ℕ) (bs : List ℕ) (i : ℕ) (t : Bool) → (b == 10) ≡ t → (r : Option ℕ) → ((j : ℕ) → r ≡ Some j → IsSplit bs j) →
    cond t (Some 0) (option_map suc r) ≡ Some i → IsSplit (b ∷ bs) i
split_cons b bs i true here r deeper e =
    let first : 0 ≡ i = cc in
    subst (IsSplit (b ∷ bs)) first (ap (λ c. c ∷ bs) (lf b here))
split_cons b bs i false here None deeper e = absurd (cc)
split_cons b bs i false here (Some j) deeper e =
    let later : suc j ≡ i = cc in
    let more : suc (j + 1) ≡ suc j + 1 = omega arith in
    subst (IsSplit (b ∷ bs)) later
    (ap (λ l. b ∷ l) (deeper j refl) ∙ ap (λ n. take (suc j) (b ∷ bs) ++ 10 ∷ drop n (b ∷ bs)) more)

split_at : (text : List ℕ) (i : ℕ) → position (λ b. b == 10) text ≡ Some i → IsSplit text i
split_at [] i at = absurd (cc)
split_at (b ∷ bs) i at =
    split_cons b bs i (b == 10) refl (position (λ c. c == 10) bs) (λ j found. split_at bs j found)
    (sym (position-cons (λ c. c == 10) b bs) ∙ at)

-- and the two pieces make the whole
pub cut_line-whole : (text : List ℕ) (cut : List ℕ × List ℕ) → cut_line text ≡ Some cut → text ≡ cut.0 ++ 10 ∷ cut.1
cut_line-whole text cut is = by (position (λ b. b == 10) text) refl is
  where
    by : (r : Option ℕ) → position (λ b. b == 10) text ≡ r → option_map (λ i. (take i text, drop (i + 1) text)) r ≡ Some cut → text ≡ cut.0 ++ 10 ∷ cut.1
    by None found e = absurd (cc)
    by (Some i) found e =
        let same : (take i text, drop (i + 1) text) ≡ cut = cc in
        split_at text i found ∙ ap (λ (c : List ℕ × List ℕ). c.0 ++ 10 ∷ c.1) same
