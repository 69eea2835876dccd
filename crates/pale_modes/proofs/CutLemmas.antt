-- A text is cut at one place: its program's part is the same however it is cut, and so are the lines of what follows.
use Rattle.std.proofs.Common.{◌≡◌, ◌∙◌, inl, inr, ◌+◌, ◌==◌, ℕ, suc, Bool, true, false, cond, List, [], ◌∷◌, ◌++◌, length, take, codes, refl}
use Rattle.std.proofs.Common.{sym, ap, subst, arith, length-append, append_assoc}
use Rattle.std.specs.Prelude.{Contains}
use Rattle.std.specs.List.{onto_first}
use Rattle.std.proofs.Math.Seq.{take-append_seam}
use Rattle.std.proofs.lemmas.List.Elements.{Contains-append_right}
use Rattle.gta_theory.proofs.ListsLemmas.{Contains-first, Contains-later}
use Rattle.store_text.specs.Lines.{lines_of}
use Rattle.pale_parts.specs.Parts.{cut_line, HasNoCut, IsCutAs}

-- ---- the bytes of lines

-- how many bytes the lines have, each with an LF
abbrev size : List (List ℕ) → ℕ
size [] = 0
size (l ∷ ls) = suc (length l) + size ls

size-append : (ls ms : List (List ℕ)) → size (ls ++ ms) ≡ size ls + size ms
size-append [] ms = omega arith
size-append (l ∷ ls) ms = let more = size-append ls ms in omega (arith, more)

-- 1 where a text's last line lacks its LF
abbrev lacks : List ℕ → ℕ
lacks [] = 0
lacks (b ∷ []) = cond (b == 10) 0 1
lacks (b ∷ c ∷ bs) = lacks (c ∷ bs)

-- it goes by what stands last
lacks-behind : (xs : List ℕ) (c : ℕ) (ys : List ℕ) → lacks (xs ++ c ∷ ys) ≡ lacks (c ∷ ys)
lacks-behind [] c ys = refl
lacks-behind (x ∷ []) c ys = refl
lacks-behind (x ∷ y ∷ zs) c ys = lacks-behind (y ∷ zs) c ys

onto-some : (b : ℕ) (ls : List (List ℕ)) → (x : List ℕ) × (rest : List (List ℕ)) × (onto_first b ls ≡ x ∷ rest)
onto-some b [] = (b ∷ [], [], refl)
onto-some b (l ∷ ls) = (b ∷ l, ls, refl)

some-line : (b : ℕ) (bs : List ℕ) → (x : List ℕ) × (rest : List (List ℕ)) × (lines_of (b ∷ bs) ≡ x ∷ rest)
some-line b bs = by (b == 10)
  where
    by : (t : Bool) → (x : List ℕ) × (rest : List (List ℕ)) × (cond t ([] ∷ lines_of bs) (onto_first b (lines_of bs)) ≡ x ∷ rest)
    by true = ([], lines_of bs, refl)
    by false = onto-some b (lines_of bs)

size-onto : (b : ℕ) (ls : List (List ℕ)) (x : List ℕ) (rest : List (List ℕ)) → ls ≡ x ∷ rest → size (onto_first b ls) ≡ suc (size ls)
size-onto b ls x rest is =
    let one_more : size (onto_first b (x ∷ rest)) ≡ suc (size (x ∷ rest)) = omega arith in
    ap (λ ms. size (onto_first b ms)) is ∙ one_more ∙ sym (ap (λ ms. suc (size ms)) is)

size-lines : (xs : List ℕ) → size (lines_of xs) ≡ length xs + lacks xs
size-lines [] = refl
size-lines (b ∷ []) = by (b == 10)
  where
    by : (t : Bool) → size (cond t ([] ∷ []) (onto_first b [])) ≡ 1 + cond t 0 1
    by true = refl
    by false = refl
size-lines (b ∷ c ∷ bs) = by (b == 10) (some-line c bs) (size-lines (c ∷ bs))
  where
    by : (t : Bool) → ((x : List ℕ) × (rest : List (List ℕ)) × (lines_of (c ∷ bs) ≡ x ∷ rest)) →
        size (lines_of (c ∷ bs)) ≡ length (c ∷ bs) + lacks (c ∷ bs) →
        size (cond t ([] ∷ lines_of (c ∷ bs)) (onto_first b (lines_of (c ∷ bs)))) ≡ length (b ∷ c ∷ bs) + lacks (c ∷ bs)
    by true some more = omega (arith, more)
    by false (x, rest, is) more = let onto = size-onto b (lines_of (c ∷ bs)) x rest is in omega (arith, onto, more)

-- ---- the program's part

-- what stands before the line `---` ends in an LF, or is nothing
module _ (text part : List ℕ) where
  counted : (after : List ℕ) → lines_of text ≡ lines_of part ++ cut_line ∷ lines_of after →
      length text + lacks text ≡ (length part + lacks part) + (4 + (length after + lacks after))
  counted after lines =
      let all = ap size lines ∙ size-append (lines_of part) (cut_line ∷ lines_of after) in
      let whole = size-lines text in
      let before = size-lines part in
      let behind = size-lines after in
      let cut : size (cut_line ∷ lines_of after) ≡ 4 + size (lines_of after) = refl in
      omega (arith, all, whole, before, behind, cut)

  ended-within : (after : List ℕ) → text ≡ part ++ (codes "---\n" ++ after) → lines_of text ≡ lines_of part ++ cut_line ∷ lines_of after → lacks part ≡ 0
  ended-within [] is lines =
      let long : length text ≡ length part + 4 = ap length is ∙ length-append part (codes "---\n" ++ []) in
      let last : lacks text ≡ 0 = ap lacks is ∙ lacks-behind part 45 (45 ∷ 45 ∷ 10 ∷ []) in
      let all = counted [] lines in
      omega (arith, long, last, all)
  ended-within (d ∷ ds) is lines =
      let long : length text ≡ length part + suc (suc (suc (suc (length (d ∷ ds))))) = ap length is ∙ length-append part (codes "---\n" ++ d ∷ ds) in
      let last : lacks text ≡ lacks (d ∷ ds) = ap lacks is ∙ lacks-behind part 45 (45 ∷ 45 ∷ 10 ∷ d ∷ ds) in
      let all = counted (d ∷ ds) lines in
      omega (arith, long, last, all)

  ended-last : (after : List ℕ) → text ≡ part ++ codes "---" → after ≡ [] → lines_of text ≡ lines_of part ++ cut_line ∷ lines_of after → lacks part ≡ 0
  ended-last after is none lines =
      let long : length text ≡ length part + 3 = ap length is ∙ length-append part (codes "---") in
      let last : lacks text ≡ 1 = ap lacks is ∙ lacks-behind part 45 (45 ∷ 45 ∷ []) in
      let all = counted [] (lines ∙ ap (λ a. lines_of part ++ cut_line ∷ lines_of a) none) in
      omega (arith, long, last, all)

  ended : (after : List ℕ) → IsCutAs text part after → lacks part ≡ 0
  ended after cut = elim cut.bytes [
    | inl more ↦ ended-within after (more ∙ append_assoc part (codes "---\n") after) cut.lines
    | inr last ↦ ended-last after last.0 last.1 cut.lines
  ]

  -- so it is as long as its lines, and is the front of the text that is so long
  front : (after : List ℕ) → IsCutAs text part after → part ≡ take (size (lines_of part)) text
  front after cut =
      let whole = size-lines part in
      let none = ended after cut in
      let long : size (lines_of part) ≡ length part = omega (arith, whole, none) in
      elim cut.bytes [
        | inl more ↦ sym (ap (λ n. take n text) long ∙ ap (take (length part)) (more ∙ append_assoc part (codes "---\n") after)
            ∙ take-append_seam part (codes "---\n" ++ after))
        | inr last ↦ sym (ap (λ n. take n text) long ∙ ap (take (length part)) last.0 ∙ take-append_seam part (codes "---"))
      ]

-- two lists that are cut at the first such element have the same parts
same-cut : {X : Type 0} (xs ys zs ws : List X) (x : X) → (Contains xs x → ⊥) → (Contains ys x → ⊥) → xs ++ x ∷ zs ≡ ys ++ x ∷ ws →
    (xs ≡ ys) × (zs ≡ ws)
same-cut [] [] zs ws x none other is = (refl, cc)
same-cut {X} [] (y ∷ ys) zs ws x none other is =
    let here : x ≡ y = cc in
    absurd (other (subst (λ (z : X). Contains (z ∷ ys) x) here (Contains-first x ys)))
same-cut {X} (y ∷ xs) [] zs ws x none other is =
    let here : x ≡ y = cc in
    absurd (none (subst (λ (z : X). Contains (z ∷ xs) x) here (Contains-first x xs)))
same-cut (a ∷ xs) (b ∷ ys) zs ws x none other is =
    let here : a ≡ b = cc in
    let later : xs ++ x ∷ zs ≡ ys ++ x ∷ ws = cc in
    let rest = same-cut xs ys zs ws x (λ inside. none (Contains-later a x xs inside)) (λ inside. other (Contains-later b x ys inside)) later in
    ((λ i. here i ∷ rest.0 i), rest.1)

module _ (text : List ℕ) where
  pub one_cut : (part other after more : List ℕ) → IsCutAs text part after → IsCutAs text other more →
      (part ≡ other) × (lines_of after ≡ lines_of more)
  one_cut part other after more cut again =
      let same = same-cut (lines_of part) (lines_of other) (lines_of after) (lines_of more) cut_line cut.first again.first (sym cut.lines ∙ again.lines) in
      (front text part after cut ∙ ap (λ ls. take (size ls) text) same.0 ∙ sym (front text other more again), same.1)

  pub cut_or_not : (part after : List ℕ) → IsCutAs text part after → HasNoCut text → ⊥
  cut_or_not part after cut none =
      none (subst (λ ls. Contains ls cut_line) (sym cut.lines)
      (Contains-append_right (lines_of part) (cut_line ∷ lines_of after) cut_line (Contains-first cut_line (lines_of after))))
