-- On the lines of an example.
use Rattle.std.proofs.Common.{◌≡◌, ℕ, suc, ◌+◌, Bool, true, false, cond, List, [], ◌∷◌, ◌++◌, length, Contains, codes}
use Rattle.std.proofs.Common.{refl, sym, ap, subst, ◌∙◌, arith, append_assoc, append-nil}
use Rattle.std.specs.List.Sorted.{IsStrictlySortedBy}
use Rattle.std.specs.Ordering.{nat_cmp, ordering_reverse}
use Rattle.std.specs.Cmp.Lexicographic.{slice_cmp, nat_list_cmp_total}
use Rattle.std.specs.declared.cmp.Ordering.{Ordering}
use Rattle.std.specs.declared.cmp.Ordering.TheVariants.{Less, Equal, Greater}
use Rattle.gta_theory.specs.Assignments.{Position, PositionSet, Assignment, IsOnly}
use Rattle.gta_theory.proofs.ListsLemmas.{Contains-first, Contains-later, Contains-none}
use Rattle.ws2s_syntax.specs.declared.declaration.Free.{Free}
use Rattle.ws2s_example.specs.Examples.{position_text, AreTextsOf, listed_text, value_text, IsValueText, one, many, line_of, AreLines, none, more}

-- no text is below itself
not_below : (o : Ordering) → o ≡ ordering_reverse o → o ≡ Less → ⊥
not_below Less turned is = absurd cc
not_below Equal turned is = absurd cc
not_below Greater turned is = absurd cc

-- texts in order that are all the same one are one
one-text : (texts : List (List ℕ)) (text : List ℕ) → IsStrictlySortedBy (slice_cmp nat_cmp) texts → ((other : List ℕ) → Contains texts other → other ≡ text) →
    Contains texts text → listed_text texts ≡ text
unfolding IsStrictlySortedBy
one-text [] text sorted only there = absurd (Contains-none text there)
one-text (x ∷ []) text sorted only there = append-nil x ∙ only x (Contains-first x [])
one-text (x ∷ (y ∷ texts)) text sorted only there =
    let same : y ≡ x = only y (Contains-later x y (y ∷ texts) (Contains-first y texts)) ∙ sym (only x (Contains-first x (y ∷ texts))) in
    absurd (not_below (slice_cmp nat_cmp x x) (nat_list_cmp_total.antisymm x x) (subst (λ z. slice_cmp nat_cmp x z ≡ Less) same sorted.0.0))

pub IsValueText-texts : (variable : Free) (set : PositionSet) (texts : List (List ℕ)) → AreTextsOf set texts →
    (variable.set ≡ false → (u : Position) × IsOnly set u) → IsValueText variable set (value_text variable texts)
IsValueText-texts variable set texts are one_position = pick variable.set refl
  where
    pick : (is_set : Bool) → variable.set ≡ is_set → IsValueText variable set (value_text variable texts)
    pick true is =
        let shows : codes "{" ++ listed_text texts ++ codes "}" ≡ value_text variable texts =
        ap (λ (b : Bool). cond b (codes "{" ++ listed_text texts ++ codes "}") (listed_text texts)) (sym is) in
        subst (IsValueText variable set) shows (many texts is are)
    pick false is =
        let u = one_position is in
        let only : (other : List ℕ) → Contains texts other → other ≡ position_text u.0 =
        λ other h. let has = (are.each other).0 h in has.2 ∙ ap position_text ((u.1 has.0).0 has.1) in
        let there = (are.each (position_text u.0)).1 (u.0, (u.1 u.0).1 refl, refl) in
        let shows : position_text u.0 ≡ value_text variable texts =
        sym (one-text texts (position_text u.0) are.ascend only there)
        ∙ ap (λ (b : Bool). cond b (codes "{" ++ listed_text texts ++ codes "}") (listed_text texts)) (sym is) in
        subst (IsValueText variable set) shows (one u.0 is u.1)

-- a line more
pub AreLines-push : (a : Assignment) (n : ℕ) (free : List Free) (variable : Free) (lines value : List ℕ) → AreLines a n free lines →
    IsValueText variable (a (n + length free)) value → AreLines a n (free ++ variable ∷ []) (lines ++ line_of variable value)
AreLines-push a _ _ variable _ value (none n) has =
    let here : n + 0 ≡ n = omega arith in
    subst (AreLines a n (variable ∷ [])) (append-nil (line_of variable value))
    (more n variable [] value [] (subst (λ k. IsValueText variable (a k) value) here has) (none (suc n)))
AreLines-push a _ _ variable _ value (more n first free shown lines has_first rest) has =
    let further : n + suc (length free) ≡ suc n + length free = omega arith in
    subst (AreLines a n (first ∷ (free ++ variable ∷ []))) (sym (append_assoc (line_of first shown) lines (line_of variable value)))
    (more n first (free ++ variable ∷ []) shown (lines ++ line_of variable value) has_first
    (AreLines-push a (suc n) free variable lines value rest (subst (λ k. IsValueText variable (a k) value) further has)))
