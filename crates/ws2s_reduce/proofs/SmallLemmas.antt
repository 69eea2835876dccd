-- Whether the formulas of a text's reduction are small.
use Rattle.std.proofs.Common.{◌≡◌, ℕ, suc, ◌+◌, ◌*◌, ◌<◌, ◌≤◌, min, Bool, true, false, not, cond, ◌↔◌, List, [], ◌∷◌, ◌++◌}
use Rattle.std.proofs.Common.{length, map, fold, count_by, refl, sym, ap, ◌∙◌, arith, zero-add}
use Rattle.std.proofs.Math.Numerals.{one-add}
use Rattle.std.proofs.lemmas.List.Recursion.{is_count_by}
use Rattle.ws2s_core.specs.declared.formula.Formula.{Formula}
use Rattle.ws2s_core.specs.declared.formula.Formula.TheVariants.{Single, And, Not}
use Rattle.ws2s_core.specs.Sizes.{node_count}
use Rattle.ws2s_syntax.specs.declared.declaration.Class.{Class}
use Rattle.ws2s_syntax.specs.declared.declaration.Free as declared_free
use Rattle.ws2s_syntax.specs.declared.formula.Connective.{Connective}
use Rattle.ws2s_syntax.specs.declared.formula.TextFormula.{TextFormula}
use Rattle.ws2s_syntax.specs.Sentences.{Sentence, joined, sentence_of}
use Rattle.ws2s_syntax.specs.Checked.{Text, class_of_free, free_classes}
use Rattle.ws2s_forms.specs.Forms.{track, and_list}
use Rattle.ws2s_reduce.specs.Reducing.{Reductions, reduced, reductions_of, formulas_of, singles_from, singles_of, holds_of, breaks_of}
use Rattle.ws2s_reduce.specs.Sizes.{formulas_size, sizes_in, AreSizes, IsSmall}
use Rattle.ws2s_reduce.proofs.CountsLemmas.{count-Single, count-And, count-Not}
use Rattle.ws2s_reduce.proofs.NodesLemmas.{count-true, count-sentence}

-- what more formulas add to a conjunction
abbrev more : List Formula → ℕ
more [] = 0
more (g ∷ gs) = node_count g + 1 + more gs

more-append : (fs gs : List Formula) → more (fs ++ gs) ≡ more fs + more gs
more-append [] gs = sym (zero-add (more gs))
more-append (f ∷ fs) gs = let h = more-append fs gs in omega (arith, h)

count-chain : (gs : List Formula) (f : Formula) → node_count (fold And f gs) ≡ node_count f + more gs
count-chain [] f = let e : node_count f ≡ node_count f + 0 = omega arith in e
count-chain (g ∷ gs) f =
    let h = count-chain gs (And f g) in
    let e = count-And f g in
    omega (arith, h, e)

-- each single takes two nodes
more-singles : (classes : List Class) (n : ℕ) → more (singles_from n classes) ≡ 2 * length (singles_from n classes)
more-singles [] n = refl
more-singles (Class.Position ∷ classes) n =
    let h = more-singles classes (suc n) in
    let e = count-Single (track n) in
    omega (arith, h, e)
more-singles (Class.Set ∷ classes) n = more-singles classes (suc n)

-- the conjunction of singles and formulas, by the size of the formulas' own
listed : (next n : ℕ) (classes : List Class) (fs : List Formula) →
    node_count (and_list next (singles_from n classes ++ fs)) ≤ 2 * length (singles_from n classes) + node_count (and_list next fs)
listed next n [] fs = omega arith
listed next n (Class.Set ∷ classes) fs = listed next (suc n) classes fs
listed next n (Class.Position ∷ classes) fs =
    let chain = count-chain (singles_from (suc n) classes ++ fs) (Single (track n)) in
    let e = count-Single (track n) in
    let split = more-append (singles_from (suc n) classes) fs in
    let singles = more-singles classes (suc n) in
    let rest = at_most fs in
    omega (arith, chain, e, split, singles, rest)
  where
    at_most : (fs : List Formula) → more fs ≤ node_count (and_list next fs) + 1
    at_most [] = omega arith
    at_most (f ∷ fs) = let h = count-chain fs f in omega (arith, h)

-- exactly, with one formula
listed_one : (next n : ℕ) (classes : List Class) (f : Formula) →
    node_count (and_list next (singles_from n classes ++ f ∷ [])) ≡ 2 * length (singles_from n classes) + node_count f
listed_one next n [] f = sym (zero-add (node_count f))
listed_one next n (Class.Set ∷ classes) f = listed_one next (suc n) classes f
listed_one next n (Class.Position ∷ classes) f =
    let chain = count-chain (singles_from (suc n) classes ++ f ∷ []) (Single (track n)) in
    let e = count-Single (track n) in
    let split = more-append (singles_from (suc n) classes) (f ∷ []) in
    let singles = more-singles classes (suc n) in
    omega (arith, chain, e, split, singles)

-- as many singles as variables that are positions
singles_same : (classes : List Class) (n m : ℕ) → length (singles_from n classes) ≡ length (singles_from m classes)
singles_same [] n m = refl
singles_same (Class.Position ∷ classes) n m = ap suc (singles_same classes (suc n) (suc m))
singles_same (Class.Set ∷ classes) n m = singles_same classes (suc n) (suc m)

abbrev singles_in : List declared_free.Free → ℕ
singles_in free = length (singles_from 0 (map class_of_free free))

count-singles : (free : List declared_free.Free) → singles_in free ≡ count_by (λ variable. not variable.set) free
count-singles = is_count_by singles_in (λ variable. not variable.set) refl (λ x free. pick free x.set)
  where
    pick : (free : List declared_free.Free) (b : Bool) →
        length (singles_from 0 (cond b Class.Set Class.Position ∷ map class_of_free free))
        ≡ cond (not b) (1 + singles_in free) (singles_in free)
    pick free true = singles_same (map class_of_free free) 1 0
    pick free false = ap suc (singles_same (map class_of_free free) 1 0) ∙ sym (one-add (singles_in free))

-- the formulas of a text, joined before they are reduced
reduced-chain : (reductions : Reductions) (next : ℕ) (others : List TextFormula) (s : Sentence) →
    reduced reductions next [] (fold (joined Connective.And) s (map sentence_of others))
    ≡ fold And (reduced reductions next [] s) (map (λ f. reduced reductions next [] (sentence_of f)) others)
reduced-chain reductions next [] s = refl
reduced-chain reductions next (f ∷ others) s = reduced-chain reductions next others (joined Connective.And s (sentence_of f))

count-formulas : (reductions : Reductions) (sizes : List ℕ) (next : ℕ) (formulas : List TextFormula) → AreSizes sizes reductions →
    min (node_count (and_list next (map (λ f. reduced reductions next [] (sentence_of f)) formulas))) 65537
    ≡ min (formulas_size (sizes_in sizes) formulas) 65537
count-formulas reductions sizes next [] are = ap (λ n. min n 65537) (count-true next)
count-formulas reductions sizes next (f ∷ formulas) are =
    ap (λ g. min (node_count g) 65537) (sym (reduced-chain reductions next formulas (sentence_of f)))
    ∙ count-sentence (sizes_in sizes) reductions are.each (fold (joined Connective.And) (sentence_of f) (map sentence_of formulas)) next []

-- both are small exactly where the size that was found is
pub IsSmall-found : (text : Text) (sizes : List ℕ) (stated positions : ℕ) → AreSizes sizes (reductions_of text) →
    stated ≡ min (formulas_size (sizes_in sizes) text.formulas) 65537 →
    positions ≡ min (count_by (λ variable. not variable.set) text.free) 65537 →
    (2 * positions + stated < 65536) ↔ (IsSmall (holds_of text) × IsSmall (breaks_of text))
IsSmall-found text sizes stated positions are is_stated is_positions =
    both (length (singles_of text)) (node_count (and_list (length text.free) (formulas_of text))) (node_count (holds_of text))
    (node_count (breaks_of text)) stated positions
    (is_stated ∙ sym (count-formulas (reductions_of text) sizes (length text.free) text.formulas are))
    (is_positions ∙ ap (λ n. min n 65537) (sym (count-singles text.free)))
    (listed (length text.free) 0 (free_classes text) (formulas_of text))
    (listed_one (length text.free) 0 (free_classes text) (Not (and_list (length text.free) (formulas_of text)))
    ∙ ap (λ n. 2 * length (singles_of text) + n) (count-Not (and_list (length text.free) (formulas_of text))))
  where
    both : (n inner holds breaks stated positions : ℕ) → stated ≡ min inner 65537 → positions ≡ min n 65537 →
        holds ≤ 2 * n + inner → breaks ≡ 2 * n + (inner + 1) →
        (2 * positions + stated < 65536) ↔ ((holds ≤ 65536) × (breaks ≤ 65536))
    both n inner holds breaks stated positions s p h b = (
      (λ small. (omega (arith, small, s, p, h, b), omega (arith, small, s, p, h, b))),
      (λ small. let second = small.1 in omega (arith, second, s, p, h, b)),
    )
