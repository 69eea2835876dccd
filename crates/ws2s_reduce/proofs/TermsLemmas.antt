-- Formulas of terms, quantifiers and lists, built step by step.
use Rattle.std.proofs.Common.{◌≡◌, ℕ, zero, suc, ◌+◌, ◌-◌, ◌<◌, List, [], ◌∷◌, length, take, get_or, reverse, sym, ap, ◌∙◌, subst, arith, add-one}
use Rattle.std.proofs.Math.Seq.{take-suc}
use Rattle.std.proofs.lemmas.List.{reverse-append}
use Rattle.ws2s_core.specs.declared.formula.Formula.{Formula}
use Rattle.ws2s_core.specs.declared.formula.Formula.TheVariants.{And, Ex2}
use Rattle.ws2s_syntax.specs.declared.name.Successor.{Successor}
use Rattle.ws2s_syntax.specs.declared.name.Base.{Base}
use Rattle.ws2s_syntax.specs.declared.formula.Quantifier.{Quantifier}
use Rattle.ws2s_forms.specs.Forms.{track}
use Rattle.ws2s_reduce.specs.Reducing.{succ_of, is_stepped_at}
use Rattle.ws2s_reduce.specs.Building.{quantified_at, wrapped}
use Rattle.ws2s_forms.specs.Targets.{target}

-- the last quantifier is the innermost
pub wrapped-last : (q : Quantifier) (first names : ℕ) (f : Formula) →
    wrapped q first (suc names) f ≡ wrapped q first names (quantified_at q (first + names) f)
wrapped-last q first zero f = let e : first ≡ first + 0 = omega arith in ap (λ t. quantified_at q t f) e
wrapped-last q first (suc names) f =
    let e : suc first + names ≡ first + suc names = omega arith in
    ap (quantified_at q first) (wrapped-last q (suc first) names f ∙ ap (λ t. wrapped q (suc first) names (quantified_at q t f)) e)

-- one quantifier less is left
pub wrapped-next : (q : Quantifier) (first left : ℕ) (f : Formula) → 0 < left →
    wrapped q first (left - 1) (quantified_at q (first + (left - 1)) f) ≡ wrapped q first left f
wrapped-next q first zero f some = absurd (omega (arith, some))
wrapped-next q first (suc left) f some =
    let e : left ≡ suc left - 1 = omega arith in
    ap (λ k. wrapped q first k (quantified_at q (first + k) f)) (sym e) ∙ sym (wrapped-last q first left f)

-- the steps so far, and one more
steps_reversed : (steps : List Successor) (i : ℕ) (d : Successor) → i < length steps →
    reverse (take (i + 1) steps) ≡ get_or steps i d ∷ reverse (take i steps)
steps_reversed steps i d inside =
    ap (λ k. reverse (take k steps)) (add-one i) ∙ ap reverse (take-suc steps i d inside)
    ∙ reverse-append (take i steps) (get_or steps i d ∷ [])

pub stepped-next : (next left i : ℕ) (tracks : List ℕ) (base : Base) (steps : List Successor) (d : Successor) (own : ℕ)
    (f : Formula) → left + i ≡ length steps → i < length steps →
    f ≡ is_stepped_at (next + left) tracks base (reverse (take i steps)) (target next left own) →
    Ex2 (track (next + (left - 1))) (And f (succ_of (get_or steps i d) (next + (left - 1)) (target next (left - 1) own)))
    ≡ is_stepped_at (next + (left - 1)) tracks base (reverse (take (i + 1) steps)) (target next (left - 1) own)
stepped-next next zero i tracks base steps d own f count inside is = absurd (omega (arith, count, inside))
stepped-next next (suc left) i tracks base steps d own f count inside is =
    let e : left ≡ suc left - 1 = omega arith in
    let later : next + suc left ≡ suc (next + left) = omega arith in
    subst (λ k. Ex2 (track (next + k)) (And f (succ_of (get_or steps i d) (next + k) (target next k own)))
    ≡ is_stepped_at (next + k) tracks base (reverse (take (i + 1) steps)) (target next k own)) e
    (ap (λ g. Ex2 (track (next + left)) (And g (succ_of (get_or steps i d) (next + left) (target next left own))))
    (is ∙ ap (λ n. is_stepped_at n tracks base (reverse (take i steps)) (next + left)) later)
    ∙ ap (λ all. is_stepped_at (next + left) tracks base all (target next left own)) (sym (steps_reversed steps i d inside)))
