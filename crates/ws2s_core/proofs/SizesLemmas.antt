-- On the size of a formula, and the order in which its halves are counted.
use Rattle.std.proofs.Common.{◌≡◌, ℕ, suc, ◌+◌, ◌^◌, ◌≤◌, min, max, Bool, true, false, cond, eqb, refl, sym, ap, subst, ◌∙◌, inl}
use Rattle.std.proofs.Common.{inr, arith, eqb-true, pow-suc, pow_mono}
use Rattle.std.proofs.lemmas.Bool.{cases_lt}
use Rattle.ws2s_core.specs.declared.formula.Formula.{Formula}
use Rattle.ws2s_core.specs.declared.formula.Formula.TheVariants.{Sub, Single, Succ0, Succ1, Root, And, Not, Ex2}
use Rattle.ws2s_core.specs.Sizes.{node_count, count_of_node, strahler_order, order_of_node}
use Rattle.ws2s_core.proofs.FormulaLemmas.{formula-induction, fold-Sub, fold-Single, fold-Succ0, fold-Succ1, fold-Root, fold-And, fold-Not, fold-Ex2}

-- a formula of an order has at least two to its power nodes
pub power_of_order : (f : Formula) → 2 ^ strahler_order f ≤ node_count f
power_of_order = formula-induction (λ f. 2 ^ strahler_order f ≤ node_count f) (record {
  of_Sub = λ x y. atom (strahler_order (Sub x y)) (node_count (Sub x y)) (fold-Sub ℕ order_of_node x y) (fold-Sub ℕ count_of_node x y);
  of_Single = λ x. atom (strahler_order (Single x)) (node_count (Single x)) (fold-Single ℕ order_of_node x) (fold-Single ℕ count_of_node x);
  of_Succ0 = λ x y. atom (strahler_order (Succ0 x y)) (node_count (Succ0 x y)) (fold-Succ0 ℕ order_of_node x y) (fold-Succ0 ℕ count_of_node x y);
  of_Succ1 = λ x y. atom (strahler_order (Succ1 x y)) (node_count (Succ1 x y)) (fold-Succ1 ℕ order_of_node x y) (fold-Succ1 ℕ count_of_node x y);
  of_Root = λ x. atom (strahler_order (Root x)) (node_count (Root x)) (fold-Root ℕ order_of_node x) (fold-Root ℕ count_of_node x);
  of_And = λ f g of_f of_g.
      both (strahler_order f) (strahler_order g) (node_count f) (node_count g) (strahler_order (And f g)) (node_count (And f g))
      of_f of_g (fold-And ℕ order_of_node f g) (fold-And ℕ count_of_node f g) (eqb (strahler_order f) (strahler_order g)) refl;
  of_Not = λ f of_f. one (strahler_order f) (node_count f) (strahler_order (Not f)) (node_count (Not f)) of_f
      (fold-Not ℕ order_of_node f) (fold-Not ℕ count_of_node f);
  of_Ex2 = λ t f of_f. one (strahler_order f) (node_count f) (strahler_order (Ex2 t f)) (node_count (Ex2 t f)) of_f
      (fold-Ex2 ℕ order_of_node t f) (fold-Ex2 ℕ count_of_node t f);
})
  where
    atom : (o c : ℕ) → o ≡ 0 → c ≡ 1 → 2 ^ o ≤ c
    atom o c is_o is_c = subst (λ n. 2 ^ n ≤ c) (sym is_o) (omega arith)

    one : (o c o' c' : ℕ) → 2 ^ o ≤ c → o' ≡ o → c' ≡ c + 1 → 2 ^ o' ≤ c'
    one o c o' c' h is_o is_c = subst (λ n. 2 ^ n ≤ c') (sym is_o) (omega arith)

    both : (o p c d o' c' : ℕ) → 2 ^ o ≤ c → 2 ^ p ≤ d → o' ≡ cond (eqb o p) (o + 1) (max o p) → c' ≡ c + d + 1 →
        (b : Bool) → eqb o p ≡ b → 2 ^ o' ≤ c'
    both o p c d o' c' of_o of_p is_o is_c true same =
        let e : o ≡ p = eqb-true o p same in
        let of_o' : 2 ^ p ≤ c = subst (λ n. 2 ^ n ≤ c) e of_o in
        let next : o' ≡ suc p = is_o ∙ ap (λ b. cond b (o + 1) (max o p)) same ∙ omega arith in
        subst (λ n. 2 ^ n ≤ c') (sym next) (omega (arith, pow-suc 2 p))
    both o p c d o' c' of_o of_p is_o is_c false same =
        let next : o' ≡ max o p = is_o ∙ ap (λ b. cond b (o + 1) (max o p)) same in
        elim (cases_lt o p) as (λ _. 2 ^ o' ≤ c') [
          | inl lt ↦ (let e : o' ≡ p = next ∙ omega arith in subst (λ n. 2 ^ n ≤ c') (sym e) (omega arith))
          | inr ge ↦ (let e : o' ≡ o = next ∙ omega arith in subst (λ n. 2 ^ n ≤ c') (sym e) (omega arith))
        ]

-- a formula of an order of 64 and more has more nodes than are counted
pub size-saturated : (f : Formula) → 64 ≤ strahler_order f → 18446744073709551615 ≡ min (node_count f) 18446744073709551615
size-saturated f high =
    let many : 2 ^ 64 ≤ 2 ^ strahler_order f = pow_mono high in
    omega (arith, power_of_order f)
