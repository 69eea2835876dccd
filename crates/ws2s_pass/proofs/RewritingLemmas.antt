-- On rewritings: they go along with each form, and a fold of them is one.
use Rattle.std.proofs.Common.{◌≡◌, ℕ, ◌+◌, ◌<◌, ◌≤◌, Bool, true, false, cond, eqb, ◌||◌, [], refl, sym, ap, subst, ◌∙◌, arith, inl, inr}
use Rattle.std.proofs.lemmas.Bool.{false≢true, cases_lt}
use Rattle.std.proofs.lemmas.List.Elements.{All-nil}
use Rattle.std.proofs.Math.Logic.{∥∥₁_elim}
use Rattle.gta_theory.specs.Assignments.{Assignment, IsFinite}
use Rattle.ws2s_core.specs.declared.track.Track.{Track}
use Rattle.ws2s_core.specs.declared.formula.Formula.{Formula, roll-Formula, out-Formula, out-roll-Formula}
use Rattle.ws2s_core.specs.declared.formula.Formula.TheVariants.{Sub, Single, Succ0, Succ1, Root, And, Not, Ex2, rolls-Sub}
use Rattle.ws2s_core.specs.declared.formula.Formula.TheVariants.{rolls-Single, rolls-Succ0, rolls-Succ1, rolls-Root, rolls-And}
use Rattle.ws2s_core.specs.declared.formula.Formula.TheVariants.{rolls-Not, rolls-Ex2}
use Rattle.ws2s_core.specs.declared.formula.Formula.TheOpen.{Formula-F}
use Rattle.ws2s_core.specs.declared.formula.Formula.TheFolds.{fold-Formula}
use Rattle.ws2s_core.specs.Satisfaction.{WSat}
use Rattle.ws2s_core.specs.Sizes.{node_count, count_of_node}
use Rattle.ws2s_core.specs.Tracks.{is_free, is_free_in_node}
use Rattle.ws2s_core.proofs.FormulaLemmas.{formula-induction, fold-Sub, fold-Single, fold-Succ0, fold-Succ1, fold-Root, fold-And, fold-Not, fold-Ex2}
use Rattle.ws2s_theory.proofs.ContextsLemmas.{SameUnder-refl, SameUnder-trans, SameUnder-and, SameUnder-not, SameUnder-ex2}
use Rattle.ws2s_theory.specs.Worked.{plain}
use Rattle.ws2s_theory.proofs.ContextsLemmas.{SameUnder-Same, Same-SameUnder, WSat-not_not}
use Rattle.ws2s_theory.proofs.FormsLemmas.{Formed-all}
use Rattle.ws2s_theory.proofs.WorkedLemmas.{plain-guide}
use Rattle.ws2s_pass.specs.Rewriting.{IsRewriting}

-- a formula is made of its form
pub rolled-out : (f : Formula) → roll-Formula (out-Formula f) ≡ f
rolled-out = formula-induction (λ f. roll-Formula (out-Formula f) ≡ f) (record {
  of_Sub = λ x y. at (Sub x y) (Formula-F.Sub x y) (rolls-Sub x y);
  of_Single = λ x. at (Single x) (Formula-F.Single x) (rolls-Single x);
  of_Succ0 = λ x y. at (Succ0 x y) (Formula-F.Succ0 x y) (rolls-Succ0 x y);
  of_Succ1 = λ x y. at (Succ1 x y) (Formula-F.Succ1 x y) (rolls-Succ1 x y);
  of_Root = λ x. at (Root x) (Formula-F.Root x) (rolls-Root x);
  of_And = λ f g of_f of_g. at (And f g) (Formula-F.And f g) (rolls-And f g);
  of_Not = λ f of_f. at (Not f) (Formula-F.Not f) (rolls-Not f);
  of_Ex2 = λ t f of_f. at (Ex2 t f) (Formula-F.Ex2 t f) (rolls-Ex2 t f);
})
  where
    at : (f : Formula) (node : Formula-F Formula) → roll-Formula node ≡ f → roll-Formula (out-Formula f) ≡ f
    at f node e = subst (λ g. roll-Formula (out-Formula g) ≡ g) e (ap roll-Formula (out-roll-Formula node))

pub count-And : (f g : Formula) → node_count (And f g) ≡ node_count f + node_count g + 1
count-And f g = fold-And ℕ count_of_node f g

pub count-Not : (f : Formula) → node_count (Not f) ≡ node_count f + 1
count-Not f = fold-Not ℕ count_of_node f

pub count-Ex2 : (t : Track) (f : Formula) → node_count (Ex2 t f) ≡ node_count f + 1
count-Ex2 t f = fold-Ex2 ℕ count_of_node t f

pub free-And : (t : ℕ) (f g : Formula) → is_free t (And f g) ≡ is_free t f || is_free t g
free-And t f g = fold-And Bool (is_free_in_node t) f g

pub free-Not : (t : ℕ) (f : Formula) → is_free t (Not f) ≡ is_free t f
free-Not t f = fold-Not Bool (is_free_in_node t) f

pub free-Ex2 : (t : ℕ) (x : Track) (f : Formula) → is_free t (Ex2 x f) ≡ cond (eqb x.0 t) false (is_free t f)
free-Ex2 t x f = fold-Ex2 Bool (is_free_in_node t) x f

or-more : (b c b' c' : Bool) → (b ≡ true → b' ≡ true) → (c ≡ true → c' ≡ true) → b || c ≡ true → b' || c' ≡ true
or-more true c b' c' on_b on_c e = ap (λ d. d || c') (on_b refl)
or-more false c true c' on_b on_c e = refl
or-more false c false c' on_b on_c e = on_c e

cond-more : (k b b' : Bool) → (b ≡ true → b' ≡ true) → cond k false b ≡ true → cond k false b' ≡ true
cond-more true b b' on_b e = e
cond-more false b b' on_b e = on_b e

pub IsRewriting-refl : (f : Formula) → IsRewriting f f
IsRewriting-refl f = record {
  same = SameUnder-Same f f (SameUnder-refl [] f);
  free = λ t free. free;
  size = omega arith;
}

pub IsRewriting-is : (f g : Formula) → f ≡ g → IsRewriting f g
IsRewriting-is f g e = subst (IsRewriting f) e (IsRewriting-refl f)

pub IsRewriting-trans : (f g h : Formula) → IsRewriting f g → IsRewriting g h → IsRewriting f h
IsRewriting-trans f g h first second = record {
  same = SameUnder-Same f h (SameUnder-trans [] f g h (Same-SameUnder [] f g first.same) (Same-SameUnder [] g h second.same));
  free = λ t free. first.free t (second.free t free);
  size = omega arith;
}

pub IsRewriting-and : (f g f' g' : Formula) → IsRewriting f f' → IsRewriting g g' → IsRewriting (And f g) (And f' g')
IsRewriting-and f g f' g' on_left on_right = record {
  same = SameUnder-Same (And f g) (And f' g')
      (SameUnder-and [] [] f g f' g' (All-nil _) (Same-SameUnder [] f f' on_left.same) (Same-SameUnder [] g g' on_right.same));
  free = λ t free. free-And t f g ∙ or-more (is_free t f') (is_free t g') (is_free t f) (is_free t g) (on_left.free t) (on_right.free t)
      (sym (free-And t f' g') ∙ free);
  size = (let one = count-And f g in let two = count-And f' g' in omega arith);
}

pub IsRewriting-not : (f f' : Formula) → IsRewriting f f' → IsRewriting (Not f) (Not f')
IsRewriting-not f f' inside = record {
  same = SameUnder-Same (Not f) (Not f') (SameUnder-not [] f f' (Same-SameUnder [] f f' inside.same));
  free = λ t free. free-Not t f ∙ inside.free t (sym (free-Not t f') ∙ free);
  size = (let one = count-Not f in let two = count-Not f' in omega arith);
}

pub IsRewriting-ex2 : (x : Track) (f f' : Formula) → IsRewriting f f' → IsRewriting (Ex2 x f) (Ex2 x f')
IsRewriting-ex2 x f f' inside = record {
  same = SameUnder-Same (Ex2 x f) (Ex2 x f') (SameUnder-ex2 [] [] x f f' (All-nil _) (Same-SameUnder [] f f' inside.same));
  free = λ t free. free-Ex2 t x f ∙ cond-more (eqb x.0 t) (is_free t f') (is_free t f) (inside.free t) (sym (free-Ex2 t x f') ∙ free);
  size = (let one = count-Ex2 x f in let two = count-Ex2 x f' in omega arith);
}

-- where the step rewrites each form, the fold rewrites the whole
pub IsRewriting-fold : (step : Formula-F Formula → Formula) → ((node : Formula-F Formula) → IsRewriting (roll-Formula node) (step node)) →
    (f : Formula) → IsRewriting f (fold-Formula Formula step f)
IsRewriting-fold step local = formula-induction (λ f. IsRewriting f (fold-Formula Formula step f)) (record {
  of_Sub = λ x y. ends (Sub x y) (Sub x y) (Formula-F.Sub x y) (rolls-Sub x y) (fold-Sub Formula step x y) (IsRewriting-refl (Sub x y));
  of_Single = λ x. ends (Single x) (Single x) (Formula-F.Single x) (rolls-Single x) (fold-Single Formula step x) (IsRewriting-refl (Single x));
  of_Succ0 = λ x y. ends (Succ0 x y) (Succ0 x y) (Formula-F.Succ0 x y) (rolls-Succ0 x y) (fold-Succ0 Formula step x y) (IsRewriting-refl (Succ0 x y));
  of_Succ1 = λ x y. ends (Succ1 x y) (Succ1 x y) (Formula-F.Succ1 x y) (rolls-Succ1 x y) (fold-Succ1 Formula step x y) (IsRewriting-refl (Succ1 x y));
  of_Root = λ x. ends (Root x) (Root x) (Formula-F.Root x) (rolls-Root x) (fold-Root Formula step x) (IsRewriting-refl (Root x));
  of_And = λ f g of_f of_g.
      let f' = fold-Formula Formula step f in
      let g' = fold-Formula Formula step g in
      ends (And f g) (And f' g') (Formula-F.And f' g') (rolls-And f' g') (fold-And Formula step f g) (IsRewriting-and f g f' g' of_f of_g);
  of_Not = λ f of_f.
      let f' = fold-Formula Formula step f in
      ends (Not f) (Not f') (Formula-F.Not f') (rolls-Not f') (fold-Not Formula step f) (IsRewriting-not f f' of_f);
  of_Ex2 = λ t f of_f.
      let f' = fold-Formula Formula step f in
      ends (Ex2 t f) (Ex2 t f') (Formula-F.Ex2 t f') (rolls-Ex2 t f') (fold-Ex2 Formula step t f) (IsRewriting-ex2 t f f' of_f);
})
  where
    ends : (f g : Formula) (node : Formula-F Formula) → roll-Formula node ≡ g → fold-Formula Formula step f ≡ step node → IsRewriting f g →
        IsRewriting f (fold-Formula Formula step f)
    ends f g node is_g is_step rewritten = subst (IsRewriting f) (sym is_step)
        (IsRewriting-trans f g (step node) rewritten (subst (λ h. IsRewriting h (step node)) is_g (local node)))

-- what can't fail is satisfied
pub not_not : (f : Formula) (a : Assignment) → IsFinite a → ((WSat f a → ⊥) → ⊥) → WSat f a
not_not f a finite h =
    let (M, count, k, of_M) = Formed-all plain plain-guide f in
    WSat-not_not plain M f a plain-guide of_M.minimal.recognises finite h

-- a rewriting that merely is one is one: satisfaction by finite sets is decided
pub IsRewriting-mere : (f g : Formula) → ∥ IsRewriting f g ∥₁ → IsRewriting f g
IsRewriting-mere f g mere = record {
  same = record {
    satisfied = λ a finite. (
      (λ h. not_not g a finite (λ no. ∥∥₁_elim mere (λ x y. absurd x) (λ is. no ((is.same.satisfied a finite).0 h)))),
      (λ h. not_not f a finite (λ no. ∥∥₁_elim mere (λ x y. absurd x) (λ is. no ((is.same.satisfied a finite).1 h)))),
    );
  };
  free = λ t free. is_true (is_free t f) (λ e. ∥∥₁_elim mere (λ x y. absurd x) (λ is. false≢true (sym e ∙ is.free t free)));
  size = elim (cases_lt (node_count f) (node_count g)) as (λ _. node_count g ≤ node_count f) [
    | inl more ↦ absurd (∥∥₁_elim mere (λ x y. absurd x) (λ is. too_many (node_count f) (node_count g) more is.size))
    | inr within ↦ within
  ];
}
  where
    is_true : (b : Bool) → (b ≡ false → ⊥) → b ≡ true
    is_true true h = refl
    is_true false h = absurd (h refl)

    too_many : (m n : ℕ) → m < n → n ≤ m → ⊥
    too_many m n more size = omega arith
