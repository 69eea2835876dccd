-- On quantifiers brought into conjunctions.
use Rattle.std.proofs.Common.{◌≡◌, ℕ, Bool, true, false, cond, eqb, ◌||◌, refl, sym, ap, subst, ◌∙◌, arith, eqb-true}
use Rattle.std.proofs.lemmas.Bool.{false≢true}
use Rattle.ws2s_core.specs.declared.track.Track.{Track}
use Rattle.ws2s_core.specs.declared.formula.Formula.{Formula, roll-Formula}
use Rattle.ws2s_core.specs.declared.formula.Formula.TheVariants.{Sub, Single, Succ0, Succ1, Root, And, Not, Ex2, rolls-Ex2}
use Rattle.ws2s_core.specs.declared.formula.Formula.TheOpen.{Formula-F}
use Rattle.ws2s_core.specs.declared.formula.Formula.TheFolds.{fold-Formula}
use Rattle.ws2s_core.specs.Tracks.{is_free}
use Rattle.ws2s_core.proofs.FormulaLemmas.{formula-induction, fold-Sub, fold-Single, fold-Succ0, fold-Succ1, fold-Root, fold-And, fold-Not, fold-Ex2}
use Rattle.ws2s_theory.proofs.ContextsLemmas.{Same-sym, Same-outside_right, Same-outside_left}
use Rattle.ws2s_pass.specs.Rewriting.{IsRewriting}
use Rattle.ws2s_narrow.specs.Narrowing.{Entered, entered_node, stays_before, sunk, narrowed_node, narrowed}
use Rattle.ws2s_pass.proofs.RewritingLemmas.{IsRewriting-refl, IsRewriting-is, IsRewriting-trans, IsRewriting-and, IsRewriting-fold, count-And}
use Rattle.ws2s_pass.proofs.RewritingLemmas.{count-Ex2, free-And, free-Ex2}

module _ (t : Track) where
  abbrev entered : Formula → Entered
  entered = fold-Formula Entered (entered_node t)

  at_atom : (f : Formula) → entered f ≡ stays_before t f → (entered f).before ≡ f
  at_atom f e = ap (λ (d : Entered). d.before) e

  pub entered-before : (f : Formula) → (entered f).before ≡ f
  entered-before = formula-induction (λ f. (entered f).before ≡ f) (record {
    of_Sub = λ x y. at_atom (Sub x y) (fold-Sub Entered (entered_node t) x y);
    of_Single = λ x. at_atom (Single x) (fold-Single Entered (entered_node t) x);
    of_Succ0 = λ x y. at_atom (Succ0 x y) (fold-Succ0 Entered (entered_node t) x y);
    of_Succ1 = λ x y. at_atom (Succ1 x y) (fold-Succ1 Entered (entered_node t) x y);
    of_Root = λ x. at_atom (Root x) (fold-Root Entered (entered_node t) x);
    of_And = λ f g of_f of_g. ap (λ (d : Entered). d.before) (fold-And Entered (entered_node t) f g)
        ∙ ap (λ (h : Formula). And h (entered g).before) of_f ∙ ap (And f) of_g;
    of_Not = λ f of_f. ap (λ (d : Entered). d.before) (fold-Not Entered (entered_node t) f) ∙ ap Not of_f;
    of_Ex2 = λ u f of_f. ap (λ (d : Entered). d.before) (fold-Ex2 Entered (entered_node t) u f) ∙ ap (Ex2 u) of_f;
  })

  pub sunk-Sub : (x y : Track) → sunk t (Sub x y) ≡ Ex2 t (Sub x y)
  sunk-Sub x y = ap (λ (d : Entered). d.after) (fold-Sub Entered (entered_node t) x y)

  pub sunk-Single : (x : Track) → sunk t (Single x) ≡ Ex2 t (Single x)
  sunk-Single x = ap (λ (d : Entered). d.after) (fold-Single Entered (entered_node t) x)

  pub sunk-Succ0 : (x y : Track) → sunk t (Succ0 x y) ≡ Ex2 t (Succ0 x y)
  sunk-Succ0 x y = ap (λ (d : Entered). d.after) (fold-Succ0 Entered (entered_node t) x y)

  pub sunk-Succ1 : (x y : Track) → sunk t (Succ1 x y) ≡ Ex2 t (Succ1 x y)
  sunk-Succ1 x y = ap (λ (d : Entered). d.after) (fold-Succ1 Entered (entered_node t) x y)

  pub sunk-Root : (x : Track) → sunk t (Root x) ≡ Ex2 t (Root x)
  sunk-Root x = ap (λ (d : Entered). d.after) (fold-Root Entered (entered_node t) x)

  pub sunk-Not : (f : Formula) → sunk t (Not f) ≡ Ex2 t (Not f)
  sunk-Not f = ap (λ (d : Entered). d.after) (fold-Not Entered (entered_node t) f) ∙ ap (λ (g : Formula). Ex2 t (Not g)) (entered-before f)

  pub sunk-Ex2 : (u : Track) (f : Formula) → sunk t (Ex2 u f) ≡ Ex2 t (Ex2 u f)
  sunk-Ex2 u f = ap (λ (d : Entered). d.after) (fold-Ex2 Entered (entered_node t) u f) ∙ ap (λ (g : Formula). Ex2 t (Ex2 u g)) (entered-before f)

  pub sunk-And : (f g : Formula) → sunk t (And f g) ≡
      cond (is_free t.0 f) (cond (is_free t.0 g) (Ex2 t (And f g)) (And (sunk t f) g)) (And f (sunk t g))
  sunk-And f g = ap (λ (d : Entered). d.after) (fold-And Entered (entered_node t) f g)
      ∙ ap (λ (h : Formula). cond (is_free t.0 h) (cond (is_free t.0 (entered g).before) (Ex2 t (And h (entered g).before)) (And (sunk t f) (entered g).before))
      (And h (sunk t g))) (entered-before f)
      ∙ ap (λ (h : Formula). cond (is_free t.0 f) (cond (is_free t.0 h) (Ex2 t (And f h)) (And (sunk t f) h)) (And f (sunk t g))) (entered-before g)

module _ (t : Track) (f g : Formula) where
  no-less : (u : ℕ) (h : Formula) → is_free t.0 h ≡ false → eqb t.0 u ≡ true → is_free u h ≡ false
  no-less u h e same = subst (λ (v : ℕ). is_free v h ≡ false) (eqb-true t.0 u same) e

  free-left : is_free t.0 g ≡ false → (u : ℕ) (b : Bool) → eqb t.0 u ≡ b → cond b false (is_free u f) || is_free u g ≡ true →
      cond b false (is_free u f || is_free u g) ≡ true
  free-left e u true same h = absurd (false≢true (sym (no-less u g e same) ∙ h))
  free-left e u false same h = h

  free-right : is_free t.0 f ≡ false → (u : ℕ) (b : Bool) → eqb t.0 u ≡ b → is_free u f || cond b false (is_free u g) ≡ true →
      cond b false (is_free u f || is_free u g) ≡ true
  free-right e u true same h = absurd (false≢true (sym (ap (λ (c : Bool). c || false) (no-less u f e same)) ∙ h))
  free-right e u false same h = h

  free-before : (u : ℕ) → is_free u (Ex2 t (And f g)) ≡ cond (eqb t.0 u) false (is_free u f || is_free u g)
  free-before u = free-Ex2 u t (And f g) ∙ ap (cond (eqb t.0 u) false) (free-And u f g)

  -- a quantifier goes into the side that alone has its track free
  into-left : is_free t.0 g ≡ false → IsRewriting (Ex2 t (And f g)) (And (Ex2 t f) g)
  into-left e = record {
    same = Same-sym (And (Ex2 t f) g) (Ex2 t (And f g)) (Same-outside_left t f g (λ free. false≢true (sym e ∙ free)));
    free = λ u free. free-before u ∙ free-left e u (eqb t.0 u) refl
        (sym (ap (λ (c : Bool). c || is_free u g) (free-Ex2 u t f)) ∙ sym (free-And u (Ex2 t f) g) ∙ free);
    size = (let one = count-And f g in let two = count-Ex2 t (And f g) in let three = count-Ex2 t f in
        let four = count-And (Ex2 t f) g in omega arith);
  }

  into-right : is_free t.0 f ≡ false → IsRewriting (Ex2 t (And f g)) (And f (Ex2 t g))
  into-right e = record {
    same = Same-sym (And f (Ex2 t g)) (Ex2 t (And f g)) (Same-outside_right t f g (λ free. false≢true (sym e ∙ free)));
    free = λ u free. free-before u ∙ free-right e u (eqb t.0 u) refl
        (sym (ap (λ (c : Bool). is_free u f || c) (free-Ex2 u t g)) ∙ sym (free-And u f (Ex2 t g)) ∙ free);
    size = (let one = count-And f g in let two = count-Ex2 t (And f g) in let three = count-Ex2 t g in
        let four = count-And f (Ex2 t g) in omega arith);
  }

  both-sides : IsRewriting (Ex2 t f) (sunk t f) → IsRewriting (Ex2 t g) (sunk t g) → (b c : Bool) →
      is_free t.0 f ≡ b → is_free t.0 g ≡ c →
      IsRewriting (Ex2 t (And f g)) (cond b (cond c (Ex2 t (And f g)) (And (sunk t f) g)) (And f (sunk t g)))
  both-sides of_f of_g true true e d = IsRewriting-refl (Ex2 t (And f g))
  both-sides of_f of_g true false e d = IsRewriting-trans (Ex2 t (And f g)) (And (Ex2 t f) g) (And (sunk t f) g) (into-left d)
      (IsRewriting-and (Ex2 t f) g (sunk t f) g of_f (IsRewriting-refl g))
  both-sides of_f of_g false c e d = IsRewriting-trans (Ex2 t (And f g)) (And f (Ex2 t g)) (And f (sunk t g)) (into-right e)
      (IsRewriting-and f (Ex2 t g) f (sunk t g) (IsRewriting-refl f) of_g)

  sunk-rewrites : IsRewriting (Ex2 t f) (sunk t f) → IsRewriting (Ex2 t g) (sunk t g) → IsRewriting (Ex2 t (And f g)) (sunk t (And f g))
  sunk-rewrites of_f of_g = subst (IsRewriting (Ex2 t (And f g))) (sym (sunk-And t f g))
      (both-sides of_f of_g (is_free t.0 f) (is_free t.0 g) refl refl)

pub IsRewriting-sunk : (t : Track) (f : Formula) → IsRewriting (Ex2 t f) (sunk t f)
IsRewriting-sunk t = formula-induction (λ f. IsRewriting (Ex2 t f) (sunk t f)) (record {
  of_Sub = λ x y. IsRewriting-is (Ex2 t (Sub x y)) (sunk t (Sub x y)) (sym (sunk-Sub t x y));
  of_Single = λ x. IsRewriting-is (Ex2 t (Single x)) (sunk t (Single x)) (sym (sunk-Single t x));
  of_Succ0 = λ x y. IsRewriting-is (Ex2 t (Succ0 x y)) (sunk t (Succ0 x y)) (sym (sunk-Succ0 t x y));
  of_Succ1 = λ x y. IsRewriting-is (Ex2 t (Succ1 x y)) (sunk t (Succ1 x y)) (sym (sunk-Succ1 t x y));
  of_Root = λ x. IsRewriting-is (Ex2 t (Root x)) (sunk t (Root x)) (sym (sunk-Root t x));
  of_And = λ f g of_f of_g. sunk-rewrites t f g of_f of_g;
  of_Not = λ f of_f. IsRewriting-is (Ex2 t (Not f)) (sunk t (Not f)) (sym (sunk-Not t f));
  of_Ex2 = λ u f of_f. IsRewriting-is (Ex2 t (Ex2 u f)) (sunk t (Ex2 u f)) (sym (sunk-Ex2 t u f));
})

local : (node : Formula-F Formula) → IsRewriting (roll-Formula node) (narrowed_node node)
local (Formula-F.Ex2 t f) = subst (λ g. IsRewriting g (sunk t f)) (sym (rolls-Ex2 t f)) (IsRewriting-sunk t f)
local (Formula-F.Sub x y) = IsRewriting-refl _
local (Formula-F.Single x) = IsRewriting-refl _
local (Formula-F.Succ0 x y) = IsRewriting-refl _
local (Formula-F.Succ1 x y) = IsRewriting-refl _
local (Formula-F.Root x) = IsRewriting-refl _
local (Formula-F.And f g) = IsRewriting-refl _
local (Formula-F.Not f) = IsRewriting-refl _

pub IsRewriting-narrowed : (f : Formula) → IsRewriting f (narrowed f)
IsRewriting-narrowed = IsRewriting-fold narrowed_node local

-- a formula has the same free tracks, wherever its quantifier stands
module _ (t : Track) (u : ℕ) where
  free-both : (f g : Formula) → is_free u (sunk t f) ≡ is_free u (Ex2 t f) → is_free u (sunk t g) ≡ is_free u (Ex2 t g) → (b c k : Bool) →
      is_free t.0 f ≡ b → is_free t.0 g ≡ c → eqb t.0 u ≡ k →
      is_free u (cond b (cond c (Ex2 t (And f g)) (And (sunk t f) g)) (And f (sunk t g))) ≡ cond k false (is_free u f || is_free u g)
  free-both f g of_f of_g true true k e d same = free-before t f g u ∙ ap (λ (b : Bool). cond b false (is_free u f || is_free u g)) same
  free-both f g of_f of_g true false k e d same = free-And u (sunk t f) g
      ∙ ap (λ (b : Bool). b || is_free u g) (of_f ∙ free-Ex2 u t f ∙ ap (λ (b : Bool). cond b false (is_free u f)) same) ∙ left k same
    where
      left : (k : Bool) → eqb t.0 u ≡ k → cond k false (is_free u f) || is_free u g ≡ cond k false (is_free u f || is_free u g)
      left true same = no-less t f g u g d same
      left false same = refl
  free-both f g of_f of_g false c k e d same = free-And u f (sunk t g)
      ∙ ap (λ (b : Bool). is_free u f || b) (of_g ∙ free-Ex2 u t g ∙ ap (λ (b : Bool). cond b false (is_free u g)) same) ∙ right k same
    where
      right : (k : Bool) → eqb t.0 u ≡ k → is_free u f || cond k false (is_free u g) ≡ cond k false (is_free u f || is_free u g)
      right true same = ap (λ (c : Bool). c || false) (no-less t f g u f e same)
      right false same = refl

  pub free-sunk : (f : Formula) → is_free u (sunk t f) ≡ is_free u (Ex2 t f)
  free-sunk = formula-induction (λ f. is_free u (sunk t f) ≡ is_free u (Ex2 t f)) (record {
    of_Sub = λ x y. ap (is_free u) (sunk-Sub t x y);
    of_Single = λ x. ap (is_free u) (sunk-Single t x);
    of_Succ0 = λ x y. ap (is_free u) (sunk-Succ0 t x y);
    of_Succ1 = λ x y. ap (is_free u) (sunk-Succ1 t x y);
    of_Root = λ x. ap (is_free u) (sunk-Root t x);
    of_And = λ f g of_f of_g. ap (is_free u) (sunk-And t f g)
        ∙ free-both f g of_f of_g (is_free t.0 f) (is_free t.0 g) (eqb t.0 u) refl refl refl ∙ sym (free-before t f g u);
    of_Not = λ f of_f. ap (is_free u) (sunk-Not t f);
    of_Ex2 = λ x f of_f. ap (is_free u) (sunk-Ex2 t x f);
  })
