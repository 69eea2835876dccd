-- Where constants are left.
use Rattle.std.proofs.Common.{◌≡◌, Bool, true, false, cond, eqb, ◌⊎◌, inl, inr, [], ◌∷◌, All, Contains, refl, sym, ap, subst, ◌∙◌}
use Rattle.std.proofs.lemmas.Bool.{false≢true}
use Rattle.std.proofs.lemmas.List.Elements.{All-nil, All-cons}
use Rattle.gta_theory.proofs.ListsLemmas.{Contains-none}
use Rattle.ws2s_core.specs.declared.track.Track.{Track}
use Rattle.ws2s_core.specs.declared.formula.Formula.{Formula, roll-Formula, out-Formula, out-roll-Formula}
use Rattle.ws2s_core.specs.declared.formula.Formula.TheVariants.{Sub, Single, Succ0, Succ1, Root, And, Not, Ex2, rolls-Sub}
use Rattle.ws2s_core.specs.declared.formula.Formula.TheVariants.{rolls-Single, rolls-Succ0, rolls-Succ1, rolls-Root, rolls-And}
use Rattle.ws2s_core.specs.declared.formula.Formula.TheVariants.{rolls-Not, rolls-Ex2}
use Rattle.ws2s_core.specs.declared.formula.Formula.TheOpen.{Formula-F}
use Rattle.ws2s_core.specs.Parts.{IsPart}
use Rattle.ws2s_core.specs.Postfix.{parts_of}
use Rattle.ws2s_core.proofs.FormulaLemmas.{formula-induction, fold-Sub, fold-Single, fold-Succ0, fold-Succ1, fold-Root, fold-And, fold-Not, fold-Ex2}
use Rattle.ws2s_pass.specs.declared.fold.Folded.{Folded}
use Rattle.ws2s_pass.specs.declared.fold.Folded.TheVariants.{Constant, Open}
use Rattle.ws2s_pass.specs.Constants.{is_contradiction, conjunction_of, opposite_of, quantified_over, folded, folded_node, constant_formula, constant_for}
use Rattle.ws2s_pass.specs.Constants.{settled, without_constants, is_constant, is_constant_node}
use Rattle.ws2s_pass.proofs.PartsLemmas.{out-of, part-cases, EachPart, each-part-of}

abbrev IsOpen : Formula → Type 0
IsOpen h = is_constant h ≡ true → ⊥

abbrev AllOpen : Formula → Type 0
AllOpen = EachPart IsOpen

-- what isn't folded to a constant has none
abbrev HasNone : Folded → Type 0
HasNone (Constant truth) = truth ≡ truth
HasNone (Open f) = AllOpen f

open-node : (node : Formula-F Formula) (f : Formula) → roll-Formula node ≡ f → is_constant_node node ≡ false → All AllOpen (parts_of node) → AllOpen f
open-node node f is varies below = each-part-of IsOpen node f is
    (λ e. false≢true (sym (ap is_constant_node (out-of node f is) ∙ varies) ∙ e)) below

at_test : (node : Formula-F Formula) (f : Formula) (truth : Bool) → roll-Formula node ≡ f → All AllOpen (parts_of node) → (b : Bool) →
    is_constant_node node ≡ b → HasNone (cond b (Constant truth) (Open f))
at_test node f truth is below true e = refl
at_test node f truth is below false e = open-node node f is e below

none-And : (F G : Folded) → HasNone F → HasNone G → HasNone (conjunction_of F G)
none-And (Constant true) G of_F of_G = of_G
none-And (Constant false) G of_F of_G = refl
none-And (Open f) (Constant true) of_F of_G = of_F
none-And (Open f) (Constant false) of_F of_G = refl
none-And (Open f) (Open g) of_F of_G = open-node (Formula-F.And f g) (And f g) (rolls-And f g) refl
    (All-cons AllOpen f (g ∷ []) of_F (All-cons AllOpen g [] of_G (All-nil AllOpen)))

none-Not : (F : Folded) → HasNone F → HasNone (opposite_of F)
none-Not (Constant truth) of_F = refl
none-Not (Open f) of_F = open-node (Formula-F.Not f) (Not f) (rolls-Not f) refl (All-cons AllOpen f [] of_F (All-nil AllOpen))

none-Ex2 : (t : Track) (F : Folded) → HasNone F → HasNone (quantified_over t F)
none-Ex2 t (Constant truth) of_F = refl
none-Ex2 t (Open f) of_F = at_test (Formula-F.Ex2 t f) (Ex2 t f) false (rolls-Ex2 t f) (All-cons AllOpen f [] of_F (All-nil AllOpen))
    (is_contradiction t.0 f) refl

none-folded : (f : Formula) → HasNone (folded f)
none-folded = formula-induction (λ f. HasNone (folded f)) (record {
  of_Sub = λ x y. subst HasNone (sym (fold-Sub Folded folded_node x y))
      (at_test (Formula-F.Sub x y) (Sub x y) true (rolls-Sub x y) (All-nil AllOpen) (eqb x.0 y.0) refl);
  of_Single = λ x. subst HasNone (sym (fold-Single Folded folded_node x))
      (open-node (Formula-F.Single x) (Single x) (rolls-Single x) refl (All-nil AllOpen));
  of_Succ0 = λ x y. subst HasNone (sym (fold-Succ0 Folded folded_node x y))
      (at_test (Formula-F.Succ0 x y) (Succ0 x y) false (rolls-Succ0 x y) (All-nil AllOpen) (eqb x.0 y.0) refl);
  of_Succ1 = λ x y. subst HasNone (sym (fold-Succ1 Folded folded_node x y))
      (at_test (Formula-F.Succ1 x y) (Succ1 x y) false (rolls-Succ1 x y) (All-nil AllOpen) (eqb x.0 y.0) refl);
  of_Root = λ x. subst HasNone (sym (fold-Root Folded folded_node x))
      (open-node (Formula-F.Root x) (Root x) (rolls-Root x) refl (All-nil AllOpen));
  of_And = λ f g of_f of_g. subst HasNone (sym (fold-And Folded folded_node f g)) (none-And (folded f) (folded g) of_f of_g);
  of_Not = λ f of_f. subst HasNone (sym (fold-Not Folded folded_node f)) (none-Not (folded f) of_f);
  of_Ex2 = λ t f of_f. subst HasNone (sym (fold-Ex2 Folded folded_node t f)) (none-Ex2 t (folded f) of_f);
})

-- the formula is the whole, or the whole is one of the constants of two nodes
abbrev IsWhole : Formula → Formula → Type 0
IsWhole whole g = (whole ≡ g) ⊎ ((truth : Bool) × (whole ≡ constant_formula truth))

atom-whole : (node : Formula-F Formula) (g : Formula) → ((p : Formula) → Contains (parts_of node) p → ⊥) → IsPart (roll-Formula node) g →
    IsWhole (roll-Formula node) g
atom-whole node g none part = elim (part-cases (roll-Formula node) g part) as (λ _. IsWhole (roll-Formula node) g) [
  | inl same ↦ inl same
  | inr found ↦ absurd (none found.0 (subst (λ n. Contains (parts_of n) found.0) (out-roll-Formula node) found.1))
]

settled-whole : (f g : Formula) (F : Folded) → HasNone F → IsPart (settled f F) g → is_constant g ≡ true → IsWhole (settled f F) g
settled-whole f g (Open h) of_F part e = absurd (of_F g part e)
settled-whole f g (Constant truth) of_F part e = pick (out-Formula f) part
  where
    pick : (node : Formula-F Formula) → IsPart (constant_for node truth) g → IsWhole (constant_for node truth) g
    pick (Formula-F.And h k) part = inr (truth, refl)
    pick (Formula-F.Not h) part = inr (truth, refl)
    pick (Formula-F.Ex2 t h) part = inr (truth, refl)
    pick (Formula-F.Sub x y) part = atom-whole (Formula-F.Sub x y) g (λ p there. Contains-none p there) part
    pick (Formula-F.Single x) part = atom-whole (Formula-F.Single x) g (λ p there. Contains-none p there) part
    pick (Formula-F.Succ0 x y) part = atom-whole (Formula-F.Succ0 x y) g (λ p there. Contains-none p there) part
    pick (Formula-F.Succ1 x y) part = atom-whole (Formula-F.Succ1 x y) g (λ p there. Contains-none p there) part
    pick (Formula-F.Root x) part = atom-whole (Formula-F.Root x) g (λ p there. Contains-none p there) part

pub without_constants-part : (f g : Formula) → IsPart (without_constants f) g → is_constant g ≡ true →
    (without_constants f ≡ g) ⊎ ((truth : Bool) × (without_constants f ≡ constant_formula truth))
without_constants-part f g part e = settled-whole f g (folded f) (none-folded f) part e
