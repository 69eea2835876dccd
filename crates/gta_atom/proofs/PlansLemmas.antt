-- The numbered automaton of a plan is a minimal automaton of its atom.
use Rattle.std.proofs.Common.{◌≡◌, ◌≢◌, ℕ, Bool, true, false, eqb, refl, sym, subst}
use Rattle.gta_theory.specs.Guides.{Spaces, IsGuide}
use Rattle.gta_theory.specs.Numbered.{Below}
use Rattle.ws2s_core.specs.declared.track.Track.{Track}
use Rattle.ws2s_core.specs.declared.formula.Formula.{Formula}
use Rattle.ws2s_core.specs.declared.formula.Formula.TheVariants as formula
use Rattle.ws2s_core.specs.Recognising.{IsMinimalOf}
use Rattle.ws2s_theory.specs.Atoms.{inside, sub_automaton, single_automaton, root_automaton, neither, succ0_automaton, succ1_automaton}
use Rattle.ws2s_theory.specs.Merging.{IsChildTest, is_below, sub_classes, single_classes, root_classes, succ_classes}
use Rattle.ws2s_theory.proofs.EqualTracksLemmas.{IsMinimalOf-Sub_same, IsMinimalOf-Succ0_same, IsMinimalOf-Succ1_same}
use Rattle.ws2s_theory.proofs.MergedAtomsLemmas.{IsMinimalOf-Sub, IsMinimalOf-Single, IsMinimalOf-Root}
use Rattle.ws2s_theory.proofs.MergedSuccessorsLemmas.{IsMinimalOf-Succ0, IsMinimalOf-Succ1}
use Rattle.gta_atom.specs.declared.known.Form.TheVariants.{Sub, Single, Root, Succ0, Succ1}
use Rattle.gta_atom.specs.declared.plan.Plan.{Plan}
use Rattle.gta_atom.specs.States.{of_sub, of_single, of_root, of_succ}
use Rattle.gta_atom.specs.Plans.{plan, IsPlanOf, sub, sub_same, single, succ0, succ0_same, succ1, succ1_same, root}
use Rattle.gta_atom.specs.Automata.{counts_of, numbered_automaton}
use Rattle.gta_atom.proofs.NumberedLemmas.{IsMinimalOf-numbered}
use Rattle.gta_atom.proofs.FormsLemmas.{IsKept-Sub, IsKept-Single, IsKept-Root, IsKept-Succ0, IsKept-Succ1, IsKept-sub_none, IsKept-succ_none}
use Rattle.gta_atom.proofs.FormsLemmas.{step-Sub, step-Single, step-Root, step-Succ0, step-Succ1, held-Sub, held-Single, held-Root, held-Succ0, held-Succ1}

module _ (g : Spaces) (guide : IsGuide g) (is_child : Bool → ℕ → Bool) (test : IsChildTest g is_child) where
  abbrev IsMinimalFor : Plan → Formula → Type 0
  IsMinimalFor p f = IsMinimalOf g (numbered_automaton g p is_child) (Below (counts_of p is_child)) f

  minimal-sub : (x y : Track) → y.0 ≢ x.0 → IsMinimalFor (plan Sub x y false) (formula.Sub x y)
  minimal-sub x y differ =
      IsMinimalOf-numbered g guide (plan Sub x y false) is_child (sub_automaton x.0 y.0) (sub_classes is_child) (formula.Sub x y)
      (IsMinimalOf-Sub g guide is_child test x y differ) of_sub (λ s. refl)
      (λ s p q label. step-Sub p q (label x.0) (label y.0)) held-Sub
      (λ s. IsKept-Sub (is_below is_child s) (is_child false s) (eqb s 0))

  minimal-single : (x : Track) → IsMinimalFor (plan Single x x false) (formula.Single x)
  minimal-single x =
      IsMinimalOf-numbered g guide (plan Single x x false) is_child (single_automaton x.0) (single_classes is_child) (formula.Single x)
      (IsMinimalOf-Single g guide is_child test x) of_single (λ s. refl)
      (λ s p q label. step-Single p q (label x.0) (label x.0)) held-Single
      (λ s. IsKept-Single (is_below is_child s) (is_child false s) (eqb s 0))

  minimal-root : (x : Track) → IsMinimalFor (plan Root x x false) (formula.Root x)
  minimal-root x =
      IsMinimalOf-numbered g guide (plan Root x x false) is_child (root_automaton x.0) (root_classes is_child) (formula.Root x)
      (IsMinimalOf-Root g guide is_child test x) of_root (λ s. refl)
      (λ s p q label. step-Root p q (label x.0) (label x.0)) held-Root
      (λ s. IsKept-Root (is_below is_child s) (is_child false s) (eqb s 0))

  minimal-succ0 : (x y : Track) → y.0 ≢ x.0 → IsMinimalFor (plan Succ0 x y false) (formula.Succ0 x y)
  minimal-succ0 x y differ =
      IsMinimalOf-numbered g guide (plan Succ0 x y false) is_child (succ0_automaton x.0 y.0) (succ_classes false is_child) (formula.Succ0 x y)
      (IsMinimalOf-Succ0 g guide is_child test x y differ) of_succ (λ s. refl)
      (λ s p q label. step-Succ0 p q (label x.0) (label y.0)) held-Succ0
      (λ s. IsKept-Succ0 (is_below is_child s) (is_child false s) (eqb s 0))

  minimal-succ1 : (x y : Track) → y.0 ≢ x.0 → IsMinimalFor (plan Succ1 x y false) (formula.Succ1 x y)
  minimal-succ1 x y differ =
      IsMinimalOf-numbered g guide (plan Succ1 x y false) is_child (succ1_automaton x.0 y.0) (succ_classes true is_child) (formula.Succ1 x y)
      (IsMinimalOf-Succ1 g guide is_child test x y differ) of_succ (λ s. refl)
      (λ s p q label. step-Succ1 p q (label x.0) (label y.0)) held-Succ1
      (λ s. IsKept-Succ1 (is_below is_child s) (is_child true s) (eqb s 0))

  -- one track twice
  once-sub : (x : Track) → IsMinimalFor (plan Sub x x true) (formula.Sub x x)
  once-sub x =
      IsMinimalOf-numbered g guide (plan Sub x x true) is_child (sub_automaton x.0 x.0) (λ s q. inside) (formula.Sub x x)
      (IsMinimalOf-Sub_same g guide x) of_sub (λ s. refl) (λ s p q label. step-Sub p q (label x.0) (label x.0)) held-Sub (λ s. IsKept-sub_none)

  once-succ0 : (x : Track) → IsMinimalFor (plan Succ0 x x true) (formula.Succ0 x x)
  once-succ0 x =
      IsMinimalOf-numbered g guide (plan Succ0 x x true) is_child (succ0_automaton x.0 x.0) (λ s q. neither) (formula.Succ0 x x)
      (IsMinimalOf-Succ0_same g guide x) of_succ (λ s. refl) (λ s p q label. step-Succ0 p q (label x.0) (label x.0)) held-Succ0 (λ s. IsKept-succ_none)

  once-succ1 : (x : Track) → IsMinimalFor (plan Succ1 x x true) (formula.Succ1 x x)
  once-succ1 x =
      IsMinimalOf-numbered g guide (plan Succ1 x x true) is_child (succ1_automaton x.0 x.0) (λ s q. neither) (formula.Succ1 x x)
      (IsMinimalOf-Succ1_same g guide x) of_succ (λ s. refl) (λ s p q label. step-Succ1 p q (label x.0) (label x.0)) held-Succ1 (λ s. IsKept-succ_none)

  same-track : (x y : Track) → y.0 ≡ x.0 → x ≡ y
  same-track x y e = λ i. record { 0 = sym e i }

  pub IsMinimalOf-planned : (p : Plan) (f : Formula) → IsPlanOf p f → IsMinimalOf g (numbered_automaton g p is_child) (Below (counts_of p is_child)) f
  IsMinimalOf-planned _ _ (sub x y differ) = minimal-sub x y differ
  IsMinimalOf-planned _ _ (sub_same x y same) =
      subst (λ (z : Track). IsMinimalFor (plan Sub x z true) (formula.Sub x z)) (same-track x y same) (once-sub x)
  IsMinimalOf-planned _ _ (single x) = minimal-single x
  IsMinimalOf-planned _ _ (succ0 x y differ) = minimal-succ0 x y differ
  IsMinimalOf-planned _ _ (succ0_same x y same) =
      subst (λ (z : Track). IsMinimalFor (plan Succ0 x z true) (formula.Succ0 x z)) (same-track x y same) (once-succ0 x)
  IsMinimalOf-planned _ _ (succ1 x y differ) = minimal-succ1 x y differ
  IsMinimalOf-planned _ _ (succ1_same x y same) =
      subst (λ (z : Track). IsMinimalFor (plan Succ1 x z true) (formula.Succ1 x z)) (same-track x y same) (once-succ1 x)
  IsMinimalOf-planned _ _ (root x) = minimal-root x
