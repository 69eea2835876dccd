-- An automaton whose states are the classes, and whose steps are those of the automaton of classes.
use Rattle.std.proofs.Common.{◌≡◌, ℕ, ◌<◌, true, List, sym, ◌∙◌, subst, arith}
use Rattle.std.specs.Prelude.{nat_lt, ◌↔◌}
use Rattle.std.proofs.lemmas.Bool.{ltb-true, lt-ltb}
use Rattle.labels.specs.Labels.{Label}
use Rattle.gta_theory.specs.Assignments.{Assignment}
use Rattle.gta_theory.specs.Guides.{IsSpace, left, right}
use Rattle.gta_theory.specs.Automata.{Automaton, Accepts, Has, IsStable}
use Rattle.gta_theory.specs.Constructions.{IsClosed, IsNaming}
use Rattle.gta_theory.specs.Minimal.{IsMinimal}
use Rattle.gta_theory.specs.Numbered.{Below}
use Rattle.gta_theory.proofs.AutomataLemmas.{IsClosed-reached, Accepts-named}
use Rattle.gta_theory.proofs.MinimalLemmas.{IsMinimal-classes, IsStable-classes}
use Rattle.gta_reach.specs.declared.form.Form.{Form}
use Rattle.gta_classes.specs.declared.part.SpaceClasses.{SpaceClasses}
use Rattle.gta_reach.specs.Form as form
use Rattle.gta_refine.specs.Refined.{part_at, is_reached_in, class_at, representative_at, classes_in, quotient_of, IsRefined}
use Rattle.gta_classes.proofs.ChosenLemmas.{marked-inside}
use Rattle.gta_minimise.proofs.ReadLemmas.{step-quotient}

-- the automaton has the states and the steps of the automaton of classes
pub record IsQuotient (f : Form) (classes : List SpaceClasses) (A : Automaton ℕ) (count : ℕ → ℕ) : Type 0 where
  pub states : (s : ℕ) → IsSpace (form.guide_of f) s → count s ≡ classes_in classes s
  pub initial : (s : ℕ) → IsSpace (form.guide_of f) s → A.initial s ≡ class_at classes s ((form.automaton_of f).initial s)
  pub step : (s x y : ℕ) (label : Label) → IsSpace (form.guide_of f) s → x < classes_in classes (left (form.guide_of f) s) →
      y < classes_in classes (right (form.guide_of f) s) → A.step s x y label ≡ (quotient_of f classes).step s x y label
  pub accepting : (x : ℕ) → x < classes_in classes 0 → A.accepting x ≡ (quotient_of f classes).accepting x

module _ (f : Form) (classes : List SpaceClasses) (is_form : form.IsForm f) (refined : IsRefined f classes) (A : Automaton ℕ) (count : ℕ → ℕ)
    (is : IsQuotient f classes A count) where
  closed-reached : IsClosed (form.guide_of f) (form.automaton_of f) (Has (is_reached_in classes))
  closed-reached = IsClosed-reached (form.guide_of f) is_form.guide (form.automaton_of f) is_form.stable (Has (is_reached_in classes)) refined.reached

  class-below : (s q : ℕ) → IsSpace (form.guide_of f) s → is_reached_in classes s q ≡ true → class_at classes s q < classes_in classes s
  class-below s q there reached =
      let are_classes = refined.classes s there in
      are_classes.within q (let i = marked-inside (part_at classes s).reached q reached in let m = are_classes.many in omega arith)

  naming : IsNaming (form.guide_of f) (form.automaton_of f) (Has (is_reached_in classes)) A (class_at classes)
  naming = record {
    initial = λ s there. sym (is.initial s there);
    step = λ s p q label there p_in q_in.
        let h = form.guide_of f in
        refined.naming.step s p q label there p_in q_in
        ∙ sym (is.step s (class_at classes (left h s) p) (class_at classes (right h s) q) label there
        (class-below (left h s) p (is_form.guide.left_inside s there) p_in) (class-below (right h s) q (is_form.guide.right_inside s there) q_in));
    accepting = λ q q_in. refined.naming.accepting q q_in ∙ sym (is.accepting (class_at classes 0 q) (class-below 0 q is_form.guide.not_empty q_in));
  }

  pub below-back : (s x : ℕ) → IsSpace (form.guide_of f) s → nat_lt x (count s) ≡ true → x < classes_in classes s
  below-back s x there below = let e = is.states s there in let b = ltb-true x (count s) below in omega arith

  pub below-to : (s x : ℕ) → IsSpace (form.guide_of f) s → x < classes_in classes s → nat_lt x (count s) ≡ true
  below-to s x there below = let e = is.states s there in lt-ltb x (count s) (omega arith)

  representative-reached : (s x : ℕ) → IsSpace (form.guide_of f) s → x < classes_in classes s → is_reached_in classes s (representative_at classes s x) ≡ true
  representative-reached s x there x_in = (refined.classes s there).inside x x_in

  pub IsClosed-classes : IsClosed (form.guide_of f) A (Below count)
  IsClosed-classes = record {
    initial = λ s there. below-to s (A.initial s) there
        (subst (λ (q : ℕ). q < classes_in classes s) (sym (is.initial s there))
        (class-below s ((form.automaton_of f).initial s) there (closed-reached.initial s there)));
    step = λ s x y label there x_below y_below.
        let h = form.guide_of f in
        let l_there = is_form.guide.left_inside s there in
        let r_there = is_form.guide.right_inside s there in
        let x_in = below-back (left h s) x l_there x_below in
        let y_in = below-back (right h s) y r_there y_below in
        let p = representative_at classes (left h s) x in
        let q = representative_at classes (right h s) y in
        below-to s (A.step s x y label) there
        (subst (λ (k : ℕ). k < classes_in classes s) (sym (is.step s x y label there x_in y_in ∙ step-quotient f classes s x y label))
        (class-below s ((form.automaton_of f).step s p q label) there (closed-reached.step s p q label there
        (representative-reached (left h s) x l_there x_in) (representative-reached (right h s) y r_there y_in))));
  }

  pub IsStable-quotient : IsStable (form.guide_of f) A
  IsStable-quotient = IsStable-classes (form.guide_of f) is_form.guide (form.automaton_of f) is_form.stable (Has (is_reached_in classes))
      refined.reached A (class_at classes) naming

  pub IsMinimal-quotient : IsMinimal (form.guide_of f) A (Below count)
  IsMinimal-quotient = IsMinimal-classes (form.guide_of f) is_form.guide (form.automaton_of f) is_form.stable (Has (is_reached_in classes)) refined.reached
      A (class_at classes) naming (Below count)
      (λ s x there. (
        (λ below. let x_in = below-back s x there below in
            (representative_at classes s x, representative-reached s x there x_in, (refined.classes s there).has x x_in)),
        (λ q. below-to s x there (subst (λ (k : ℕ). k < classes_in classes s) q.2 (class-below s q.0 there q.1))),
      ))
      refined.apart

  pub Accepts-quotient : (t : Assignment) → Accepts (form.guide_of f) (form.automaton_of f) t ↔ Accepts (form.guide_of f) A t
  Accepts-quotient t = Accepts-named (form.guide_of f) is_form.guide (form.automaton_of f) (Has (is_reached_in classes))
      A (class_at classes) closed-reached naming t
