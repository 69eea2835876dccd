-- A minimal automaton with its states named by numbers is minimal, and recognises the same.
use Rattle.std.proofs.Common.{◌≡◌, ℕ, ◌↔◌, true, false, [], ◌∷◌, refl, sym, ap, subst, ◌∙◌}
use Rattle.gta_theory.specs.Assignments.{Position, Assignment, half, root_label}
use Rattle.gta_theory.specs.Guides.{Spaces, IsSpace, IsGuide, left, right, space_at}
use Rattle.gta_theory.specs.Automata.{Automaton}
use Rattle.gta_theory.specs.Constructions.{IsClosed, IsNaming}
use Rattle.gta_theory.specs.Minimal.{value_with, AreToldApart}
use Rattle.gta_theory.proofs.AutomataLemmas.{IsClosed-reached, value-has, name-value}
use Rattle.gta_theory.proofs.MinimalLemmas.{IsStable-classes, IsReached-classes}
use Rattle.ws2s_core.specs.declared.formula.Formula.{Formula}
use Rattle.ws2s_core.specs.Recognising.{IsMinimalOf}
use Rattle.ws2s_core.proofs.RecognisingLemmas.{Recognises-classes}

module _ {Q R : Type 0} (g : Spaces) (guide : IsGuide g) (A : Automaton Q) (has : ℕ → Q → Type 0) (f : Formula)
    (of_A : IsMinimalOf g A has f) (M : Automaton R) (has_M : ℕ → R → Type 0) (name : ℕ → Q → R) (naming : IsNaming g A has M name)
    (image : (s : ℕ) (x : R) → IsSpace g s → has_M s x ↔ ((q : Q) × has s q × (name s q ≡ x))) where
  closed : IsClosed g A has
  closed = IsClosed-reached g guide A (of_A.minimal).stable has (of_A.minimal).reached

  has-value_with : (u : Position) (s n : ℕ) (q : Q) (a : Assignment) → IsSpace g s → has (space_at g s u) q → has s (value_with g A s u q n a)
  has-value_with [] s n q a there in_A = in_A
  has-value_with (false ∷ u) s n q a there in_A = closed.step s _ _ (root_label a) there
      (has-value_with u (left g s) n q (half false a) (guide.left_inside s there) in_A)
      (value-has g guide A has M name closed naming (right g s) n (half true a) (guide.right_inside s there))
  has-value_with (true ∷ u) s n q a there in_A = closed.step s _ _ (root_label a) there
      (value-has g guide A has M name closed naming (left g s) n (half false a) (guide.left_inside s there))
      (has-value_with u (right g s) n q (half true a) (guide.right_inside s there) in_A)

  name-value_with : (u : Position) (s n : ℕ) (q : Q) (a : Assignment) → IsSpace g s → has (space_at g s u) q →
      name s (value_with g A s u q n a) ≡ value_with g M s u (name (space_at g s u) q) n a
  name-value_with [] s n q a there in_A = refl
  name-value_with (false ∷ u) s n q a there in_A =
      naming.step s _ _ (root_label a) there
      (has-value_with u (left g s) n q (half false a) (guide.left_inside s there) in_A)
      (value-has g guide A has M name closed naming (right g s) n (half true a) (guide.right_inside s there))
      ∙ (λ i. M.step s (name-value_with u (left g s) n q (half false a) (guide.left_inside s there) in_A i)
      (name-value g guide A has M name closed naming (right g s) n (half true a) (guide.right_inside s there) i) (root_label a))
  name-value_with (true ∷ u) s n q a there in_A =
      naming.step s _ _ (root_label a) there
      (value-has g guide A has M name closed naming (left g s) n (half false a) (guide.left_inside s there))
      (has-value_with u (right g s) n q (half true a) (guide.right_inside s there) in_A)
      ∙ (λ i. M.step s (name-value g guide A has M name closed naming (left g s) n (half false a) (guide.left_inside s there) i)
      (name-value_with u (right g s) n q (half true a) (guide.right_inside s there) in_A i) (root_label a))

  told-named : (s : ℕ) (p q : Q) → IsSpace g s → has s p → has s q → AreToldApart g A s p q → AreToldApart g M s (name s p) (name s q)
  told-named s p q there has_p has_q t =
      let at : (x : Q) → has s x →
      A.accepting (value_with g A 0 t.hole x t.depth t.assignment) ≡ M.accepting (value_with g M 0 t.hole (name s x) t.depth t.assignment)
      = λ x in_A.
      let in_hole : has (space_at g 0 t.hole) x = subst (λ k. has k x) (sym t.is_there) in_A in
      naming.accepting _ (has-value_with t.hole 0 t.depth x t.assignment guide.not_empty in_hole)
      ∙ ap (λ y. M.accepting y) (name-value_with t.hole 0 t.depth x t.assignment guide.not_empty in_hole
      ∙ ap (λ k. value_with g M 0 t.hole (name k x) t.depth t.assignment) t.is_there) in
      record {
        hole = t.hole;
        assignment = t.assignment;
        depth = t.depth;
        covers = t.covers;
        is_there = t.is_there;
        differs = λ same. t.differs (at p has_p ∙ same ∙ sym (at q has_q));
      }

  pub IsMinimalOf-named : IsMinimalOf g M has_M f
  IsMinimalOf-named = record {
    minimal = record {
      stable = IsStable-classes g guide A (of_A.minimal).stable has (of_A.minimal).reached M name naming;
      reached = IsReached-classes g guide A (of_A.minimal).stable has (of_A.minimal).reached M name naming has_M image;
      apart = λ s x y there in_x in_y differ.
          let p = (image s x there).0 in_x in
          let q = (image s y there).0 in_y in
          let told = told-named s p.0 q.0 there p.1 q.1
          ((of_A.minimal).apart s p.0 q.0 there p.1 q.1 (λ e. differ (sym p.2 ∙ ap (name s) e ∙ q.2))) in
          subst (λ z. AreToldApart g M s z y) p.2 (subst (λ z. AreToldApart g M s (name s p.0) z) q.2 told);
    };
    recognises = Recognises-classes g guide A f of_A.recognises has M name (of_A.minimal).reached naming;
  }
