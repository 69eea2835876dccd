-- The form's automaton accepts what the automaton does.
use Rattle.std.proofs.Common.{◌≡◌, ℕ, zero, suc, true, false, List, sym, ap, subst, ◌∙◌}
use Rattle.std.specs.Prelude.{nat_lt}
use Rattle.std.proofs.lemmas.Bool.{ltb-true}
use Rattle.bdd_nodes.specs.Shelf.{Contents}
use Rattle.gta_theory.specs.Assignments.{Assignment, half, root_label}
use Rattle.gta_theory.specs.Guides.{Spaces, IsSpace, IsGuide, left, right}
use Rattle.gta_theory.specs.Automata.{value, Accepts}
use Rattle.ws2s_core.specs.declared.track.Track.{Track}
use Rattle.ws2s_core.specs.declared.label_tree.TreeNode.{TreeNode}
use Rattle.ws2s_core.specs.LabelTrees.{assignment_of}
use Rattle.gta_core.specs.Auto.{AutoView, states_of, automaton_of, IsAuto}
use Rattle.gta_reach.specs.declared.form.Form.{Form}
use Rattle.gta_reach.specs.Form as form
use Rattle.gta_form.specs.Listed.{IsFormOf}
use Rattle.gta_witness.specs.declared.lightest.Lightest.{Lightest}
use Rattle.gta_witness.specs.Lightest.{each_once, IsLightestTree, AreTooLarge}
use Rattle.gta_witness.specs.Answers.{IsLightestOf}
use Rattle.gta_witness.proofs.LargeLemmas.{AreTooLarge-same}

module _ (g : Spaces) (shelf : Contents) (a : AutoView) (f : Form) (is_auto : IsAuto g shelf a) (guide : IsGuide g) (same : IsFormOf g shelf a f) where
  below : (n s : ℕ) (x : Assignment) → IsSpace g s → nat_lt (value g (automaton_of shelf a) s n x) (states_of a s) ≡ true
  below zero s x there = is_auto.closed.initial s there
  below (suc n) s x there = is_auto.closed.step s (value g (automaton_of shelf a) (left g s) n (half false x))
      (value g (automaton_of shelf a) (right g s) n (half true x)) (root_label x) there
      (below n (left g s) (half false x) (guide.left_inside s there)) (below n (right g s) (half true x) (guide.right_inside s there))

  same-value : (n s : ℕ) (x : Assignment) → IsSpace g s → value g (form.automaton_of f) s n x ≡ value g (automaton_of shelf a) s n x
  same-value zero s x there = same.initial s there
  same-value (suc n) s x there =
      let l_there = guide.left_inside s there in
      let r_there = guide.right_inside s there in
      let p = value g (automaton_of shelf a) (left g s) n (half false x) in
      let q = value g (automaton_of shelf a) (right g s) n (half true x) in
      ap (λ (k : ℕ). (form.automaton_of f).step s k (value g (form.automaton_of f) (right g s) n (half true x)) (root_label x))
      (same-value n (left g s) (half false x) l_there)
      ∙ ap (λ (k : ℕ). (form.automaton_of f).step s p k (root_label x)) (same-value n (right g s) (half true x) r_there)
      ∙ same.steps s p q (root_label x) there (ltb-true p (states_of a (left g s)) (below n (left g s) (half false x) l_there))
      (ltb-true q (states_of a (right g s)) (below n (right g s) (half true x) r_there))

  same-accepting : (n : ℕ) (x : Assignment) → (form.automaton_of f).accepting (value g (form.automaton_of f) 0 n x) ≡ (automaton_of shelf a).accepting
      (value g (automaton_of shelf a) 0 n x)
  same-accepting n x =
      ap (λ (k : ℕ). (form.automaton_of f).accepting k) (same-value n 0 x guide.not_empty)
      ∙ same.accepting (value g (automaton_of shelf a) 0 n x) (ltb-true (value g (automaton_of shelf a) 0 n x) (states_of a 0) (below n 0 x guide.not_empty))

  pub accepts-form : (x : Assignment) → Accepts g (automaton_of shelf a) x → Accepts (form.guide_of f) (form.automaton_of f) x
  accepts-form x accepts = subst (λ (h : Spaces). Accepts h (form.automaton_of f) x) (sym same.guide)
      (record { depth = accepts.depth; covers = accepts.covers; accepted = same-accepting accepts.depth x ∙ accepts.accepted })

  pub accepts-auto : (x : Assignment) → Accepts (form.guide_of f) (form.automaton_of f) x → Accepts g (automaton_of shelf a) x
  accepts-auto x accepts =
      let here = subst (λ (h : Spaces). Accepts h (form.automaton_of f) x) same.guide accepts in
      record { depth = here.depth; covers = here.covers; accepted = sym (same-accepting here.depth x) ∙ here.accepted }

  lightest-auto : (tracks : List Track) (nodes : List TreeNode) (w : ℕ) → IsLightestTree (form.guide_of f) (form.automaton_of f) tracks nodes w →
      IsLightestTree g (automaton_of shelf a) tracks nodes w
  lightest-auto tracks nodes w lightest = record {
    accepted = accepts-auto (assignment_of nodes) lightest.accepted;
    weighs = lightest.weighs;
    room = lightest.room;
    least = λ n x covers accepts. lightest.least n x covers (accepts-form x accepts);
    fewest = λ n m x covers accepts is_weight tree. lightest.fewest n m x covers (accepts-form x accepts) is_weight tree;
  }

  answer-auto : (tracks : List Track) (answer : Lightest) → IsLightestOf (form.guide_of f) (form.automaton_of f) tracks answer →
      IsLightestOf g (automaton_of shelf a) tracks answer
  answer-auto tracks Lightest.None nothing = λ x accepts. nothing x (accepts-form x accepts)
  answer-auto tracks (Lightest.Tree nodes w) lightest = lightest-auto tracks nodes w lightest
  answer-auto tracks Lightest.TooLarge large =
      AreTooLarge-same (Accepts (form.guide_of f) (form.automaton_of f)) (Accepts g (automaton_of shelf a)) (each_once tracks) accepts-auto accepts-form large

  pub answer-for : (weigh tracks : List Track) (answer : Lightest) → weigh ≡ tracks →
      IsLightestOf (form.guide_of f) (form.automaton_of f) weigh answer → IsLightestOf g (automaton_of shelf a) tracks answer
  answer-for weigh tracks answer same_tracks of_form =
      subst (λ (ts : List Track). IsLightestOf g (automaton_of shelf a) ts answer) same_tracks (answer-auto weigh answer of_form)

  pub large-for : (weigh tracks : List Track) → weigh ≡ tracks → AreTooLarge (Accepts g (automaton_of shelf a)) (each_once tracks) →
      AreTooLarge (Accepts (form.guide_of f) (form.automaton_of f)) (each_once weigh)
  large-for weigh tracks same_tracks large =
      subst (λ (ts : List Track). AreTooLarge (Accepts (form.guide_of f) (form.automaton_of f)) (each_once ts)) (sym same_tracks)
      (AreTooLarge-same (Accepts g (automaton_of shelf a)) (Accepts (form.guide_of f) (form.automaton_of f)) (each_once tracks) accepts-form accepts-auto large)
