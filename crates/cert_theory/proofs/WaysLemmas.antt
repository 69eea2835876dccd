-- On the ways to put a dropped track: the states that an automaton comes to by some set for it.
use Rattle.std.proofs.Common.{◌≡◌, ℕ, zero, suc, max, Bool, true, false, cond, eqb, [], ◌∷◌, refl, ap, subst, ◌∙◌, arith, eqb-true}
use mathlib.Core.Path.{fun_ext}
use Rattle.labels.specs.Labels.{Label, empty_label, with_track, HasAtMost}
use Rattle.labels.proofs.LabelsLemmas.{with_track-at_most, HasAtMost-with_track}
use Rattle.gta_theory.specs.Assignments.{PositionSet, Assignment, Covers, half, root_label, replace, no_positions}
use Rattle.gta_theory.specs.Guides.{Spaces, IsSpace, IsGuide, left, right}
use Rattle.gta_theory.specs.Automata.{Automaton, value, IsStable}
use Rattle.gta_theory.specs.Constructions.{Settled, starts, steps, IsStepOf}
use Rattle.gta_theory.proofs.AssignmentsLemmas.{IsWithin-more, Covers-half, Covers-half_same, Covers-more, Covers-replace}
use Rattle.gta_theory.proofs.AssignmentsLemmas.{joined_set, IsWithin-joined_set}
use Rattle.gta_theory.proofs.AutomataLemmas.{value-same}
use Rattle.gta_theory.proofs.SubsetLemmas.{Chosen}

module _ {Q : Type 0} (g : Spaces) (guide : IsGuide g) (A : Automaton Q) (stable : IsStable g A) (t : ℕ) where
  -- two chosen sets below a root with the track as the bit says
  pub chosen-step : (s n : ℕ) (a : Assignment) (p q r : Q) (bit : Bool) → IsSpace g s → Covers (suc n) a →
      A.step s p q (with_track (root_label a) t bit) ≡ r →
      Chosen g A t (left g s) n (half false a) p → Chosen g A t (right g s) n (half true a) q → Chosen g A t s (suc n) a r
  chosen-step s n a p q r bit there covers is l r' =
      let m : ℕ = max l.depth r'.depth in
      let in_l : Covers m (replace (half false a) t l.set) = Covers-replace m (half false a) t l.set
      (Covers-more n m (half false a) (omega (arith, l.deep)) (Covers-half n false a covers))
      (IsWithin-more l.depth m l.set (omega arith) l.within) in
      let in_r : Covers m (replace (half true a) t r'.set) = Covers-replace m (half true a) t r'.set
      (Covers-more n m (half true a) (omega (arith, r'.deep)) (Covers-half n true a covers))
      (IsWithin-more r'.depth m r'.set (omega arith) r'.within) in
      let in_l' : Covers l.depth (replace (half false a) t l.set) = Covers-replace l.depth (half false a) t l.set
      (Covers-more n l.depth (half false a) l.deep (Covers-half n false a covers)) l.within in
      let in_r' : Covers r'.depth (replace (half true a) t r'.set) = Covers-replace r'.depth (half true a) t r'.set
      (Covers-more n r'.depth (half true a) r'.deep (Covers-half n true a covers)) r'.within in
      let is_l = value-same g guide A stable (left g s) m l.depth (replace (half false a) t l.set) (guide.left_inside s there) in_l in_l' ∙ l.gives in
      let is_r = value-same g guide A stable (right g s) m r'.depth (replace (half true a) t r'.set) (guide.right_inside s there) in_r in_r' ∙ r'.gives in
      record {
        depth = suc m;
        set = joined_set bit l.set r'.set;
        deep = omega (arith, l.deep);
        within = IsWithin-joined_set m bit l.set r'.set (IsWithin-more l.depth m l.set (omega arith) l.within)
            (IsWithin-more r'.depth m r'.set (omega arith) r'.within);
        gives = (λ i. A.step s (is_l i) (is_r i) (with_track (root_label a) t bit)) ∙ is;
      }

  Covers-up : (a : Assignment) → Covers 0 a → Covers 1 a
  Covers-up a covers = Covers-more 0 1 a (omega arith) covers

  -- a settled state is that of some set over an empty assignment
  pub chosen-settled : (s : ℕ) (q : Q) → Settled g A t s q → (a : Assignment) → Covers 0 a → Chosen g A t s 0 a q
  chosen-settled _ _ (starts s there) a covers = record {
    depth = 0;
    set = no_positions;
    deep = omega arith;
    within = λ p deep. refl;
    gives = refl;
  }
  chosen-settled _ _ (steps s p r label there at_most in_l in_r) a covers =
      let l = chosen-settled (left g s) p in_l (half false a) (Covers-half_same 0 false a covers) in
      let r' = chosen-settled (right g s) r in_r (half true a) (Covers-half_same 0 true a covers) in
      let empty : root_label a ≡ empty_label = fun_ext (λ u. covers u [] (omega arith)) in
      let labels : with_track (root_label a) t (label t) ≡ label =
      ap (λ k. with_track k t (label t)) empty ∙ with_track-at_most t label at_most in
      let made = chosen-step s 0 a p r (A.step s p r label) (label t) there (Covers-up a covers)
      (ap (A.step s p r) labels) l r' in
      record { depth = made.depth; set = made.set; deep = omega arith; within = made.within; gives = made.gives }

  -- and the other way round
  pub settled-chosen : (m s : ℕ) (a : Assignment) (set : PositionSet) → IsSpace g s → Covers 0 a →
      Settled g A t s (value g A s m (replace a t set))
  settled-chosen zero s a set there covers = starts s there
  settled-chosen (suc m) s a set there covers =
      steps s _ _ (root_label (replace a t set)) there at_most
      (settled-chosen m (left g s) (half false a) (λ p. set (false ∷ p)) (guide.left_inside s there) (Covers-half_same 0 false a covers))
      (settled-chosen m (right g s) (half true a) (λ p. set (true ∷ p)) (guide.right_inside s there) (Covers-half_same 0 true a covers))
    where
      at_most : HasAtMost t (root_label (replace a t set))
      at_most u other = pick (eqb u t) refl
        where
          pick : (b : Bool) → eqb u t ≡ b → cond b (set []) (a u []) ≡ false
          pick true is = absurd (other (eqb-true u t is))
          pick false is = covers u [] (omega arith)

  -- a settled state comes by a step on the empty label from settled states
  pub step-settled : (s : ℕ) (q : Q) → Settled g A t s q →
      IsStepOf A t s (Settled g A t (left g s)) (Settled g A t (right g s)) empty_label q
  step-settled _ _ (starts s there) = record {
    left = A.initial (left g s);
    right = A.initial (right g s);
    bit = false;
    in_left = starts (left g s) (guide.left_inside s there);
    in_right = starts (right g s) (guide.right_inside s there);
    is_step = ap (A.step s (A.initial (left g s)) (A.initial (right g s))) (with_track-at_most t empty_label (λ u other. refl)) ∙ stable.at s there;
  }
  step-settled _ _ (steps s p r label there at_most in_l in_r) = record {
    left = p;
    right = r;
    bit = label t;
    in_left = in_l;
    in_right = in_r;
    is_step = ap (A.step s p r) (with_track-at_most t label at_most);
  }

  pub settled-step : (s : ℕ) (q : Q) → IsSpace g s →
      IsStepOf A t s (Settled g A t (left g s)) (Settled g A t (right g s)) empty_label q → Settled g A t s q
  settled-step s q there h =
      subst (Settled g A t s) h.is_step
      (steps s h.left h.right (with_track empty_label t h.bit) there (HasAtMost-with_track t h.bit) h.in_left h.in_right)

-- a step from other sets with the same members
pub IsStepOf-same : {Q : Type 0} (A : Automaton Q) (t s : ℕ) (L L' R R' : Q → Type 0) (label : Label) (q : Q) →
    ((p : Q) → L p → L' p) → ((p : Q) → R p → R' p) → IsStepOf A t s L R label q → IsStepOf A t s L' R' label q
IsStepOf-same A t s L L' R R' label q of_L of_R h = record {
  left = h.left;
  right = h.right;
  bit = h.bit;
  in_left = of_L h.left h.in_left;
  in_right = of_R h.right h.in_right;
  is_step = h.is_step;
}
