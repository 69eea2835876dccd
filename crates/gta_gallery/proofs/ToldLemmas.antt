-- The parts of the two spaces can be given.
use Rattle.std.proofs.Common.{◌≡◌, ℕ, zero, suc, ◌<◌, ◌*◌, Bool, true, false, nat_lt, if◌then◌else◌, IsTrue, List, [], ◌∷◌, length, slice_get, Some, All}
use Rattle.std.proofs.Common.{refl, sym, ap, subst, ◌∙◌, arith}
use Rattle.std.proofs.lemmas.Bool.{ltb-true}
use Rattle.std.proofs.lemmas.List.Elements.{All-nil, All-cons}
use Rattle.labels.specs.Labels.{Label, empty_label}
use Rattle.bdd_nodes.specs.declared.node_ref.NodeRef.{NodeRef}
use Rattle.bdd_nodes.specs.Shelf.{Contents, IsValid, state_of}
use Rattle.gta_theory.specs.Guides.{left, right}
use Rattle.gta_core.specs.declared.build.SpacePart.{SpacePart}
use Rattle.gta_core.specs.Given.{given_states, given_automaton, IsGiven}
use Rattle.gta_gallery.specs.Told.{two_spaces, told_part, told_parts}

module _ (shelf : Contents) (told : NodeRef) (accepting : List Bool) (valid : IsValid shelf told)
    (tells : (label : Label) → state_of shelf told label ≡ (if label 0 then 1 else 0)) where
  few : (b : Bool) → IsTrue (nat_lt (if b then 1 else 0) 3)
  few true = refl
  few false = refl

  -- a step tells
  step-zero : (p q : ℕ) (label : Label) → p < 3 → q < 3 →
      (given_automaton two_spaces shelf (told_parts told) accepting).step 0 p q label ≡ state_of shelf told label
  unfolding given_automaton
  step-zero zero zero label p_in q_in = refl
  step-zero zero (suc zero) label p_in q_in = refl
  step-zero zero (suc (suc zero)) label p_in q_in = refl
  step-zero (suc zero) zero label p_in q_in = refl
  step-zero (suc zero) (suc zero) label p_in q_in = refl
  step-zero (suc zero) (suc (suc zero)) label p_in q_in = refl
  step-zero (suc (suc zero)) zero label p_in q_in = refl
  step-zero (suc (suc zero)) (suc zero) label p_in q_in = refl
  step-zero (suc (suc zero)) (suc (suc zero)) label p_in q_in = refl
  step-zero (suc (suc (suc p))) q label p_in q_in = absurd (omega arith)
  step-zero p (suc (suc (suc q))) label p_in q_in = absurd (omega arith)

  step-told : (s p q : ℕ) (label : Label) → s < 2 → p < 3 → q < 3 →
      (given_automaton two_spaces shelf (told_parts told) accepting).step s p q label ≡ state_of shelf told label
  unfolding given_automaton
  step-told zero p q label inside p_in q_in = step-zero p q label p_in q_in
  step-told (suc zero) p q label inside p_in q_in = step-zero p q label p_in q_in
  step-told (suc (suc s)) p q label inside p_in q_in = absurd (omega arith)

  states-three : (s : ℕ) → s < 2 → given_states (told_parts told) s ≡ 3
  states-three zero inside = refl
  states-three (suc zero) inside = refl
  states-three (suc (suc s)) inside = absurd (omega arith)

  left-inside : (s : ℕ) → s < 2 → left two_spaces s < 2
  left-inside zero inside = omega arith
  left-inside (suc zero) inside = omega arith
  left-inside (suc (suc s)) inside = absurd (omega arith)

  right-inside : (s : ℕ) → s < 2 → right two_spaces s < 2
  right-inside zero inside = omega arith
  right-inside (suc zero) inside = omega arith
  right-inside (suc (suc s)) inside = absurd (omega arith)

  step_in : (s p q : ℕ) (label : Label) → s < 2 → IsTrue (nat_lt p (given_states (told_parts told) (left two_spaces s))) →
      IsTrue (nat_lt q (given_states (told_parts told) (right two_spaces s))) →
      IsTrue (nat_lt ((given_automaton two_spaces shelf (told_parts told) accepting).step s p q label) (given_states (told_parts told) s))
  step_in s p q label inside hp hq =
      let p_below = ltb-true p (given_states (told_parts told) (left two_spaces s)) hp in
      let q_below = ltb-true q (given_states (told_parts told) (right two_spaces s)) hq in
      let l = states-three (left two_spaces s) (left-inside s inside) in
      let r = states-three (right two_spaces s) (right-inside s inside) in
      let is = step-told s p q label inside (omega arith) (omega arith) ∙ tells label in
      ap (λ (n : ℕ). nat_lt n (given_states (told_parts told) s)) is
      ∙ ap (nat_lt (if label 0 then 1 else 0)) (states-three s inside) ∙ few (label 0)

  initial-zero : (s : ℕ) → s < 2 → (given_automaton two_spaces shelf (told_parts told) accepting).initial s ≡ 0
  unfolding given_automaton
  initial-zero zero inside = refl
  initial-zero (suc zero) inside = refl
  initial-zero (suc (suc s)) inside = absurd (omega arith)

  initial_in : (s : ℕ) → s < 2 → IsTrue (nat_lt ((given_automaton two_spaces shelf (told_parts told) accepting).initial s) (given_states (told_parts told) s))
  initial_in s inside =
      ap (λ (n : ℕ). nat_lt n (given_states (told_parts told) s)) (initial-zero s inside) ∙ ap (nat_lt 0) (states-three s inside)

  stable_at : (s : ℕ) → s < 2 → (given_automaton two_spaces shelf (told_parts told) accepting).step s
      ((given_automaton two_spaces shelf (told_parts told) accepting).initial (left two_spaces s))
      ((given_automaton two_spaces shelf (told_parts told) accepting).initial (right two_spaces s)) empty_label
      ≡ (given_automaton two_spaces shelf (told_parts told) accepting).initial s
  stable_at s inside =
      let l = initial-zero (left two_spaces s) (left-inside s inside) in
      let r = initial-zero (right two_spaces s) (right-inside s inside) in
      step-told s ((given_automaton two_spaces shelf (told_parts told) accepting).initial (left two_spaces s))
      ((given_automaton two_spaces shelf (told_parts told) accepting).initial (right two_spaces s)) empty_label inside (omega arith) (omega arith)
      ∙ tells empty_label ∙ sym (initial-zero s inside)

  part-is : (s : ℕ) (part : SpacePart) → slice_get (told_parts told) s ≡ Some part → told_part told ≡ part
  part-is zero part e = cc
  part-is (suc zero) part e = cc
  part-is (suc (suc s)) part e = absurd cc

  part-inside : (s : ℕ) (part : SpacePart) → slice_get (told_parts told) s ≡ Some part → s < 2
  part-inside zero part e = omega arith
  part-inside (suc zero) part e = omega arith
  part-inside (suc (suc s)) part e = absurd cc

  all-valid : (roots : List NodeRef) → All (IsValid shelf) roots → All (IsValid shelf) (told ∷ roots)
  all-valid roots rest = All-cons (IsValid shelf) told roots valid rest

  roots-valid : All (IsValid shelf) (told_part told).roots
  roots-valid =
      all-valid (told ∷ told ∷ told ∷ told ∷ told ∷ told ∷ told ∷ told ∷ [])
      (all-valid (told ∷ told ∷ told ∷ told ∷ told ∷ told ∷ told ∷ [])
      (all-valid (told ∷ told ∷ told ∷ told ∷ told ∷ told ∷ [])
      (all-valid (told ∷ told ∷ told ∷ told ∷ told ∷ [])
      (all-valid (told ∷ told ∷ told ∷ told ∷ [])
      (all-valid (told ∷ told ∷ told ∷ [])
      (all-valid (told ∷ told ∷ [])
      (all-valid (told ∷ [])
      (all-valid [] (All-nil (IsValid shelf))))))))))

  pub told-given : length accepting ≡ 3 → IsGiven two_spaces shelf (told_parts told) accepting
  told-given three = record {
    each_space = refl;
    each_state = three;
    complete = λ s part at.
        let inside = part-inside s part at in
        sym (ap (λ (p : SpacePart). length p.roots) (part-is s part at))
        ∙ (λ k. sym (states-three (left two_spaces s) (left-inside s inside)) k * sym (states-three (right two_spaces s) (right-inside s inside)) k);
    valid = λ s part at. subst (λ (p : SpacePart). All (IsValid shelf) p.roots) (part-is s part at) roots-valid;
    closed = record { initial = initial_in; step = step_in };
    stable = record { at = stable_at };
  }
