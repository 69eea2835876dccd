-- On automata that are one to one: two products of the same, and two subset automata of the same.
use Rattle.std.proofs.Common.{◌≡◌, ℕ, suc, max, Bool, true, false, not, ◌↔◌, [], ◌∷◌, refl, sym, ap, subst, ◌∙◌, arith}
use Rattle.std.specs.Bool.{one_answer}
use Rattle.gta_theory.specs.Assignments.{Position, Assignment, Covers, half, root_label, empty_assignment}
use Rattle.gta_theory.specs.Guides.{Spaces, IsSpace, IsGuide, left, right}
use Rattle.gta_theory.specs.Automata.{Automaton, value, IsStable}
use Rattle.gta_theory.specs.Constructions.{complement, pairs, IsReached, IsProduct, IsSubset}
use Rattle.gta_theory.specs.Minimal.{value_with, IsMinimal, AreTwins, AreAlike}
use Rattle.gta_theory.proofs.AssignmentsLemmas.{Covers-more, joined, Covers-joined, Covers-empty}
use Rattle.gta_theory.proofs.AutomataLemmas.{value-same, IsClosed-reached, name-value, value-complement, IsStable-complement, IsStable-product}
use Rattle.gta_theory.proofs.SubsetLemmas.{IsStable-subset, members-same}

module _ {Q R : Type 0} (g : Spaces) (guide : IsGuide g) (A : Automaton Q) (has_A : ℕ → Q → Type 0) (stable_A : IsStable g A)
    (reached_A : IsReached g A has_A) (B : Automaton R) (has_B : ℕ → R → Type 0) (stable_B : IsStable g B)
    (reached_B : IsReached g B has_B) where
  pub first-there : (s : ℕ) (p : Q) (q : R) → IsSpace g s → AreTwins g A B s p q → has_A s p
  first-there s p q there t = (reached_A.state s p there).1
      (record { assignment = t.assignment; depth = t.depth; covers = t.covers; is_value = t.first })

  pub second-there : (s : ℕ) (p : Q) (q : R) → IsSpace g s → AreTwins g A B s p q → has_B s q
  second-there s p q there t = (reached_B.state s q there).1
      (record { assignment = t.assignment; depth = t.depth; covers = t.covers; is_value = t.second })

  -- reached states are one to one where no state has two twins
  pub AreAlike-reached :
      ((s : ℕ) (p : Q) (q r : R) → IsSpace g s → AreTwins g A B s p q → AreTwins g A B s p r → q ≡ r) →
      ((s : ℕ) (p q : Q) (r : R) → IsSpace g s → AreTwins g A B s p r → AreTwins g A B s q r → p ≡ q) →
      ((p : Q) (q : R) → AreTwins g A B 0 p q → A.accepting p ≡ B.accepting q) →
      AreAlike g A has_A B has_B
  AreAlike-reached one_there one_back accepting = record {
    there = λ s p is_space has.
        let v = (reached_A.state s p is_space).0 has in
        let t : AreTwins g A B s p (value g B s v.depth v.assignment) =
        record { assignment = v.assignment; depth = v.depth; covers = v.covers; first = v.is_value; second = refl } in
        (value g B s v.depth v.assignment, second-there s p _ is_space t, t);
    back = λ s q is_space has.
        let v = (reached_B.state s q is_space).0 has in
        let t : AreTwins g A B s (value g A s v.depth v.assignment) q =
        record { assignment = v.assignment; depth = v.depth; covers = v.covers; first = refl; second = v.is_value } in
        (value g A s v.depth v.assignment, first-there s _ q is_space t, t);
    one_there = one_there;
    one_back = one_back;
    initial = λ s is_space. record { assignment = empty_assignment; depth = 0; covers = Covers-empty; first = refl; second = refl };
    step = λ s p q x y label is_space l r.
        let n : ℕ = max l.depth r.depth in
        let in_l : Covers n l.assignment = Covers-more l.depth n l.assignment (omega arith) l.covers in
        let in_r : Covers n r.assignment = Covers-more r.depth n r.assignment (omega arith) r.covers in
        let to_l = guide.left_inside s is_space in
        let to_r = guide.right_inside s is_space in
        record {
          assignment = joined label l.assignment r.assignment;
          depth = suc n;
          covers = Covers-joined n label l.assignment r.assignment in_l in_r;
          first = λ i. A.step s
              ((value-same g guide A stable_A (left g s) n l.depth l.assignment to_l in_l l.covers ∙ l.first) i)
              ((value-same g guide A stable_A (right g s) n r.depth r.assignment to_r in_r r.covers ∙ r.first) i) label;
          second = λ i. B.step s
              ((value-same g guide B stable_B (left g s) n l.depth l.assignment to_l in_l l.covers ∙ l.second) i)
              ((value-same g guide B stable_B (right g s) n r.depth r.assignment to_r in_r r.covers ∙ r.second) i) label;
        };
    accepting = accepting;
  }

-- two products of the same
module _ {Q R S T : Type 0} (g : Spaces) (guide : IsGuide g) (A : Automaton Q) (B : Automaton R) (of_A : IsStable g A)
    (of_B : IsStable g B) (C : Automaton S) (has_C : ℕ → S → Type 0) (pair_C : ℕ → S → Q × R) (of_C : IsProduct g A B C has_C pair_C)
    (D : Automaton T) (has_D : ℕ → T → Type 0) (pair_D : ℕ → T → Q × R) (of_D : IsProduct g A B D has_D pair_D) where
  stable_C : IsStable g C
  stable_C = IsStable-product g guide A B of_A of_B C has_C pair_C of_C

  stable_D : IsStable g D
  stable_D = IsStable-product g guide A B of_A of_B D has_D pair_D of_D

  pairs-same : (s : ℕ) (p : S) (q : T) → IsSpace g s → AreTwins g C D s p q → pair_C s p ≡ pair_D s q
  pairs-same s p q there t =
      sym (ap (pair_C s) t.first)
      ∙ name-value g guide C has_C (pairs A B) pair_C (IsClosed-reached g guide C stable_C has_C of_C.reached) of_C.naming s t.depth t.assignment there
      ∙ sym (name-value g guide D has_D (pairs A B) pair_D (IsClosed-reached g guide D stable_D has_D of_D.reached) of_D.naming s t.depth t.assignment there)
      ∙ ap (pair_D s) t.second

  pub AreAlike-products : AreAlike g C has_C D has_D
  AreAlike-products =
      AreAlike-reached g guide C has_C stable_C of_C.reached D has_D stable_D of_D.reached
      (λ s p q r there one other. (of_D.once).once s q r there
      (second-there g guide C has_C stable_C of_C.reached D has_D stable_D of_D.reached s p q there one)
      (second-there g guide C has_C stable_C of_C.reached D has_D stable_D of_D.reached s p r there other)
      (sym (pairs-same s p q there one) ∙ pairs-same s p r there other))
      (λ s p q r there one other. (of_C.once).once s p q there
      (first-there g guide C has_C stable_C of_C.reached D has_D stable_D of_D.reached s p r there one)
      (first-there g guide C has_C stable_C of_C.reached D has_D stable_D of_D.reached s q r there other)
      (pairs-same s p r there one ∙ sym (pairs-same s q r there other)))
      (λ p q t.
      (of_C.naming).accepting p (first-there g guide C has_C stable_C of_C.reached D has_D stable_D of_D.reached 0 p q guide.not_empty t)
      ∙ ap (λ x. (pairs A B).accepting x) (pairs-same 0 p q guide.not_empty t)
      ∙ sym ((of_D.naming).accepting q (second-there g guide C has_C stable_C of_C.reached D has_D stable_D of_D.reached 0 p q guide.not_empty t)))

-- two subset automata of the same
module _ {Q S T : Type 0} (g : Spaces) (guide : IsGuide g) (A : Automaton Q) (of_A : IsStable g A) (t : ℕ)
    (C : Automaton S) (has_C : ℕ → S → Type 0) (member_C : ℕ → S → Q → Type 0) (of_C : IsSubset g A t C has_C member_C)
    (D : Automaton T) (has_D : ℕ → T → Type 0) (member_D : ℕ → T → Q → Type 0) (of_D : IsSubset g A t D has_D member_D) where
  subset_C : IsStable g C
  subset_C = IsStable-subset g guide A of_A t C has_C member_C of_C

  subset_D : IsStable g D
  subset_D = IsStable-subset g guide A of_A t D has_D member_D of_D

  twins-members : (s : ℕ) (x : S) (y : T) → IsSpace g s → AreTwins g C D s x y → (q : Q) → member_C s x q ↔ member_D s y q
  twins-members s x y there twins q = (
    (λ m. subst (λ z. member_D s z q) twins.second
        (members-same g guide A of_A t C has_C member_C of_C D has_D member_D of_D twins.depth s twins.assignment q there twins.covers
        (subst (λ z. member_C s z q) (sym twins.first) m))),
    (λ m. subst (λ z. member_C s z q) twins.first
        (members-same g guide A of_A t D has_D member_D of_D C has_C member_C of_C twins.depth s twins.assignment q there twins.covers
        (subst (λ z. member_D s z q) (sym twins.second) m))),
  )

  pub AreAlike-subsets : AreAlike g C has_C D has_D
  AreAlike-subsets =
      AreAlike-reached g guide C has_C subset_C of_C.reached D has_D subset_D of_D.reached
      (λ s x y z there one other. of_D.once s y z there
      (second-there g guide C has_C subset_C of_C.reached D has_D subset_D of_D.reached s x y there one)
      (second-there g guide C has_C subset_C of_C.reached D has_D subset_D of_D.reached s x z there other)
      (λ q. (
        (λ m. (twins-members s x z there other q).0 ((twins-members s x y there one q).1 m)),
        (λ m. (twins-members s x y there one q).0 ((twins-members s x z there other q).1 m)),
      )))
      (λ s x y z there one other. of_C.once s x y there
      (first-there g guide C has_C subset_C of_C.reached D has_D subset_D of_D.reached s x z there one)
      (first-there g guide C has_C subset_C of_C.reached D has_D subset_D of_D.reached s y z there other)
      (λ q. (
        (λ m. (twins-members s y z there other q).1 ((twins-members s x z there one q).0 m)),
        (λ m. (twins-members s x z there one q).1 ((twins-members s y z there other q).0 m)),
      )))
      (λ x y twins.
      let in_C = first-there g guide C has_C subset_C of_C.reached D has_D subset_D of_D.reached 0 x y guide.not_empty twins in
      let in_D = second-there g guide C has_C subset_C of_C.reached D has_D subset_D of_D.reached 0 x y guide.not_empty twins in
      one_answer (C.accepting x) (D.accepting y) ((λ is. is), (λ is. is)) (
        (λ is.
            let some = (of_D.accepting y in_D).0 is in
            (of_C.accepting x in_C).1 (record {
              state = some.state;
              inside = (twins-members 0 x y guide.not_empty twins some.state).1 some.inside;
              accepting =
                  some.accepting;
            })),
        (λ is.
            let some = (of_C.accepting x in_C).0 is in
            (of_D.accepting y in_D).1 (record {
              state = some.state;
              inside = (twins-members 0 x y guide.not_empty twins some.state).0 some.inside;
              accepting =
                  some.accepting;
            })),
      ))

-- the complement of a minimal automaton is minimal
module _ {Q : Type 0} (g : Spaces) (guide : IsGuide g) (A : Automaton Q) (has : ℕ → Q → Type 0) (minimal : IsMinimal g A has) where
  value_with-complement : (u : Position) (s n : ℕ) (q : Q) (a : Assignment) →
      value_with g (complement A) s u q n a ≡ value_with g A s u q n a
  value_with-complement [] s n q a = refl
  value_with-complement (false ∷ u) s n q a = λ i. A.step s
      (value_with-complement u (left g s) n q (half false a) i)
      (value-complement g guide A minimal.stable (right g s) n (half true a) i) (root_label a)
  value_with-complement (true ∷ u) s n q a = λ i. A.step s
      (value-complement g guide A minimal.stable (left g s) n (half false a) i)
      (value_with-complement u (right g s) n q (half true a) i) (root_label a)

  not-injective : (b c : Bool) → not b ≡ not c → b ≡ c
  not-injective true true e = refl
  not-injective true false e = absurd cc
  not-injective false true e = absurd cc
  not-injective false false e = refl

  pub IsMinimal-complement : IsMinimal g (complement A) has
  IsMinimal-complement = record {
    stable = IsStable-complement g guide A minimal.stable;
    reached = record {
      state = λ s q there.
          let in_A = (minimal.reached).state s q there in (
            (λ h. let v = in_A.0 h in record {
              assignment = v.assignment;
              depth = v.depth;
              covers = v.covers;
              is_value = value-complement g guide A minimal.stable s v.depth v.assignment ∙ v.is_value;
            }),
            (λ v. in_A.1 (record {
              assignment = v.assignment;
              depth = v.depth;
              covers = v.covers;
              is_value = sym (value-complement g guide A minimal.stable s v.depth v.assignment) ∙ v.is_value;
            })),
          );
    };
    apart = λ s p q there has_p has_q differ.
        let t = minimal.apart s p q there has_p has_q differ in
        record {
          hole = t.hole;
          assignment = t.assignment;
          depth = t.depth;
          covers = t.covers;
          is_there = t.is_there;
          differs = λ same. t.differs (not-injective _ _
              (sym (ap (λ x. not (A.accepting x)) (value_with-complement t.hole 0 t.depth p t.assignment))
              ∙ same ∙ ap (λ x. not (A.accepting x)) (value_with-complement t.hole 0 t.depth q t.assignment)));
        };
  }
