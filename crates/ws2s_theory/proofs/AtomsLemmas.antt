-- On the atoms' automata: what their values say of an assignment, and that they recognise the atoms.
use Rattle.std.proofs.Common.{◌≡◌, ℕ, zero, suc, Bool, true, false, IsTrue, ◌↔◌, [], refl, sym, ◌∙◌, zero-le}
use Rattle.std.proofs.lemmas.Bool.{false≢true}
use Rattle.gta_theory.specs.Assignments.{Position, PositionSet, Assignment, IsOnly, Covers, half}
use Rattle.gta_theory.specs.Guides.{Spaces, IsGuide, left, right}
use Rattle.gta_theory.specs.Automata.{Automaton, value, IsStable}
use Rattle.gta_theory.proofs.AssignmentsLemmas.{Covers-half}
use Rattle.gta_theory.proofs.AutomataLemmas.{Accepts-at}
use Rattle.ws2s_core.specs.declared.track.Track.{Track}
use Rattle.ws2s_core.specs.declared.formula.Formula.{Formula}
use Rattle.ws2s_core.specs.declared.formula.Formula.TheVariants.{Sub, Single, Succ0, Succ1, Root}
use Rattle.ws2s_core.specs.Satisfaction.{WSat}
use Rattle.ws2s_core.specs.Recognising.{Recognises}
use Rattle.ws2s_core.proofs.SatisfactionLemmas.{WSat-Sub, WSat-Single, WSat-Succ0, WSat-Succ1, WSat-Root}
use Rattle.ws2s_theory.specs.Atoms.{SubState, inside, outside, is_inside, sub_automaton}
use Rattle.ws2s_theory.specs.Atoms.{SingleState, nothing, one, more, is_one, single_automaton}
use Rattle.ws2s_theory.specs.Atoms.{RootState, absent, alone, lower, is_alone, root_automaton}
use Rattle.ws2s_theory.specs.Atoms.{SuccState, neither, child, found, wrong, is_found, succ0_automaton, succ1_automaton}
use Rattle.ws2s_theory.proofs.SetsLemmas.{both, back, three, either, same, IsEmptySet, IsInside, HasOne}
use Rattle.ws2s_theory.proofs.SetsLemmas.{inside-halves, empty-halves, root-halves, one-halves}
use Rattle.ws2s_theory.proofs.SuccessorsLemmas.{Says, Says-step}
use Rattle.ws2s_theory.proofs.TablesLemmas.{sub-inside, single-nothing, single-one, root-absent, root-alone}

-- a stable automaton that is in one state exactly where the formula holds, and accepts in that state alone
Recognises-state : {Q : Type 0} (g : Spaces) → IsGuide g → (A : Automaton Q) (f : Formula) (q : Q) → IsStable g A →
    ((p : Q) → IsTrue (A.accepting p) ↔ (p ≡ q)) →
    ((n : ℕ) (a : Assignment) → Covers n a → (value g A 0 n a ≡ q) ↔ WSat f a) → Recognises g A f
Recognises-state g guide A f q stable accepting means = record {
  stable = stable;
  exactly = λ n a covers. (
    (λ h. (means n a covers).0 ((accepting (value g A 0 n a)).0 (Accepts-at g guide A stable n a covers h))),
    (λ h. record { depth = n; covers = covers; accepted = (accepting (value g A 0 n a)).1 ((means n a covers).1 h) }),
  );
}

-- no position is in what depth 0 covers
absent-at : (a : Assignment) → Covers 0 a → (t : ℕ) (p : Position) → IsTrue (a t p) → ⊥
absent-at a covers t p is = false≢true (sym (covers t p zero-le) ∙ is)

is_inside-is : (p : SubState) → IsTrue (is_inside p) ↔ (p ≡ inside)
is_inside-is inside = ((λ h. refl), (λ h. refl))
is_inside-is outside = ((λ h. absurd cc), (λ h. absurd cc))

is_one-is : (p : SingleState) → IsTrue (is_one p) ↔ (p ≡ one)
is_one-is one = ((λ h. refl), (λ h. refl))
is_one-is nothing = ((λ h. absurd cc), (λ h. absurd cc))
is_one-is more = ((λ h. absurd cc), (λ h. absurd cc))

is_alone-is : (p : RootState) → IsTrue (is_alone p) ↔ (p ≡ alone)
is_alone-is alone = ((λ h. refl), (λ h. refl))
is_alone-is absent = ((λ h. absurd cc), (λ h. absurd cc))
is_alone-is lower = ((λ h. absurd cc), (λ h. absurd cc))

is_found-is : (p : SuccState) → IsTrue (is_found p) ↔ (p ≡ found)
is_found-is found = ((λ h. refl), (λ h. refl))
is_found-is neither = ((λ h. absurd cc), (λ h. absurd cc))
is_found-is child = ((λ h. absurd cc), (λ h. absurd cc))
is_found-is wrong = ((λ h. absurd cc), (λ h. absurd cc))

module _ (g : Spaces) where
  sub-value : (x y n s : ℕ) (a : Assignment) → Covers n a → (value g (sub_automaton x y) s n a ≡ inside) ↔ IsInside (a x) (a y)
  sub-value x y zero s a covers = ((λ e p is. absurd (absent-at a covers x p is)), (λ h. refl))
  sub-value x y (suc n) s a covers =
      both (sub-inside _ _ (a x []) (a y []))
      (both (three (sub-value x y n (left g s) (half false a) (Covers-half n false a covers))
      (sub-value x y n (right g s) (half true a) (Covers-half n true a covers)) same)
      (back (inside-halves (a x) (a y))))

  record Counts (q : SingleState) (set : PositionSet) : Type 0 where
    counts_nothing : (q ≡ nothing) ↔ IsEmptySet set
    counts_one : (q ≡ one) ↔ HasOne set

  single-value : (x n s : ℕ) (a : Assignment) → Covers n a → Counts (value g (single_automaton x) s n a) (a x)
  single-value x zero s a covers = record {
    counts_nothing = ((λ e p. covers x p zero-le), (λ h. refl));
    counts_one = ((λ e. absurd cc), (λ h. absurd (absent-at a covers x h.0 ((h.1 h.0).1 refl))));
  }
  single-value x (suc n) s a covers =
      let l = single-value x n (left g s) (half false a) (Covers-half n false a covers) in
      let r = single-value x n (right g s) (half true a) (Covers-half n true a covers) in
      record {
        counts_nothing = both (single-nothing _ _ (a x [])) (both (three l.counts_nothing r.counts_nothing same) (back (empty-halves (a x))));
        counts_one = both (single-one _ _ (a x []))
            (both (either (three l.counts_nothing r.counts_nothing same)
            (either (three l.counts_one r.counts_nothing same) (three l.counts_nothing r.counts_one same)))
            (back (one-halves (a x))));
      }

  record Places (q : RootState) (set : PositionSet) : Type 0 where
    places_absent : (q ≡ absent) ↔ IsEmptySet set
    places_alone : (q ≡ alone) ↔ IsOnly set []

  root-value : (x n s : ℕ) (a : Assignment) → Covers n a → Places (value g (root_automaton x) s n a) (a x)
  root-value x zero s a covers = record {
    places_absent = ((λ e p. covers x p zero-le), (λ h. refl));
    places_alone = ((λ e. absurd cc), (λ h. absurd (absent-at a covers x [] ((h []).1 refl))));
  }
  root-value x (suc n) s a covers =
      let l = root-value x n (left g s) (half false a) (Covers-half n false a covers) in
      let r = root-value x n (right g s) (half true a) (Covers-half n true a covers) in
      record {
        places_absent = both (root-absent _ _ (a x [])) (both (three l.places_absent r.places_absent same) (back (empty-halves (a x))));
        places_alone = both (root-alone _ _ (a x [])) (both (three l.places_absent r.places_absent same) (back (root-halves (a x))));
      }

  Says-nothing : (letter : Bool) (x y : ℕ) (a : Assignment) → Covers 0 a → Says letter neither (a x) (a y)
  Says-nothing letter x y a covers = record {
    says_neither = ((λ e. ((λ p. covers x p zero-le), (λ p. covers y p zero-le))), (λ h. refl));
    says_child = ((λ e. absurd cc), (λ h. absurd (absent-at a covers y [] ((h.1 []).1 refl))));
    says_found = ((λ e. absurd cc), (λ h. absurd (absent-at a covers x h.0 ((h.1 h.0).1 refl))));
  }

  succ0-value : (x y n s : ℕ) (a : Assignment) → Covers n a → Says false (value g (succ0_automaton x y) s n a) (a x) (a y)
  succ0-value x y zero s a covers = Says-nothing false x y a covers
  succ0-value x y (suc n) s a covers = Says-step false (a x) (a y) _ _
      (succ0-value x y n (left g s) (half false a) (Covers-half n false a covers))
      (succ0-value x y n (right g s) (half true a) (Covers-half n true a covers))

  succ1-value : (x y n s : ℕ) (a : Assignment) → Covers n a → Says true (value g (succ1_automaton x y) s n a) (a x) (a y)
  succ1-value x y zero s a covers = Says-nothing true x y a covers
  succ1-value x y (suc n) s a covers = Says-step true (a x) (a y) _ _
      (succ1-value x y n (right g s) (half true a) (Covers-half n true a covers))
      (succ1-value x y n (left g s) (half false a) (Covers-half n false a covers))

  module _ (guide : IsGuide g) where
    pub Recognises-Sub : (x y : Track) → Recognises g (sub_automaton x.0 y.0) (Sub x y)
    Recognises-Sub x y = Recognises-state g guide (sub_automaton x.0 y.0) (Sub x y) inside (record { at = λ s there. refl }) is_inside-is
        (λ n a covers. both (sub-value x.0 y.0 n 0 a covers) (back (WSat-Sub x y a)))

    pub Recognises-Single : (x : Track) → Recognises g (single_automaton x.0) (Single x)
    Recognises-Single x = Recognises-state g guide (single_automaton x.0) (Single x) one (record { at = λ s there. refl }) is_one-is
        (λ n a covers. both (single-value x.0 n 0 a covers).counts_one (back (WSat-Single x a)))

    pub Recognises-Root : (x : Track) → Recognises g (root_automaton x.0) (Root x)
    Recognises-Root x = Recognises-state g guide (root_automaton x.0) (Root x) alone (record { at = λ s there. refl }) is_alone-is
        (λ n a covers. both (root-value x.0 n 0 a covers).places_alone (back (WSat-Root x a)))

    pub Recognises-Succ0 : (x y : Track) → Recognises g (succ0_automaton x.0 y.0) (Succ0 x y)
    Recognises-Succ0 x y = Recognises-state g guide (succ0_automaton x.0 y.0) (Succ0 x y) found (record { at = λ s there. refl }) is_found-is
        (λ n a covers. both (succ0-value x.0 y.0 n 0 a covers).says_found (back (WSat-Succ0 x y a)))

    pub Recognises-Succ1 : (x y : Track) → Recognises g (succ1_automaton x.0 y.0) (Succ1 x y)
    Recognises-Succ1 x y = Recognises-state g guide (succ1_automaton x.0 y.0) (Succ1 x y) found (record { at = λ s there. refl }) is_found-is
        (λ n a covers. both (succ1-value x.0 y.0 n 0 a covers).says_found (back (WSat-Succ1 x y a)))
