-- What a step keeps.
use Rattle.std.proofs.Common.{◌≡◌, ◌↔◌, inl, inr, ◌<◌, ◌+◌, ℕ, Bool, true, false, IsTrue, List, [], ◌∷◌, map, refl, sym, subst, arith}
use Rattle.std.specs.Prelude.{not}
use Rattle.std.specs.List.{AllByRecursion}
use Rattle.std.specs.FinMap.{keys}
use Rattle.std.proofs.lemmas.Bool.{false≢true}
use Rattle.plain_data.specs.Stacks.{rest}
use Rattle.store_core.specs.declared.value.Value.{Value}
use Rattle.store_core.specs.Tables.{TypeEntry}
use Rattle.store_core.specs.Stores.{StoreMap}
use Rattle.store_logic.specs.declared.assertion.Assertion.{Assertion}
use Rattle.store_logic.specs.Terms.{outside}
use Rattle.store_logic.specs.Satisfaction.{SatAll}
use Rattle.store_logic.proofs.SameLemmas.{itself, not-both, and-both, or-both, then-both, iff-both}
use Rattle.store_sat.specs.declared.task.Join.{Join}
use Rattle.store_sat.specs.declared.task.Join.TheVariants as join
use Rattle.store_sat.specs.declared.task.Frame.{Frame}
use Rattle.store_sat.specs.Tasks.{Question, known, whole, Surround, negated, outer, joined, Spot, Holds, Joined, Whole, surround_of}
use Rattle.store_sat.specs.Steps.{far_for, far_around, IsOrdered, IsOrderedIn, Stands, Steps, with_frame, inside, left_by_true}

joined-both : (j : Join) {P Q : Type 0} (R : Type 0) → P ↔ Q → Joined j P R ↔ Joined j Q R
joined-both join.And R h = and-both h itself
joined-both join.Or R h = or-both h itself
joined-both join.Imp R h = then-both h itself
joined-both join.Iff R h = iff-both h itself

module _ (types : List TypeEntry) (s : StoreMap) where
  -- frames make the same of answers that are the same
  pub Whole-both : (frames : List Surround) (bound : List Value) {P Q : Type 0} → P ↔ Q → Whole types s frames bound P ↔ Whole types s frames bound Q
  Whole-both [] bound h = h
  Whole-both (negated ∷ frames) bound h = Whole-both frames bound (not-both h)
  Whole-both (outer ∷ frames) bound h = Whole-both frames (rest bound) h
  Whole-both (joined j q ∷ frames) bound h = Whole-both frames bound (joined-both j (Holds types s q bound) h)

  abbrev far_here : Question → ℕ
  far_here q = far_for (keys s.cells) q

  abbrev around_far : Spot → ℕ
  around_far spot = far_around (keys s.cells) spot.frames

  module _ (spot : Spot) (all : AllByRecursion IsOrderedIn spot.frames) (question next : Question) (ordered : IsOrdered next) where
    -- in the same place
    pub step_on : (Holds types s next spot.bound ↔ Holds types s question spot.bound) → far_here next < far_here question →
        Steps types s spot question spot next
    step_on same less = record { same = Whole-both spot.frames spot.bound same; ordered = (ordered, all); nearer = omega (arith, less) }

    -- to a part that is negated
    pub step_negated : ((Holds types s next spot.bound → ⊥) ↔ Holds types s question spot.bound) → far_here next + 1 < far_here question →
        Steps types s spot question (with_frame negated spot) next
    step_negated same less = record {
      same = Whole-both spot.frames spot.bound same;
      ordered = (ordered, (tt, all));
      nearer =
          let fact : far_here next + (1 + around_far spot) < far_here question + around_far spot = omega (arith, less) in fact;
    }

    -- to the body of a quantifier
    pub step_inside : (x : Value) → (Holds types s next (x ∷ spot.bound) ↔ Holds types s question spot.bound) → far_here next + 1 < far_here question →
        Steps types s spot question (inside x spot) next
    step_inside x same less = record {
      same = Whole-both spot.frames spot.bound same;
      ordered = (ordered, (tt, all));
      nearer =
          let fact : far_here next + (1 + around_far spot) < far_here question + around_far spot = omega (arith, less) in fact;
    }

    module _ (j : Join) (other : Question) (other_ordered : IsOrdered other) where
      -- to the left part
      pub step_joined : (Joined j (Holds types s next spot.bound) (Holds types s other spot.bound) ↔ Holds types s question spot.bound) →
          far_here next + far_here other + 2 < far_here question → Steps types s spot question (with_frame (joined j other) spot) next
      step_joined same less = record {
        same = Whole-both spot.frames spot.bound same;
        ordered = (ordered, (other_ordered, all));
        nearer = let fact : far_here next + ((far_here other + 2) + around_far spot) < far_here question + around_far spot = omega (arith, less) in fact;
      }

      -- to the body of a quantifier for its first goal
      pub step_joined_inside : (x : Value) →
          (Joined j (Holds types s next (x ∷ spot.bound)) (Holds types s other spot.bound) ↔ Holds types s question spot.bound) →
          far_here next + far_here other + 3 < far_here question → Steps types s spot question (inside x (with_frame (joined j other) spot)) next
      step_joined_inside x same less = record {
        same = Whole-both spot.frames spot.bound same;
        ordered = (ordered, (tt, (other_ordered, all)));
        nearer = let fact : far_here next + (1 + ((far_here other + 2) + around_far spot)) < far_here question + around_far spot = omega (arith, less) in fact;
      }

  -- the same step by other names
  pub steps_as : (spot one other : Spot) (before question next called : Question) → before ≡ question → other ≡ one → called ≡ next →
      Steps types s spot question one next → Steps types s spot before other called
  steps_as spot one other before question next called is spots names step =
      subst (λ (q : Question). Steps types s spot q other called) (sym is)
      (subst (λ (at : Spot). Steps types s spot question at called) (sym spots)
      (subst (λ (q : Question). Steps types s spot question one q) (sym names) step))

  -- ---- back

  module _ (spot : Spot) (all : AllByRecursion IsOrderedIn spot.frames) where
    not-true : (truth : Bool) → IsTrue (not truth) ↔ (IsTrue truth → ⊥)
    not-true true = (λ h. absurd (false≢true h), λ no. absurd (no refl))
    not-true false = (λ h no. false≢true no, λ no. refl)

    pub close_negated : (truth : Bool) → Steps types s (with_frame negated spot) (known truth) spot (known (not truth))
    close_negated truth = record {
      same = Whole-both spot.frames spot.bound (not-true truth);
      ordered = (tt, all);
      nearer =
          let fact : 0 + around_far spot < 0 + (1 + around_far spot) = omega arith in fact;
    }

    pub close_outer : (truth : Bool) →
        Steps types s (with_frame outer spot) (known truth) (record { frames = spot.frames; bound = rest spot.bound }) (known truth)
    close_outer truth = record { same = itself; ordered = (tt, all); nearer = let fact : 0 + around_far spot < 0 + (1 + around_far spot) = omega arith in fact }

    module _ (other : Question) (ordered : IsOrdered other) where
      -- an answer that leaves nothing open
      pub close_known : (j : Join) (truth answer : Bool) → (IsTrue answer ↔ Joined j (IsTrue truth) (Holds types s other spot.bound)) →
          Steps types s (with_frame (joined j other) spot) (known truth) spot (known answer)
      close_known j truth answer same = record {
        same = Whole-both spot.frames spot.bound same;
        ordered = (tt, all);
        nearer =
            let fact : 0 + around_far spot < 0 + ((far_here other + 2) + around_far spot) = omega arith in fact;
      }

      -- an answer that leaves it to the other
      pub close_other : (j : Join) (truth : Bool) → (Holds types s other spot.bound ↔ Joined j (IsTrue truth) (Holds types s other spot.bound)) →
          Steps types s (with_frame (joined j other) spot) (known truth) spot other
      close_other j truth same = record {
        same = Whole-both spot.frames spot.bound same;
        ordered = (ordered, all);
        nearer =
            let fact : far_here other + around_far spot < 0 + ((far_here other + 2) + around_far spot) = omega arith in fact;
      }

      pub close_And-false : Steps types s (with_frame (joined join.And other) spot) (known false) spot (known false)
      close_And-false = close_known join.And false false (λ h. absurd (false≢true h), λ h. h.0)

      pub close_And-true : Steps types s (with_frame (joined join.And other) spot) (known true) spot other
      close_And-true = close_other join.And true (λ h. (refl, h), λ h. h.1)

      pub close_Or-true : Steps types s (with_frame (joined join.Or other) spot) (known true) spot (known true)
      close_Or-true = close_known join.Or true true (λ h. inl h, λ h. refl)

      pub close_Or-false : Steps types s (with_frame (joined join.Or other) spot) (known false) spot other
      close_Or-false = close_other join.Or false (λ h. inr h, λ h. elim h [ inl wrong ↦ absurd (false≢true wrong) | inr right ↦ right ])

      pub close_Imp-false : Steps types s (with_frame (joined join.Imp other) spot) (known false) spot (known true)
      close_Imp-false = close_known join.Imp false true (λ h no. absurd (false≢true no), λ h. refl)

      pub close_Imp-true : Steps types s (with_frame (joined join.Imp other) spot) (known true) spot other
      close_Imp-true = close_other join.Imp true (λ h yes. h, λ h. h refl)

      pub close_Iff-true : Steps types s (with_frame (joined join.Iff other) spot) (known true) spot other
      close_Iff-true = close_other join.Iff true (λ h. ((λ yes. h), (λ h'. refl)), λ h. h.0 refl)

      pub close_Iff-false : Steps types s (with_frame (joined join.Iff other) spot) (known false) (with_frame negated spot) other
      close_Iff-false = record {
        same = Whole-both spot.frames spot.bound (
          λ no. ((λ wrong. absurd (false≢true wrong)), (λ h. absurd (no h))),
          λ h yes. false≢true (h.1 yes),
        );
        ordered = (ordered, (tt, all));
        nearer = let fact : far_here other + (1 + around_far spot) < 0 + ((far_here other + 2) + around_far spot) = omega arith in fact;
      }

      pub close_true : (j : Join) → Steps types s (with_frame (joined j other) spot) (known true) spot (left_by_true j other)
      close_true join.And = close_And-true
      close_true join.Or = close_Or-true
      close_true join.Imp = close_Imp-true
      close_true join.Iff = close_Iff-true

-- the frames of a spine
abbrev pub spot_with : StoreMap → List Frame → List Value → Spot
spot_with s frames bound = record { frames = map (surround_of s) frames; bound = bound }

module _ (types : List TypeEntry) (s : StoreMap) (A : Type 0) where
  -- what the whole is stays the same over a step
  pub stands_next : (before after : Spot) (q next : Question) → Steps types s before q after next →
      Stands types s before q ↔ A → Stands types s after next ↔ A
  stands_next before after q next step h = (λ x. h.0 (step.same.0 x), λ a. step.same.1 (h.1 a))

  -- outside of all frames the answer is that to the whole
  pub stands_last : (frames : List Frame) (bound : List Value) (q : Question) (truth : Bool) → q ≡ known truth → frames ≡ [] →
      Stands types s (spot_with s frames bound) q ↔ A → IsTrue truth ↔ A
  stands_last frames bound q truth is none h =
      subst (λ (p : Question). Stands types s (spot_with s [] bound) p ↔ A) is
      (subst (λ (fs : List Frame). Stands types s (spot_with s fs bound) q ↔ A) none h)

-- so it does at the start
pub stands_first : (types : List TypeEntry) (s : StoreMap) (a : Assertion) (frames : List Frame) (bound : List Value) → frames ≡ [] → bound ≡ [] →
    Stands types s (spot_with s frames bound) (whole a) ↔ SatAll types [] s outside a
stands_first types s a frames bound no_frames no_bound =
    subst (λ (b : List Value). Stands types s (spot_with s frames b) (whole a) ↔ SatAll types [] s outside a) (sym no_bound)
    (subst (λ (fs : List Frame). Stands types s (spot_with s fs []) (whole a) ↔ SatAll types [] s outside a) (sym no_frames) itself)

pub ready_first : (s : StoreMap) (frames : List Frame) → frames ≡ [] → AllByRecursion IsOrderedIn (map (surround_of s) frames)
ready_first s frames none = subst (λ (fs : List Frame). AllByRecursion IsOrderedIn (map (surround_of s) fs)) (sym none) tt
