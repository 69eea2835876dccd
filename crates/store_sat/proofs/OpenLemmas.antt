-- The first step for each form of assertion.
use Rattle.std.proofs.Common.{◌≡◌, ◌↔◌, ◌<◌, ℕ, Bool, true, false, IsTrue, List, [], reverse, sym, subst, arith}
use Rattle.std.specs.List.{AllByRecursion}
use Rattle.std.specs.FinMap.{keys}
use Rattle.store_core.specs.declared.ids.TypeId.{TypeId}
use Rattle.store_core.specs.Tables.{TypeEntry}
use Rattle.store_core.specs.Stores.{StoreMap}
use Rattle.store_logic.specs.declared.assertion.Assertion.{Assertion}
use Rattle.store_logic.specs.declared.assertion.Assertion.TheVariants as assertion
use Rattle.store_logic.specs.Terms.{Environment}
use Rattle.store_logic.specs.Satisfaction.{Says, SatAll}
use Rattle.store_logic.proofs.AssertionLemmas.{assertion-induction, fold-True, fold-False, fold-Truth, fold-Is, fold-Same, fold-Member, fold-Subset, fold-Walk}
use Rattle.store_logic.proofs.AssertionLemmas.{fold-Pred, fold-Not, fold-And, fold-Or, fold-Imp, fold-Iff, fold-Ex, fold-All, fold-ExSet, fold-AllSet}
use Rattle.store_logic.proofs.HoldsLemmas.{Holds-Not, Holds-And, Holds-Or, Holds-Imp, Holds-Iff, Holds-Ex, Holds-All, Holds-ExSet, Holds-AllSet}
use Rattle.store_logic.proofs.SameLemmas.{turned}
use Rattle.store_sat.specs.declared.task.Join.TheVariants as join
use Rattle.store_sat.specs.Tasks.{known, whole, cells, sets, negated, joined, Spot, around}
use Rattle.store_sat.specs.Steps.{far_of_node, far_for_whole, IsOrderedIn, Steps, with_frame}
use Rattle.store_sat.proofs.StepLemmas.{step_on, step_negated, step_joined}
use Rattle.store_sat.proofs.CellLemmas.{SomeCell-all, EachCell-all}
use Rattle.store_sat.proofs.SetLemmas.{StayRising-none, SomeSet-all, EachSet-all}

-- from one to a third
pub linked : {A B C : Type 0} → A ↔ B → C ↔ B → A ↔ C
linked h k = (λ a. k.1 (h.0 a), λ c. h.1 (k.0 c))

module _ (all : List ℕ) where
  abbrev IsFar : Assertion → Type 0
  IsFar a = 0 < far_for_whole all a

  -- from a value that isn't 0
  far_as : (a : Assertion) (n : ℕ) → far_for_whole all a ≡ n → 0 < n → IsFar a
  far_as a n is positive = subst (λ (k : ℕ). 0 < k) (sym is) positive

  -- no assertion is its answer
  pub far-positive : (a : Assertion) → IsFar a
  far-positive = assertion-induction IsFar (record {
    of_True = far_as _ _ (fold-True ℕ (far_of_node all)) (omega arith);
    of_False = far_as _ _ (fold-False ℕ (far_of_node all)) (omega arith);
    of_Truth = λ t. far_as _ _ (fold-Truth ℕ (far_of_node all) t) (omega arith);
    of_Is = λ t v. far_as _ _ (fold-Is ℕ (far_of_node all) t v) (omega arith);
    of_Same = λ t u. far_as _ _ (fold-Same ℕ (far_of_node all) t u) (omega arith);
    of_Member = λ t set. far_as _ _ (fold-Member ℕ (far_of_node all) t set) (omega arith);
    of_Subset = λ set other. far_as _ _ (fold-Subset ℕ (far_of_node all) set other) (omega arith);
    of_Walk = λ t along u. far_as _ _ (fold-Walk ℕ (far_of_node all) t along u) (omega arith);
    of_Pred = λ k args. far_as _ _ (fold-Pred ℕ (far_of_node all) k args) (omega arith);
    of_Not = λ a h. far_as _ _ (fold-Not ℕ (far_of_node all) a) (omega arith);
    of_And = λ a b h k. far_as _ _ (fold-And ℕ (far_of_node all) a b) (omega arith);
    of_Or = λ a b h k. far_as _ _ (fold-Or ℕ (far_of_node all) a b) (omega arith);
    of_Imp = λ a b h k. far_as _ _ (fold-Imp ℕ (far_of_node all) a b) (omega arith);
    of_Iff = λ a b h k. far_as _ _ (fold-Iff ℕ (far_of_node all) a b) (omega arith);
    of_Ex = λ ty a h. far_as _ _ (fold-Ex ℕ (far_of_node all) ty a) (omega arith);
    of_All = λ ty a h. far_as _ _ (fold-All ℕ (far_of_node all) ty a) (omega arith);
    of_ExSet = λ ty a h. far_as _ _ (fold-ExSet ℕ (far_of_node all) ty a) (omega arith);
    of_AllSet = λ ty a h. far_as _ _ (fold-AllSet ℕ (far_of_node all) ty a) (omega arith);
  })

module _ (types : List TypeEntry) (s : StoreMap) (spot : Spot) (ready : AllByRecursion IsOrderedIn spot.frames) where
  abbrev here : Environment
  here = around spot.bound

  -- a form without parts
  pub open_known : (a : Assertion) (truth : Bool) → (IsTrue truth ↔ SatAll types [] s here a) → Steps types s spot (whole a) spot (known truth)
  open_known a truth same = step_on types s spot ready (whole a) (known truth) tt same (far-positive (keys s.cells) a)

  pub known_as : (a b : Assertion) (truth : Bool) → a ≡ b → (IsTrue truth ↔ SatAll types [] s here b) → Steps types s spot (whole a) spot (known truth)
  known_as a b truth is same = open_known a truth (subst (λ (x : Assertion). IsTrue truth ↔ SatAll types [] s here x) (sym is) same)

  pub open_Not : (a : Assertion) → Steps types s spot (whole (assertion.Not a)) (with_frame negated spot) (whole a)
  open_Not a = step_negated types s spot ready (whole (assertion.Not a)) (whole a) tt (turned (Holds-Not types s (Says types s (reverse [])) a here))
      (omega (arith, fold-Not ℕ (far_of_node (keys s.cells)) a))

  module _ (a b : Assertion) where
    pub open_And : Steps types s spot (whole (assertion.And a b)) (with_frame (joined join.And (whole b)) spot) (whole a)
    open_And = step_joined types s spot ready (whole (assertion.And a b)) (whole a) tt join.And (whole b) tt
        (turned (Holds-And types s (Says types s (reverse [])) a b here)) (omega (arith, fold-And ℕ (far_of_node (keys s.cells)) a b))

    pub open_Or : Steps types s spot (whole (assertion.Or a b)) (with_frame (joined join.Or (whole b)) spot) (whole a)
    open_Or = step_joined types s spot ready (whole (assertion.Or a b)) (whole a) tt join.Or (whole b) tt
        (turned (Holds-Or types s (Says types s (reverse [])) a b here)) (omega (arith, fold-Or ℕ (far_of_node (keys s.cells)) a b))

    pub open_Imp : Steps types s spot (whole (assertion.Imp a b)) (with_frame (joined join.Imp (whole b)) spot) (whole a)
    open_Imp = step_joined types s spot ready (whole (assertion.Imp a b)) (whole a) tt join.Imp (whole b) tt
        (turned (Holds-Imp types s (Says types s (reverse [])) a b here)) (omega (arith, fold-Imp ℕ (far_of_node (keys s.cells)) a b))

    pub open_Iff : Steps types s spot (whole (assertion.Iff a b)) (with_frame (joined join.Iff (whole b)) spot) (whole a)
    open_Iff = step_joined types s spot ready (whole (assertion.Iff a b)) (whole a) tt join.Iff (whole b) tt
        (turned (Holds-Iff types s (Says types s (reverse [])) a b here)) (omega (arith, fold-Iff ℕ (far_of_node (keys s.cells)) a b))

  module _ (ty : TypeId) (a : Assertion) where
    pub open_Ex : Steps types s spot (whole (assertion.Ex ty a)) spot (cells true ty a (keys s.cells))
    open_Ex = step_on types s spot ready (whole (assertion.Ex ty a)) (cells true ty a (keys s.cells)) tt
        (linked (SomeCell-all s ty _) (Holds-Ex types s (Says types s (reverse [])) ty a here))
        (omega (arith, fold-Ex ℕ (far_of_node (keys s.cells)) ty a))

    pub open_All : Steps types s spot (whole (assertion.All ty a)) spot (cells false ty a (keys s.cells))
    open_All = step_on types s spot ready (whole (assertion.All ty a)) (cells false ty a (keys s.cells)) tt
        (linked (EachCell-all s ty _) (Holds-All types s (Says types s (reverse [])) ty a here))
        (omega (arith, fold-All ℕ (far_of_node (keys s.cells)) ty a))

    pub open_ExSet : Steps types s spot (whole (assertion.ExSet ty a)) spot (sets true ty a [] (keys s.cells))
    open_ExSet = step_on types s spot ready (whole (assertion.ExSet ty a)) (sets true ty a [] (keys s.cells)) (StayRising-none s)
        (linked (SomeSet-all s ty _) (Holds-ExSet types s (Says types s (reverse [])) ty a here))
        (omega (arith, fold-ExSet ℕ (far_of_node (keys s.cells)) ty a))

    pub open_AllSet : Steps types s spot (whole (assertion.AllSet ty a)) spot (sets false ty a [] (keys s.cells))
    open_AllSet = step_on types s spot ready (whole (assertion.AllSet ty a)) (sets false ty a [] (keys s.cells)) (StayRising-none s)
        (linked (EachSet-all s ty _) (Holds-AllSet types s (Says types s (reverse [])) ty a here))
        (omega (arith, fold-AllSet ℕ (far_of_node (keys s.cells)) ty a))
