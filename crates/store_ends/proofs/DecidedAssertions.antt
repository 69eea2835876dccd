-- Whether a store satisfies an assertion is decided.
use Rattle.std.proofs.Common.{◌≡◌, ◌↔◌, inl, inr, ℕ, true, List, [], ◌∷◌, ◌++◌, reverse, Option, Some, None, refl, ap, Contains}
use Rattle.std.specs.FinMap.{keys}
use Rattle.store_core.specs.declared.ids.TypeId.{TypeId}
use Rattle.store_core.specs.declared.ids.VariantId.{VariantId}
use Rattle.store_core.specs.declared.ids.CellId.{CellId}
use Rattle.store_core.specs.declared.kind.Route.TheVariants as route
use Rattle.store_core.specs.declared.value.Value.{Value}
use Rattle.store_core.specs.declared.value.Value.TheVariants as value
use Rattle.store_core.specs.Tables.{TypeEntry, VarEntry}
use Rattle.store_core.specs.Stores.{StoreMap, IsLive}
use Rattle.routing_walks.specs.Walks.{DataAndPointers, IsOfType, IsOfVariant}
use Rattle.routing_walks.specs.Regions.{store_on}
use Rattle.routing_walks.specs.Reaching.{IsUnreached}
use Rattle.routing_walks.proofs.WalkLemmas.{Walk-IsVariant}
use Rattle.routing_walks.proofs.LiveLemmas.{IsOfType-live}
use Rattle.routing_walks.specs.Deciding.{Decided}
use Rattle.routing_walks.proofs.DecidedLemmas.{decided_as, decided_both, decided_either, decided_not, holds_from, decided_truth, decided_some, decided_in}
use Rattle.routing_walks.proofs.DecidedLemmas.{decided_one_of}
use Rattle.routing_walks.proofs.DecidedWalks.{decided_cell, listed, decided_same_cell, decided_live, decided_of_type, decided_walk}
use Rattle.routing_walks.proofs.DecidedStores.{decided_reached, part_of}
use Rattle.store_logic.specs.declared.assertion.Assertion.{Assertion}
use Rattle.store_logic.specs.declared.region.Region.{Region}
use Rattle.store_logic.specs.declared.region.Region.TheVariants as region
use Rattle.store_logic.specs.Terms.{Environment, under, cell_at, truth_at, set_at}
use Rattle.store_logic.specs.Regions.{IsRegion}
use Rattle.store_logic.specs.Satisfaction.{Holds, Says, SatAll, Sat}
use Rattle.store_logic.proofs.AssertionLemmas.{IsHereditary, assertion-induction}
use Rattle.store_logic.proofs.HoldsLemmas.{Holds-True, Holds-False, Holds-Truth, Holds-Is, Holds-Same, Holds-Member, Holds-Subset, Holds-Walk}
use Rattle.store_logic.proofs.HoldsLemmas.{Holds-Pred, Holds-Not, Holds-And, Holds-Or, Holds-Imp, Holds-Iff, Holds-Ex, Holds-All, Holds-ExSet, Holds-AllSet}
use Rattle.store_logic.proofs.RegionLemmas.{Sat-on}
use Rattle.store_sat.specs.Tasks.{numbered, SomeSet, EachSet}
use Rattle.store_sat.proofs.SetLemmas.{SomeSet-all, EachSet-all}

-- ---- parts

by_cases : {P Q : Type 0} → P ↔ Q → Decided Q → Decided P
by_cases h d = decided_as h.1 h.0 d

decided_imp : {P Q : Type 0} → Decided P → Decided Q → Decided (P → Q)
decided_imp d (inl q) = inl (λ p. q)
decided_imp (inl p) (inr never) = inr (λ h. never (h p))
decided_imp (inr none) (inr never) = inl (λ p. absurd (none p))

decided_same : (o p : Option CellId) → Decided (o ≡ p)
decided_same None None = inl refl
decided_same None (Some d) = inr (λ e. cc)
decided_same (Some c) None = inr (λ e. cc)
decided_same (Some c) (Some d) = decided_as (λ e. ap (λ (x : CellId). Some x) e) (λ e. cc) (decided_same_cell c d)

module _ (types : List TypeEntry) (s : StoreMap) where
  decided_of_variant : (v : VariantId) (c : CellId) → Decided (IsOfVariant s v c)
  decided_of_variant v c =
      let walk = Walk-IsVariant types s DataAndPointers v c c in
      decided_as (λ w. (walk.0 w).1) (λ h. walk.1 (refl, h)) (decided_walk types s DataAndPointers (route.IsVariant v) c c)

  -- what is live and in the one set is in the other
  decided_subset : (cells others : List CellId) → Decided ((c : CellId) → IsLive s c → Contains cells c → Contains others c)
  decided_subset cells others = decided_as
      (λ none c live here. holds_from (decided_in decided_same_cell others c) (λ out. none (c, here, (live, out))))
      (λ all found. (found.2).1 (all found.0 (found.2).0 found.1))
      (decided_not (decided_one_of (λ c. IsLive s c × (Contains others c → ⊥))
      (λ c. decided_both (decided_live types s c) (decided_not (decided_in decided_same_cell others c))) cells))

  -- ---- cells and sets of a type

  module _ (ty : TypeId) where
    module _ (Is : CellId → Type 0) (each : (c : CellId) → Decided (Is c)) where
      some_cell : Decided ((c : CellId) × IsOfType s ty c × Is c)
      some_cell = decided_as (λ h. (h.0, (h.1).0, (h.1).1)) (λ h. (h.0, (h.1, h.2)))
          (decided_cell s (λ c. IsOfType s ty c × Is c) (λ c. decided_both (decided_of_type types s ty c) (each c))
          (λ c h. IsOfType-live types s ty c h.0))

    each_cell : (Is : CellId → Type 0) → ((c : CellId) → Decided (Is c)) → Decided ((c : CellId) → IsOfType s ty c → Is c)
    each_cell Is each = decided_as
        (λ none c of. holds_from (each c) (λ never. none (c, of, never)))
        (λ all found. found.2 (all found.0 found.1))
        (decided_not (some_cell (λ c. Is c → ⊥) (λ c. decided_not (each c))))

    module _ (Is : List CellId → Type 0) (each : (cells : List CellId) → Decided (Is cells)) where
      some_set : (chosen : List CellId) (numbers : List ℕ) → Decided (SomeSet s ty Is chosen numbers)
      some_set chosen [] = each chosen
      some_set chosen (n ∷ numbers) = decided_either (some_set chosen numbers)
          (decided_both (decided_of_type types s ty (numbered n)) (some_set (chosen ++ numbered n ∷ []) numbers))

      each_set : (chosen : List CellId) (numbers : List ℕ) → Decided (EachSet s ty Is chosen numbers)
      each_set chosen [] = each chosen
      each_set chosen (n ∷ numbers) = decided_both (each_set chosen numbers)
          (decided_imp (decided_of_type types s ty (numbered n)) (each_set (chosen ++ numbered n ∷ []) numbers))

  -- ---- assertions

  module _ (says : ℕ → List Value → Type 0) (decided_says : (k : ℕ) (args : List Value) → Decided (says k args)) where
    abbrev IsDecided : Assertion → Type 0
    IsDecided a = (e : Environment) → Decided (Holds types s says a e)

    hereditary : IsHereditary IsDecided
    hereditary = record {
      of_True = λ e. by_cases (Holds-True types s says e) (inl tt);
      of_False = λ e. by_cases (Holds-False types s says e) (inr (λ h. h));
      of_Truth = λ t e. by_cases (Holds-Truth types s says t e) (decided_truth (truth_at s e t) true);
      of_Is = λ t v e. by_cases (Holds-Is types s says t v e) (decided_some (cell_at s e t) (IsOfVariant s v) (decided_of_variant v));
      of_Same = λ t u e. by_cases (Holds-Same types s says t u e) (decided_same (cell_at s e t) (cell_at s e u));
      of_Member = λ t set e. by_cases (Holds-Member types s says t set e)
          (decided_some (cell_at s e t) (Contains (set_at s e set)) (decided_in decided_same_cell (set_at s e set)));
      of_Subset = λ set other e. by_cases (Holds-Subset types s says set other e) (decided_subset (set_at s e set) (set_at s e other));
      of_Walk = λ t along u e. by_cases (Holds-Walk types s says t along u e)
          (decided_some (cell_at s e t) _ (λ a. decided_some (cell_at s e u) _ (λ b. decided_walk types s DataAndPointers along a b)));
      of_Pred = λ k args e. by_cases (Holds-Pred types s says k args e) (decided_says k _);
      of_Not = λ a one e. by_cases (Holds-Not types s says a e) (decided_not (one e));
      of_And = λ a b one other e. by_cases (Holds-And types s says a b e) (decided_both (one e) (other e));
      of_Or = λ a b one other e. by_cases (Holds-Or types s says a b e) (decided_either (one e) (other e));
      of_Imp = λ a b one other e. by_cases (Holds-Imp types s says a b e) (decided_imp (one e) (other e));
      of_Iff = λ a b one other e. by_cases (Holds-Iff types s says a b e)
          (decided_both (decided_imp (one e) (other e)) (decided_imp (other e) (one e)));
      of_Ex = λ ty a one e. by_cases (Holds-Ex types s says ty a e)
          (some_cell ty (λ c. Holds types s says a (under (value.Cell (Some c)) e)) (λ c. one (under (value.Cell (Some c)) e)));
      of_All = λ ty a one e. by_cases (Holds-All types s says ty a e)
          (each_cell ty (λ c. Holds types s says a (under (value.Cell (Some c)) e)) (λ c. one (under (value.Cell (Some c)) e)));
      of_ExSet = λ ty a one e.
          let sets = SomeSet-all s ty (λ cells. Holds types s says a (under (value.Cells cells) e)) in
          by_cases (Holds-ExSet types s says ty a e) (decided_as sets.0 sets.1
          (some_set ty (λ cells. Holds types s says a (under (value.Cells cells) e)) (λ cells. one (under (value.Cells cells) e)) [] (keys s.cells)));
      of_AllSet = λ ty a one e.
          let sets = EachSet-all s ty (λ cells. Holds types s says a (under (value.Cells cells) e)) in
          by_cases (Holds-AllSet types s says ty a e) (decided_as sets.0 sets.1
          (each_set ty (λ cells. Holds types s says a (under (value.Cells cells) e)) (λ cells. one (under (value.Cells cells) e)) [] (keys s.cells)));
    }

    decided_holds : (a : Assertion) (e : Environment) → Decided (Holds types s says a e)
    decided_holds = assertion-induction IsDecided hereditary

-- without predicates
pub decided_all : (types : List TypeEntry) (s : StoreMap) (e : Environment) (a : Assertion) → Decided (SatAll types [] s e a)
decided_all types s e a = decided_holds types s (Says types s (reverse [])) (λ k args. inr (λ h. h)) a e

-- ---- regions

module _ (types : List TypeEntry) (vars : List VarEntry) (s : StoreMap) where
  region_cells : (on : Region) → (cells : List CellId) × IsRegion types vars s on cells
  region_cells region.All = listed s (IsLive s) (decided_live types s) (λ c h. h)
  region_cells (region.Part roots) = part_of types vars s roots
  region_cells (region.Rest roots) = listed s (IsUnreached types vars s roots)
      (λ c. decided_as (λ h. record { live = h.0; unreached = h.1 }) (λ h. (h.live, h.unreached))
      (decided_both (decided_live types s c) (decided_not (decided_reached types vars s roots c)))) (λ c h. h.live)

  pub decided_sat : (on : Region) (e : Environment) (a : Assertion) → Decided (Sat types vars [] s on e a)
  decided_sat on e a =
      let (cells, is) = region_cells on in
      by_cases (Sat-on types vars [] s e a on cells is) (decided_all types (store_on s cells) e a)
