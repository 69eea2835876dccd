-- Satisfaction doesn't look at the next number of a store.
use Rattle.std.proofs.Common.{◌↔◌, ◌==◌, ℕ, List, [], ◌∷◌, length, reverse, refl}
use Rattle.store_core.specs.declared.ids.TypeId.{TypeId}
use Rattle.store_core.specs.declared.ids.VarId.{VarId}
use Rattle.store_core.specs.declared.ids.CellId.{CellId}
use Rattle.store_core.specs.declared.value.Value.{Value}
use Rattle.store_core.specs.Tables.{TypeEntry, VarEntry}
use Rattle.store_core.specs.Stores.{StoreMap}
use Rattle.routing_walks.specs.Walks.{DataAndPointers, IsParent, Chain, stay, go}
use Rattle.routing_walks.specs.Sets.{Lists}
use Rattle.routing_walks.specs.Regions.{store_on, IsReachedFrom}
use Rattle.routing_walks.specs.Reaching.{IsUnreached}
use Rattle.routing_walks.proofs.AloneLemmas.{Walk-same_cells}
use Rattle.store_logic.specs.declared.assertion.Assertion.{Assertion}
use Rattle.store_logic.specs.declared.pred.PredDef.{PredDef}
use Rattle.store_logic.specs.declared.region.Region.{Region}
use Rattle.store_logic.specs.declared.region.Region.TheVariants as region
use Rattle.store_logic.specs.Terms.{Environment, under, given, cell_at}
use Rattle.store_logic.specs.Satisfaction.{IsSetOf, Holds, Says, SatAll, Sat}
use Rattle.store_logic.proofs.AssertionLemmas.{assertion-induction}
use Rattle.store_logic.proofs.HoldsLemmas.{Holds-True, Holds-False, Holds-Truth, Holds-Is, Holds-Same, Holds-Member, Holds-Subset, Holds-Walk}
use Rattle.store_logic.proofs.HoldsLemmas.{Holds-Pred, Holds-Not, Holds-And, Holds-Or, Holds-Imp, Holds-Iff, Holds-Ex, Holds-All, Holds-ExSet}
use Rattle.store_logic.proofs.HoldsLemmas.{Holds-AllSet}
use Rattle.store_logic.proofs.SameLemmas.{both, itself, not-both, and-both, or-both, then-both, iff-both, some-both, all-both, IsSomeAnd-both, MatchBool-both}

-- the store with this next number
abbrev with_next : StoreMap → ℕ → StoreMap
with_next s n = record s { next = n }

IsSetOf-next : (s : StoreMap) (n : ℕ) (ty : TypeId) (cells : List CellId) → IsSetOf (with_next s n) ty cells ↔ IsSetOf s ty cells
IsSetOf-next s n ty cells = (λ h. record { rising = h.rising; members = h.members }, λ h. record { rising = h.rising; members = h.members })

module _ (types : List TypeEntry) (s : StoreMap) (n : ℕ) (said says : ℕ → List Value → Type 0)
    (alike : (k : ℕ) (args : List Value) → said k args ↔ says k args) where
  abbrev IsNext : Assertion → Type 0
  IsNext a = (e : Environment) → Holds types (with_next s n) said a e ↔ Holds types s says a e

  abbrev t : StoreMap
  t = with_next s n

  Holds-next : (a : Assertion) → IsNext a
  Holds-next = assertion-induction IsNext (record {
    of_True = λ e. both (Holds-True types t said e) itself (Holds-True types s says e);
    of_False = λ e. both (Holds-False types t said e) itself (Holds-False types s says e);
    of_Truth = λ x e. both (Holds-Truth types t said x e) itself (Holds-Truth types s says x e);
    of_Is = λ x v e. both (Holds-Is types t said x v e) itself (Holds-Is types s says x v e);
    of_Same = λ x y e. both (Holds-Same types t said x y e) itself (Holds-Same types s says x y e);
    of_Member = λ x set e. both (Holds-Member types t said x set e) itself (Holds-Member types s says x set e);
    of_Subset = λ set other e. both (Holds-Subset types t said set other e) itself (Holds-Subset types s says set other e);
    of_Walk = λ x along y e. both (Holds-Walk types t said x along y e)
        (IsSomeAnd-both (cell_at s e x) (λ a. IsSomeAnd-both (cell_at s e y) (λ b. Walk-same_cells types t s DataAndPointers along a b refl)))
        (Holds-Walk types s says x along y e);
    of_Pred = λ k args e. both (Holds-Pred types t said k args e) (alike k _) (Holds-Pred types s says k args e);
    of_Not = λ a h e. both (Holds-Not types t said a e) (not-both (h e)) (Holds-Not types s says a e);
    of_And = λ a b h k e. both (Holds-And types t said a b e) (and-both (h e) (k e)) (Holds-And types s says a b e);
    of_Or = λ a b h k e. both (Holds-Or types t said a b e) (or-both (h e) (k e)) (Holds-Or types s says a b e);
    of_Imp = λ a b h k e. both (Holds-Imp types t said a b e) (then-both (h e) (k e)) (Holds-Imp types s says a b e);
    of_Iff = λ a b h k e. both (Holds-Iff types t said a b e) (iff-both (h e) (k e)) (Holds-Iff types s says a b e);
    of_Ex = λ ty a h e. both (Holds-Ex types t said ty a e) (some-both (λ c. itself) (λ c. h (under _ e))) (Holds-Ex types s says ty a e);
    of_All = λ ty a h e. both (Holds-All types t said ty a e) (all-both (λ c. itself) (λ c. h (under _ e))) (Holds-All types s says ty a e);
    of_ExSet = λ ty a h e. both (Holds-ExSet types t said ty a e)
        (some-both (IsSetOf-next s n ty) (λ cells. h (under _ e))) (Holds-ExSet types s says ty a e);
    of_AllSet = λ ty a h e. both (Holds-AllSet types t said ty a e)
        (all-both (IsSetOf-next s n ty) (λ cells. h (under _ e))) (Holds-AllSet types s says ty a e);
  })

Says-next : (types : List TypeEntry) (s : StoreMap) (n : ℕ) (preds : List PredDef) (k : ℕ) (args : List Value) →
    Says types (with_next s n) preds k args ↔ Says types s preds k args
Says-next types s n [] k args = itself
Says-next types s n (p ∷ earlier) k args = MatchBool-both (k == length earlier)
    (Holds-next types s n (Says types (with_next s n) earlier) (Says types s earlier) (Says-next types s n earlier) p.body (given args))
    (Says-next types s n earlier k args)

pub SatAll-next : (types : List TypeEntry) (preds : List PredDef) (s : StoreMap) (n : ℕ) (e : Environment) (a : Assertion) →
    SatAll types preds (with_next s n) e a ↔ SatAll types preds s e a
SatAll-next types preds s n e a = Holds-next types s n (Says types (with_next s n) (reverse preds)) (Says types s (reverse preds))
    (Says-next types s n (reverse preds)) a e

-- ---- regions

Lists-both : {P Q : CellId → Type 0} → ((c : CellId) → P c ↔ Q c) → (cells : List CellId) → Lists P cells ↔ Lists Q cells
Lists-both h cells = (
  λ l. record { rising = l.rising; members = λ d. ((λ m. (h d).0 ((l.members d).0 m)), (λ q. (l.members d).1 ((h d).1 q))) },
  λ l. record { rising = l.rising; members = λ d. ((λ m. (h d).1 ((l.members d).0 m)), (λ p. (l.members d).1 ((h d).0 p))) },
)

module _ (types : List TypeEntry) (vars : List VarEntry) where
  path-next : (s : StoreMap) (n : ℕ) {a b : CellId} → Chain s (IsParent types s) a b → Chain (with_next s n) (IsParent types (with_next s n)) a b
  path-next s n (stay a live) = stay a live
  path-next s n (go a b c step rest) =
      let leads = step.leads in
      go a b c (record { field = step.field; leads = record { kind = leads.kind; value = leads.value; live = leads.live } }) (path-next s n rest)

  reached-next : (s : StoreMap) (n : ℕ) (roots : List VarId) (c : CellId) →
      IsReachedFrom types vars s roots c → IsReachedFrom types vars (with_next s n) roots c
  reached-next s n roots c h =
      let tree = h.in_tree in
      record {
        root = h.root;
        listed = h.listed;
        in_tree = record {
          root = tree.root;
          named = record { place = tree.named.place; value = tree.named.value };
          path = path-next s n tree.path;
        };
      }

  -- the store with the next number that it had is the store
  reached-both : (s : StoreMap) (n : ℕ) (roots : List VarId) (c : CellId) →
      IsReachedFrom types vars (with_next s n) roots c ↔ IsReachedFrom types vars s roots c
  reached-both s n roots c = (reached-next (with_next s n) s.next roots c, reached-next s n roots c)

  unreached-both : (s : StoreMap) (n : ℕ) (roots : List VarId) (c : CellId) →
      IsUnreached types vars (with_next s n) roots c ↔ IsUnreached types vars s roots c
  unreached-both s n roots c = (
    λ h. record { live = h.live; unreached = λ r. h.unreached ((reached-both s n roots c).1 r) },
    λ h. record { live = h.live; unreached = λ r. h.unreached ((reached-both s n roots c).0 r) },
  )

  pub Sat-next : (preds : List PredDef) (s : StoreMap) (n : ℕ) (on : Region) (e : Environment) (a : Assertion) →
      Sat types vars preds (with_next s n) on e a ↔ Sat types vars preds s on e a
  Sat-next preds s n region.All e a = SatAll-next types preds s n e a
  Sat-next preds s n (region.Part roots) e a =
      some-both (Lists-both (reached-both s n roots)) (λ cells. SatAll-next types preds (store_on s cells) n e a)
  Sat-next preds s n (region.Rest roots) e a =
      some-both (Lists-both (unreached-both s n roots)) (λ cells. SatAll-next types preds (store_on s cells) n e a)
