-- A renaming of cells keeps satisfaction.
use Rattle.std.proofs.Common.{◌↔◌, ◌==◌, IsTrue, ℕ, List, [], ◌∷◌, map, length, reverse, refl, sym, subst, Some, Contains}
use Rattle.store_core.specs.declared.ids.TypeId.{TypeId}
use Rattle.store_core.specs.declared.ids.VarId.{VarId}
use Rattle.store_core.specs.declared.ids.CellId.{CellId}
use Rattle.store_core.specs.declared.kind.Route.{Route}
use Rattle.store_core.specs.declared.value.Value.{Value}
use Rattle.store_core.specs.declared.value.Value.TheVariants as value
use Rattle.store_core.specs.Tables.{TypeEntry, VarEntry}
use Rattle.store_core.specs.Stores.{StoreMap, cell_of}
use Rattle.routing_walks.specs.Walks.{DataAndPointers, IsOfType, Walk}
use Rattle.routing_walks.specs.Sets.{Lists}
use Rattle.routing_walks.specs.Regions.{store_on, IsReachedFrom}
use Rattle.routing_walks.specs.Reaching.{IsUnreached}
use Rattle.routing_walks.proofs.AloneLemmas.{Walk-same_cells}
use Rattle.routing_walks.proofs.LiveLemmas.{IsSome-and}
use Rattle.routing_walks.specs.Pairing.{Pairwise}
use Rattle.routing_walks.proofs.DecidedLemmas.{decided_as, decided_both, decided_not, decided_there}
use Rattle.routing_walks.proofs.DecidedWalks.{listed}
use Rattle.routing_walks.proofs.DecidedStores.{decided_reached, part_of}
use Rattle.routing_walks.proofs.PairLemmas.{turn, JoinAlike-paired}
use Rattle.store_logic.specs.declared.assertion.Assertion.{Assertion}
use Rattle.store_logic.specs.declared.pred.PredDef.{PredDef}
use Rattle.store_logic.specs.declared.region.Region.{Region}
use Rattle.store_logic.specs.declared.region.Region.TheVariants as region
use Rattle.store_logic.specs.Terms.{Environment, under, given, cell_at, set_at, arg_value}
use Rattle.store_logic.specs.Satisfaction.{Holds, Says, SatAll, Sat}
use Rattle.store_logic.specs.Renamed.{PairsLive, PairsBound, without_variables, PairsStore, PairsEnvironment}
use Rattle.store_logic.proofs.AssertionLemmas.{assertion-induction}
use Rattle.store_logic.proofs.HoldsLemmas.{Holds-True, Holds-False, Holds-Truth, Holds-Is, Holds-Same, Holds-Member, Holds-Subset, Holds-Walk}
use Rattle.store_logic.proofs.HoldsLemmas.{Holds-Pred, Holds-Not, Holds-And, Holds-Or, Holds-Imp, Holds-Iff, Holds-Ex, Holds-All, Holds-ExSet}
use Rattle.store_logic.proofs.HoldsLemmas.{Holds-AllSet}
use Rattle.store_logic.proofs.SameLemmas.{both, itself, not-both, and-both, or-both, then-both, iff-both, MatchBool-both}
use Rattle.store_logic.proofs.RenamingLemmas.{reference-both, LivePair, cells_at, truths_at, sets_at, args_paired, of_variant, of_type, same_at}
use Rattle.store_logic.proofs.RenamingLemmas.{member_both, subset_both, set_forth, set_back, paired_on, environment_on}
use Rattle.store_logic.proofs.RenamingLemmas.{live_forth, live_back, reached_to, PairsStore-turned}

-- for some x, and for all x, where each x has a partner
some-paired : {X : Type 0} {P Q A B : X → Type 0} (K : X → X → Type 0) → ((x : X) → P x → (y : X) × Q y × K x y) →
    ((y : X) → Q y → (x : X) × P x × K x y) → ((x y : X) → K x y → A x ↔ B y) → ((x : X) × P x × A x) ↔ ((y : X) × Q y × B y)
some-paired K forth back each = (
  λ k. let y = forth k.0 k.1 in (y.0, y.1, (each k.0 y.0 y.2).0 k.2),
  λ k. let x = back k.0 k.1 in (x.0, x.1, (each x.0 k.0 x.2).1 k.2),
)

all-paired : {X : Type 0} {P Q A B : X → Type 0} (K : X → X → Type 0) → ((x : X) → P x → (y : X) × Q y × K x y) →
    ((y : X) → Q y → (x : X) × P x × K x y) → ((x y : X) → K x y → A x ↔ B y) → ((x : X) → P x → A x) ↔ ((y : X) → Q y → B y)
all-paired K forth back each = (
  λ k y q. let x = back y q in (each x.0 y x.2).0 (k x.0 x.1),
  λ k x p. let y = forth x p in (each x y.0 y.2).1 (k y.0 y.1),
)

module _ (tables : List TypeEntry) (R : CellId → CellId → Type 0) (s t : StoreMap) (h : PairsStore R s t) where
  -- ---- under a quantifier

  cell_forth : (ty : TypeId) (a : CellId) → IsOfType s ty a → (c : CellId) × IsOfType t ty c × R a c
  cell_forth ty a is = let c = h.cells.forth a (IsSome-and (cell_of s a) _ is) in (c.0, (of_type R s t h ty a c.0 c.1).0 is, c.1)

  cell_back : (ty : TypeId) (c : CellId) → IsOfType t ty c → (a : CellId) × IsOfType s ty a × R a c
  cell_back ty c is = let a = h.cells.back c (IsSome-and (cell_of t c) _ is) in (a.0, (of_type R s t h ty a.0 c a.1).1 is, a.1)

  binds : (e f : Environment) → PairsEnvironment R s t e f → (x y : Value) → PairsBound R s t x y → PairsEnvironment R s t (under x e) (under y f)
  binds e f q x y k = record { bound = (k, q.bound); params = q.params }

  walks_both : (along : Route) (a b c d : CellId) → LivePair R s a c → LivePair R s b d →
      Walk tables s DataAndPointers along a b ↔ Walk tables t DataAndPointers along c d
  walks_both along a b c d p k = both
      (Walk-same_cells tables s (without_variables s) DataAndPointers along a b refl)
      ((JoinAlike-paired tables R (without_variables s) (without_variables t) h.cells).walks DataAndPointers along a b c d p.0 k.0)
      (Walk-same_cells tables t (without_variables t) DataAndPointers along c d refl)

  -- ---- assertions

  module _ (said says : ℕ → List Value → Type 0)
      (alike : (k : ℕ) (xs ys : List Value) → Pairwise (PairsBound R s t) xs ys → said k xs ↔ says k ys) where
    abbrev IsRenamed : Assertion → Type 0
    IsRenamed a = (e f : Environment) → PairsEnvironment R s t e f → Holds tables s said a e ↔ Holds tables t says a f

    Holds-renamed : (a : Assertion) → IsRenamed a
    Holds-renamed = assertion-induction IsRenamed (record {
      of_True = λ e f q. both (Holds-True tables s said e) itself (Holds-True tables t says f);
      of_False = λ e f q. both (Holds-False tables s said e) itself (Holds-False tables t says f);
      of_Truth = λ x e f q. both (Holds-Truth tables s said x e)
          (subst IsTrue (truths_at R s t h e f q x), subst IsTrue (sym (truths_at R s t h e f q x))) (Holds-Truth tables t says x f);
      of_Is = λ x v e f q. both (Holds-Is tables s said x v e)
          (reference-both (LivePair R s) (λ a c p. of_variant R s t h v a c p.0) (cell_at s e x) (cell_at t f x) (cells_at R s t h e f q x))
          (Holds-Is tables t says x v f);
      of_Same = λ x y e f q. both (Holds-Same tables s said x y e)
          (same_at R s t h (cell_at s e x) (cell_at t f x) (cell_at s e y) (cell_at t f y) (cells_at R s t h e f q x) (cells_at R s t h e f q y))
          (Holds-Same tables t says x y f);
      of_Member = λ x set e f q. both (Holds-Member tables s said x set e)
          (reference-both (LivePair R s) (member_both R s t h (set_at s e set) (set_at t f set) (sets_at R s t h e f q set))
          (cell_at s e x) (cell_at t f x) (cells_at R s t h e f q x))
          (Holds-Member tables t says x set f);
      of_Subset = λ set other e f q. both (Holds-Subset tables s said set other e)
          (subset_both R s t h (set_at s e set) (set_at t f set) (set_at s e other) (set_at t f other)
          (sets_at R s t h e f q set) (sets_at R s t h e f q other))
          (Holds-Subset tables t says set other f);
      of_Walk = λ x along y e f q. both (Holds-Walk tables s said x along y e)
          (reference-both (LivePair R s)
          (λ a c p. reference-both (LivePair R s) (λ b d k. walks_both along a b c d p k) (cell_at s e y) (cell_at t f y) (cells_at R s t h e f q y))
          (cell_at s e x) (cell_at t f x) (cells_at R s t h e f q x))
          (Holds-Walk tables t says x along y f);
      of_Pred = λ k args e f q. both (Holds-Pred tables s said k args e)
          (alike k (map (arg_value s e) args) (map (arg_value t f) args) (args_paired R s t h e f q args)) (Holds-Pred tables t says k args f);
      of_Not = λ a k e f q. both (Holds-Not tables s said a e) (not-both (k e f q)) (Holds-Not tables t says a f);
      of_And = λ a b k l e f q. both (Holds-And tables s said a b e) (and-both (k e f q) (l e f q)) (Holds-And tables t says a b f);
      of_Or = λ a b k l e f q. both (Holds-Or tables s said a b e) (or-both (k e f q) (l e f q)) (Holds-Or tables t says a b f);
      of_Imp = λ a b k l e f q. both (Holds-Imp tables s said a b e) (then-both (k e f q) (l e f q)) (Holds-Imp tables t says a b f);
      of_Iff = λ a b k l e f q. both (Holds-Iff tables s said a b e) (iff-both (k e f q) (l e f q)) (Holds-Iff tables t says a b f);
      of_Ex = λ ty a k e f q. both (Holds-Ex tables s said ty a e)
          (some-paired R (cell_forth ty) (cell_back ty) (λ b c p. k (under (value.Cell (Some b)) e) (under (value.Cell (Some c)) f) (binds e f q _ _ p)))
          (Holds-Ex tables t says ty a f);
      of_All = λ ty a k e f q. both (Holds-All tables s said ty a e)
          (all-paired R (cell_forth ty) (cell_back ty) (λ b c p. k (under (value.Cell (Some b)) e) (under (value.Cell (Some c)) f) (binds e f q _ _ p)))
          (Holds-All tables t says ty a f);
      of_ExSet = λ ty a k e f q. both (Holds-ExSet tables s said ty a e)
          (some-paired (PairsLive R s t) (set_forth R s t h ty) (set_back R s t h ty)
          (λ cells others p. k (under (value.Cells cells) e) (under (value.Cells others) f) (binds e f q _ _ p)))
          (Holds-ExSet tables t says ty a f);
      of_AllSet = λ ty a k e f q. both (Holds-AllSet tables s said ty a e)
          (all-paired (PairsLive R s t) (set_forth R s t h ty) (set_back R s t h ty)
          (λ cells others p. k (under (value.Cells cells) e) (under (value.Cells others) f) (binds e f q _ _ p)))
          (Holds-AllSet tables t says ty a f);
    })

  Says-renamed : (preds : List PredDef) (k : ℕ) (xs ys : List Value) → Pairwise (PairsBound R s t) xs ys →
      Says tables s preds k xs ↔ Says tables t preds k ys
  Says-renamed [] k xs ys q = itself
  Says-renamed (p ∷ earlier) k xs ys q = MatchBool-both (k == length earlier)
      (Holds-renamed (Says tables s earlier) (Says tables t earlier) (Says-renamed earlier) p.body (given xs) (given ys) (record { bound = tt; params = q }))
      (Says-renamed earlier k xs ys q)

  SatAll-renamed : (preds : List PredDef) (e f : Environment) → PairsEnvironment R s t e f → (a : Assertion) →
      SatAll tables preds s e a ↔ SatAll tables preds t f a
  SatAll-renamed preds e f q a =
      Holds-renamed (Says tables s (reverse preds)) (Says tables t (reverse preds)) (Says-renamed (reverse preds)) a e f q

-- ---- regions

module _ (tables : List TypeEntry) (vars : List VarEntry) (s : StoreMap) (roots : List VarId) where
  -- the cells that are not reached from listed variables, as a list
  rest_from : (cells : List CellId) × Lists (IsUnreached tables vars s roots) cells
  rest_from = listed s (IsUnreached tables vars s roots)
      (λ c. decided_as (λ k. record { live = k.0; unreached = k.1 }) (λ k. (k.live, k.unreached))
      (decided_both (decided_there (cell_of s c)) (decided_not (decided_reached tables vars s roots c))))
      (λ c k. k.live)

module _ (tables : List TypeEntry) (vars : List VarEntry) (preds : List PredDef) (R : CellId → CellId → Type 0) (s t : StoreMap) (h : PairsStore R s t)
    (e f : Environment) (q : PairsEnvironment R s t e f) (a : Assertion) where
  back : PairsStore (turn R) t s
  back = PairsStore-turned R s t h

  -- on lists of paired cells
  on_paired : {P Q : CellId → Type 0} → ((b c : CellId) → R b c → P b ↔ Q c) → (cells others : List CellId) → Lists P cells → Lists Q others →
      SatAll tables preds (store_on s cells) e a ↔ SatAll tables preds (store_on t others) f a
  on_paired each cells others known further =
      let same : (b c : CellId) → R b c → Contains cells b ↔ Contains others c = λ b c p. (
        λ m. (further.members c).1 ((each b c p).0 ((known.members b).0 m)),
        λ m. (known.members b).1 ((each b c p).1 ((further.members c).0 m)),
      ) in
      SatAll-renamed tables R (store_on s cells) (store_on t others) (paired_on R s t h cells others same) preds e f
      (environment_on R s t h cells others same e f q) a

  region_both : {P Q : CellId → Type 0} → ((b c : CellId) → R b c → P b ↔ Q c) →
      ((cells : List CellId) × Lists P cells) → ((others : List CellId) × Lists Q others) →
      ((cells : List CellId) × Lists P cells × SatAll tables preds (store_on s cells) e a)
      ↔ ((others : List CellId) × Lists Q others × SatAll tables preds (store_on t others) f a)
  region_both each mine yours = (
    λ k. (yours.0, yours.1, (on_paired each k.0 yours.0 k.1 yours.1).0 k.2),
    λ k. (mine.0, mine.1, (on_paired each mine.0 k.0 mine.1 k.1).1 k.2),
  )

  reached_both : (roots : List VarId) (b c : CellId) → R b c → IsReachedFrom tables vars s roots b ↔ IsReachedFrom tables vars t roots c
  reached_both roots b c p = (reached_to tables vars R s t h roots b c p, reached_to tables vars (turn R) t s back roots c b p)

  unreached_both : (roots : List VarId) (b c : CellId) → R b c → IsUnreached tables vars s roots b ↔ IsUnreached tables vars t roots c
  unreached_both roots b c p = (
    λ k. record { live = live_forth R s t h b c p k.live; unreached = λ r. k.unreached ((reached_both roots b c p).1 r) },
    λ k. record { live = live_back R s t h b c p k.live; unreached = λ r. k.unreached ((reached_both roots b c p).0 r) },
  )

  pub Sat-by_pairs : (on : Region) → Sat tables vars preds s on e a ↔ Sat tables vars preds t on f a
  Sat-by_pairs region.All = SatAll-renamed tables R s t h preds e f q a
  Sat-by_pairs (region.Part roots) = region_both (reached_both roots) (part_of tables vars s roots) (part_of tables vars t roots)
  Sat-by_pairs (region.Rest roots) = region_both (unreached_both roots) (rest_from tables vars s roots) (rest_from tables vars t roots)

pub Sat-renamed : (tables : List TypeEntry) (vars : List VarEntry) (preds : List PredDef) (R : CellId → CellId → Type 0) (s t : StoreMap) →
    PairsStore R s t → (e f : Environment) → PairsEnvironment R s t e f → (on : Region) (a : Assertion) →
    Sat tables vars preds s on e a ↔ Sat tables vars preds t on f a
Sat-renamed tables vars preds R s t h e f q on a = Sat-by_pairs tables vars preds R s t h e f q a on
