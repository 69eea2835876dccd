-- The live cells of a store as a list, and whether a walk joins two cells.
use Rattle.std.proofs.Common.{◌≡◌, ◌⊎◌, inl, inr, ◌<◌, ℕ, zero, suc, Bool, List, [], ◌∷◌, map, length, slice_get, Option, Some, None, IsSome, refl}
use Rattle.std.proofs.Common.{sym, ap, ◌∙◌, subst, arith, Contains}
use Rattle.std.specs.Prelude.{option_map}
use Rattle.std.specs.Option.{option_map_or}
use Rattle.std.specs.FinMap.{keys}
use Rattle.std.specs.List.{AllByRecursion}
use Rattle.std.proofs.lemmas.Bool.{cases_lt, false≢true}
use Rattle.std.proofs.lemmas.Option.{slice_get-map, slice_get_past}
use Rattle.store_core.specs.declared.ids.TypeId.{TypeId}
use Rattle.store_core.specs.declared.ids.VariantId.{VariantId}
use Rattle.store_core.specs.declared.ids.FieldId.{FieldId}
use Rattle.store_core.specs.declared.ids.CellId.{CellId}
use Rattle.store_core.specs.declared.kind.FieldKind.{FieldKind}
use Rattle.store_core.specs.declared.kind.FieldKind.TheVariants as field
use Rattle.store_core.specs.declared.kind.Route.{Route}
use Rattle.store_core.specs.declared.value.Value.{Value}
use Rattle.store_core.specs.declared.value.Value.TheVariants as value
use Rattle.store_core.specs.CellLists.{AreRising}
use Rattle.store_core.specs.Tables.{TypeEntry, field_at, fields_of, type_at}
use Rattle.store_core.specs.Stores.{StoreMap, IsLive, cell_of, field_value}
use Rattle.routing_walks.specs.Walks.{Fields, DataAlone, DataAndPointers, IsFollowed, Leads, IsNamed, LeadsByName, IsParent, Stays, IsRoot, IsLeaf}
use Rattle.routing_walks.specs.Walks.{IsOfType, IsOfVariant, HasTruth, Chain, Walk}
use Rattle.routing_walks.specs.Sets.{Lists}
use Rattle.routing_walks.proofs.RouteLemmas.{IsHereditary, route-induction}
use Rattle.routing_walks.proofs.WalkLemmas.{Walk-Down, Walk-Up, Walk-UpAny, Walk-Root, Walk-Leaf, Walk-IsType, Walk-IsVariant, Walk-IsBool, Walk-Then}
use Rattle.routing_walks.proofs.WalkLemmas.{Walk-Or, Walk-Star}
use Rattle.routing_walks.proofs.LiveLemmas.{Walk-live, IsParent-live, IsSome-and}
use Rattle.routing_walks.proofs.KeyLemmas.{keys-rise, key_of_live, live_of_key}
use Rattle.routing_walks.specs.Deciding.{Decided}
use Rattle.routing_walks.proofs.DecidedLemmas.{decided_as, decided_both, decided_either, decided_not, decided_number, decided_truth, decided_name}
use Rattle.routing_walks.proofs.DecidedLemmas.{decided_some, decided_there, decided_one_of, decided_below, in_none, in_rest, in_cases, in_at, at_in}
use Rattle.routing_walks.proofs.StarLemmas.{decided_chain}

-- ---- the live cells by number

mk : ℕ → CellId
mk n = record { 0 = n }

pub live_cells : StoreMap → List CellId
live_cells s = map mk (keys s.cells)

above_all : (n : ℕ) (ks : List ℕ) → ((k a : ℕ) → slice_get ks k ≡ Some a → n < a) → AllByRecursion (λ d. n < d.0) (map mk ks)
unfolding mk
above_all n [] above = tt
above_all n (k ∷ ks) above = (above 0 k refl, above_all n ks (λ j a at. above (suc j) a at))

rising_from : (ks : List ℕ) → ((i j a b : ℕ) → i < j → slice_get ks i ≡ Some a → slice_get ks j ≡ Some b → a < b) → AreRising (map mk ks)
unfolding mk
rising_from [] rise = tt
rising_from (k ∷ ks) rise = (
  above_all k ks (λ j a at. rise 0 (suc j) k a (omega arith) refl at),
  rising_from ks (λ i j a b less at_i at_j. rise (suc i) (suc j) a b (omega (arith, less)) at_i at_j),
)

module _ (s : StoreMap) where
  pub live_rising : AreRising (live_cells s)
  unfolding live_cells
  live_rising = rising_from (keys s.cells) (keys-rise s)

  pub live_in : (c : CellId) → IsLive s c → Contains (live_cells s) c
  unfolding live_cells mk
  live_in c live = let k = key_of_live s c live in
      in_at (map mk (keys s.cells)) k.0 c (slice_get-map mk (keys s.cells) k.0 ∙ ap (option_map mk) k.1)

  pub in_live : (c : CellId) → Contains (live_cells s) c → IsLive s c
  unfolding live_cells mk
  in_live c m =
      let at = at_in (map mk (keys s.cells)) c m in
      live_of_key s c at.0 (numbered (slice_get (keys s.cells) at.0) c (sym (slice_get-map mk (keys s.cells) at.0) ∙ at.1))
    where
      numbered : (o : Option ℕ) (c : CellId) → option_map mk o ≡ Some c → o ≡ Some c.0
      numbered None c e = cc
      numbered (Some n) c e = let same : mk n ≡ c = cc in ap (λ (d : CellId). Some d.0) same

  -- one of the live cells
  pub decided_cell : (P : CellId → Type 0) → ((c : CellId) → Decided (P c)) → ((c : CellId) → P c → IsLive s c) → Decided ((c : CellId) × P c)
  decided_cell P each live = decided_as (λ h. (h.0, h.2)) (λ h. (h.0, live_in h.0 (live h.0 h.1), h.1)) (decided_one_of P each (live_cells s))

-- ---- what passes, of a list

-- the element before the rest, where it passes
keep : {X P : Type 0} → Decided P → X → List X → List X
keep (inl h) x rest = x ∷ rest
keep (inr never) x rest = rest

pub passing : {X : Type 0} {P : X → Type 0} → ((x : X) → Decided (P x)) → List X → List X
passing each [] = []
passing each (x ∷ xs) = keep (each x) x (passing each xs)

module _ {X : Type 0} where
  keep_all : {P : Type 0} (Q : X → Type 0) (d : Decided P) (x : X) (rest : List X) → Q x → AllByRecursion Q rest → AllByRecursion Q (keep d x rest)
  unfolding keep
  keep_all Q (inl h) x rest first others = (first, others)
  keep_all Q (inr never) x rest first others = others

  keep_rest : {P : Type 0} (d : Decided P) (x y : X) (rest : List X) → Contains rest y → Contains (keep d x rest) y
  unfolding keep
  keep_rest (inl h) x y rest m = in_rest x y rest m
  keep_rest (inr never) x y rest m = m

  keep_first : {P : Type 0} (d : Decided P) (x y : X) (rest : List X) → P → x ≡ y → Contains (keep d x rest) y
  unfolding keep
  keep_first (inl h) x y rest p e = (0, omega arith, e)
  keep_first (inr never) x y rest p e = absurd (never p)

  keep_cases : {P : Type 0} (d : Decided P) (x y : X) (rest : List X) → Contains (keep d x rest) y → (P × (x ≡ y)) ⊎ Contains rest y
  unfolding keep
  keep_cases (inl h) x y rest m = elim (in_cases x y rest m) [ inl e ↦ inl (h, e) | inr r ↦ inr r ]
  keep_cases (inr never) x y rest m = inr m

module _ {X : Type 0} (P : X → Type 0) (each : (x : X) → Decided (P x)) where
  pub passing_all : (Q : X → Type 0) (xs : List X) → AllByRecursion Q xs → AllByRecursion Q (passing each xs)
  unfolding passing
  passing_all Q [] all = tt
  passing_all Q (x ∷ xs) all = keep_all Q (each x) x (passing each xs) all.0 (passing_all Q xs all.1)

  pub passing_in : (xs : List X) (y : X) → Contains xs y → P y → Contains (passing each xs) y
  unfolding passing
  passing_in [] y m h = absurd (in_none y m)
  passing_in (x ∷ xs) y m h = elim (in_cases x y xs m) [
    | inl e ↦ keep_first (each x) x y (passing each xs) (subst P (sym e) h) e
    | inr r ↦ keep_rest (each x) x y (passing each xs) (passing_in xs y r h)
  ]

  pub in_passing : (xs : List X) (y : X) → Contains (passing each xs) y → Contains xs y × P y
  unfolding passing
  in_passing [] y m = absurd (in_none y m)
  in_passing (x ∷ xs) y m = elim (keep_cases (each x) x y (passing each xs) m) [
    | inl h ↦ ((0, omega arith, h.1), subst P h.1 h.0)
    | inr r ↦ let h = in_passing xs y r in (in_rest x y xs h.0, h.1)
  ]

keep_rising : {P : Type 0} (d : Decided P) (c : CellId) (rest : List CellId) → AllByRecursion (λ d. c.0 < d.0) rest → AreRising rest → AreRising (keep d c rest)
unfolding keep
keep_rising (inl h) c rest above rising = (above, rising)
keep_rising (inr never) c rest above rising = rising

pub passing_rising : (P : CellId → Type 0) (each : (c : CellId) → Decided (P c)) (cells : List CellId) → AreRising cells → AreRising (passing each cells)
unfolding passing
passing_rising P each [] rising = tt
passing_rising P each (c ∷ cells) rising =
    keep_rising (each c) c (passing each cells) (passing_all P each (λ d. c.0 < d.0) cells rising.0) (passing_rising P each cells rising.1)

-- what is decided and of live cells alone has a list
pub listed : (s : StoreMap) (P : CellId → Type 0) → ((c : CellId) → Decided (P c)) → ((c : CellId) → P c → IsLive s c) →
    (cells : List CellId) × Lists P cells
listed s P each live = (
  passing each (live_cells s),
  record {
    rising = passing_rising P each (live_cells s) (live_rising s);
    members = λ d. (
      λ m. (in_passing P each (live_cells s) d m).1,
      λ h. passing_in P each (live_cells s) d (live_in s d (live d h)) h,
    );
  },
)

-- ---- names and values

pub decided_same_cell : (c d : CellId) → Decided (c ≡ d)
decided_same_cell c d = decided_as (λ e. ap (λ (n : ℕ). record { 0 = n }) e) (λ e. ap (λ (x : CellId). x.0) e) (decided_number c.0 d.0)

decided_same_type : (c d : TypeId) → Decided (c ≡ d)
decided_same_type c d = decided_as (λ e. ap (λ (n : ℕ). record { 0 = n }) e) (λ e. ap (λ (x : TypeId). x.0) e) (decided_number c.0 d.0)

decided_same_variant : (v w : VariantId) → Decided (v ≡ w)
decided_same_variant v w = decided_as
    (λ h. ap (λ (t : TypeId). record { ty = t; index = v.index }) h.0 ∙ ap (λ (n : ℕ). record { ty = w.ty; index = n }) h.1)
    (λ e. (ap (λ (x : VariantId). x.ty) e, ap (λ (x : VariantId). x.index) e))
    (decided_both (decided_same_type v.ty w.ty) (decided_number v.index w.index))

pub decided_reference : (o : Option Value) (c : CellId) → Decided (o ≡ Some (value.Cell (Some c)))
decided_reference None c = inr (λ e. cc)
decided_reference (Some (value.Bool b)) c = inr (λ e. cc)
decided_reference (Some (value.Cell None)) c = inr (λ e. cc)
decided_reference (Some (value.Cell (Some d))) c = decided_as (λ e. ap (λ x. Some (value.Cell (Some x))) e) (λ e. cc) (decided_same_cell d c)
decided_reference (Some (value.Cells cells)) c = inr (λ e. cc)

decided_bool : (o : Option Value) (b : Bool) → Decided (o ≡ Some (value.Bool b))
decided_bool None b = inr (λ e. cc)
decided_bool (Some (value.Bool a)) b = decided_as (λ e. ap (λ x. Some (value.Bool x)) e) (λ e. cc) (decided_truth a b)
decided_bool (Some (value.Cell c)) b = inr (λ e. cc)
decided_bool (Some (value.Cells cells)) b = inr (λ e. cc)

pub decided_followed : (fields : Fields) (kind : FieldKind) → Decided (IsFollowed fields kind)
decided_followed fields field.Bool = inr (λ h. h)
decided_followed fields (field.Data target) = inl tt
decided_followed DataAlone (field.Pointer target along) = inr (λ h. h)
decided_followed DataAndPointers (field.Pointer target along) = inl tt

-- ---- fields

pub within : {X : Type 0} (xs : List X) (i : ℕ) → IsSome (slice_get xs i) → i < length xs
within [] i h = absurd (false≢true h)
within (x ∷ xs) zero h = omega arith
within (x ∷ xs) (suc i) h = let rest = within xs i h in omega (arith, rest)

module _ (types : List TypeEntry) where
  no_fields : (o : Option TypeEntry) → o ≡ None → (i : ℕ) → i < length (option_map_or (λ (t : TypeEntry). t.fields) o []) → ⊥
  no_fields None e i less = omega (arith, less)
  no_fields (Some t) e i less = cc

  -- one of the fields of the table
  pub decided_field : (P : FieldId → Type 0) → ((f : FieldId) → Decided (P f)) → ((f : FieldId) → P f → IsSome (field_at types f)) →
      Decided ((f : FieldId) × P f)
  decided_field P each there = decided_as
      (λ h. (record { ty = record { 0 = h.0 }; index = h.2.0 }, h.2.2))
      (λ h. (h.0.ty.0, typed h.0 (there h.0 h.1), (h.0.index, within (fields_of types h.0.ty) h.0.index (there h.0 h.1), h.1)))
      (decided_below (λ t. (i : ℕ) × (i < length (fields_of types (record { 0 = t }))) × P (record { ty = record { 0 = t }; index = i }))
      (λ t. decided_below (λ i. P (record { ty = record { 0 = t }; index = i })) (λ i. each (record { ty = record { 0 = t }; index = i }))
      (length (fields_of types (record { 0 = t })))) (length types))
    where
      typed : (f : FieldId) → IsSome (field_at types f) → f.ty.0 < length types
      typed f h = elim (cases_lt f.ty.0 (length types)) [
        | inl less ↦ less
        | inr more ↦ absurd (no_fields (type_at types f.ty) (slice_get_past types f.ty.0 (omega (arith, more))) f.index
            (within (fields_of types f.ty) f.index h))
      ]

module _ (types : List TypeEntry) (s : StoreMap) where
  pub decided_live : (c : CellId) → Decided (IsLive s c)
  decided_live c = decided_there (cell_of s c)

  pub decided_leads : (fields : Fields) (f : FieldId) (a b : CellId) → Decided (Leads types s fields f a b)
  decided_leads fields f a b = decided_as
      (λ h. record { kind = h.0.0; value = h.0.1; live = h.1 })
      (λ h. ((h.kind, h.value), h.live))
      (decided_both (decided_both (decided_some (field_at types f) _ (λ entry. decided_followed fields entry.kind))
      (decided_reference (field_value s a f) b)) (decided_live b))

  decided_named : (f : FieldId) (name : List ℕ) → Decided (IsNamed types f name)
  decided_named f name = decided_some (field_at types f) _ (λ entry. decided_name entry.name name)

  pub decided_by_name : (fields : Fields) (name : List ℕ) (a b : CellId) → Decided (LeadsByName types s fields name a b)
  decided_by_name fields name a b = decided_as
      (λ h. record { field = h.0; named = h.1.0; leads = h.1.1 })
      (λ h. (h.field, (h.named, h.leads)))
      (decided_field types (λ f. IsNamed types f name × Leads types s fields f a b)
      (λ f. decided_both (decided_named f name) (decided_leads fields f a b))
      (λ f h. IsSome-and (field_at types f) _ h.0))

  pub decided_parent : (a b : CellId) → Decided (IsParent types s a b)
  decided_parent a b = decided_as
      (λ h. record { field = h.0; leads = h.1 })
      (λ h. (h.field, h.leads))
      (decided_field types (λ f. Leads types s DataAlone f a b) (λ f. decided_leads DataAlone f a b) (λ f h. IsSome-and (field_at types f) _ h.kind))

  decided_truth_of : (name : List ℕ) (truth : Bool) (c : CellId) → Decided (HasTruth types s name truth c)
  decided_truth_of name truth c = decided_as
      (λ h. record { field = h.0; named = h.1.0; value = h.1.1 })
      (λ h. (h.field, (h.named, h.value)))
      (decided_field types (λ f. IsNamed types f name × (field_value s c f ≡ Some (value.Bool truth)))
      (λ f. decided_both (decided_named f name) (decided_bool (field_value s c f) truth))
      (λ f h. IsSome-and (field_at types f) _ h.0))

  decided_root : (c : CellId) → Decided (IsRoot types s c)
  decided_root c = decided_as
      (λ h. record { live = h.0; alone = λ p k. h.1 (p, k) })
      (λ h. (h.live, λ k. h.alone k.0 k.1))
      (decided_both (decided_live c) (decided_not (decided_cell s (λ p. IsParent types s p c) (λ p. decided_parent p c)
      (λ p k. (IsParent-live types s p c k).0))))

  decided_leaf : (c : CellId) → Decided (IsLeaf types s c)
  decided_leaf c = decided_as
      (λ h. record { live = h.0; alone = λ p k. h.1 (p, k) })
      (λ h. (h.live, λ k. h.alone k.0 k.1))
      (decided_both (decided_live c) (decided_not (decided_cell s (λ p. IsParent types s c p) (λ p. decided_parent c p)
      (λ p k. (IsParent-live types s c p k).1))))

  pub decided_of_type : (ty : TypeId) (c : CellId) → Decided (IsOfType s ty c)
  decided_of_type ty c = decided_some (cell_of s c) _ (λ cell. decided_same_type cell.variant.ty ty)

  decided_of_variant : (v : VariantId) (c : CellId) → Decided (IsOfVariant s v c)
  decided_of_variant v c = decided_some (cell_of s c) _ (λ cell. decided_same_variant cell.variant v)

  decided_test : (Passes : CellId → Type 0) → ((c : CellId) → Decided (Passes c)) → (a b : CellId) → Decided (Stays Passes a b)
  decided_test Passes each a b = decided_both (decided_same_cell a b) (each a)

  pub decided_steps : (Step : CellId → CellId → Type 0) → ((a b : CellId) → Step a b → IsLive s a × IsLive s b) →
      ((a b : CellId) → Decided (Step a b)) → (a b : CellId) → Decided (Chain s Step a b)
  decided_steps Step live each = decided_chain Step s live decided_same_cell each decided_live (live_cells s) (in_live s) (live_in s)

  module _ (fields : Fields) where
    IsDecided : Route → Type 0
    IsDecided along = (a b : CellId) → Decided (Walk types s fields along a b)

    by_cases : {P Q : Type 0} → (P → Q) × (Q → P) → Decided Q → Decided P
    by_cases h d = decided_as h.1 h.0 d

    hereditary : IsHereditary IsDecided
    unfolding IsDecided
    hereditary = record {
      of_Down = λ name a b. by_cases (Walk-Down types s fields name a b) (decided_by_name fields name a b);
      of_Up = λ name a b. by_cases (Walk-Up types s fields name a b) (decided_by_name fields name b a);
      of_UpAny = λ a b. by_cases (Walk-UpAny types s fields a b) (decided_parent b a);
      of_Root = λ a b. by_cases (Walk-Root types s fields a b) (decided_test (IsRoot types s) decided_root a b);
      of_Leaf = λ a b. by_cases (Walk-Leaf types s fields a b) (decided_test (IsLeaf types s) decided_leaf a b);
      of_IsType = λ ty a b. by_cases (Walk-IsType types s fields ty a b) (decided_test (IsOfType s ty) (decided_of_type ty) a b);
      of_IsVariant = λ v a b. by_cases (Walk-IsVariant types s fields v a b) (decided_test (IsOfVariant s v) (decided_of_variant v) a b);
      of_IsBool = λ name truth a b. by_cases (Walk-IsBool types s fields name truth a b)
          (decided_test (HasTruth types s name truth) (decided_truth_of name truth) a b);
      of_Then = λ first second one two a c. by_cases (Walk-Then types s fields first second a c)
          (decided_as (λ h. (h.0, h.1.0, h.1.1)) (λ h. (h.0, (h.1, h.2)))
          (decided_cell s (λ b. Walk types s fields first a b × Walk types s fields second b c) (λ b. decided_both (one a b) (two b c))
          (λ b h. (Walk-live types s fields first a b h.0).1)));
      of_Or = λ one other left right a b. by_cases (Walk-Or types s fields one other a b) (decided_either (left a b) (right a b));
      of_Star = λ round each a b. by_cases (Walk-Star types s fields round a b)
          (decided_steps (Walk types s fields round) (Walk-live types s fields round) each a b);
    }

    pub decided_walk : (along : Route) (a b : CellId) → Decided (Walk types s fields along a b)
    unfolding IsDecided
    decided_walk = route-induction IsDecided hereditary

    -- the ends of the walks from a cell
    pub walk_ends : (along : Route) (a : CellId) → (cells : List CellId) × Lists (Walk types s fields along a) cells
    walk_ends along a = listed s (Walk types s fields along a) (decided_walk along a) (λ b w. (Walk-live types s fields along a b w).1)
