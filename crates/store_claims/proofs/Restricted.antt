-- Assertions read live cells alone, and so do trees: with its logic sets restricted to the live cells a store meets the same claims, and
-- has the same tree.
use Rattle.std.proofs.Common.{◌≡◌, ◌↔◌, inl, inr, Bool, true, false, List, [], ◌∷◌, filter, Contains, Option, Some, None, IsSomeAnd}
use Rattle.std.proofs.Common.{is_some, unwrap_or, refl, sym, ap, ◌∙◌, subst, arith}
use Rattle.std.specs.Prelude.{option_map, if◌then◌else◌}
use Rattle.std.specs.Ordering.{nat_cmp}
use Rattle.std.specs.FinMap.{FinMap}
use Rattle.std.proofs.lemmas.Option.{slice_get-map}
use Rattle.gta_theory.specs.Assignments.{Position, Assignment}
use Rattle.store_core.specs.declared.ids.FieldId.{FieldId}
use Rattle.store_core.specs.declared.ids.VarId.{VarId}
use Rattle.store_core.specs.declared.ids.CellId.{CellId}
use Rattle.store_core.specs.declared.value.Value.{Value}
use Rattle.store_core.specs.declared.value.Value.TheVariants as value
use Rattle.store_core.specs.Tables.{TypeEntry, VarEntry}
use Rattle.store_core.specs.Stores.{StoreMap, CellEntry, IsLive, cell_of, var_value}
use Rattle.routing_walks.specs.declared.fault.Place.TheVariants as place
use Rattle.routing_walks.specs.Walks.{IsParent, Chain, stay, go}
use Rattle.routing_walks.specs.WellFormed.{Names}
use Rattle.routing_walks.specs.Paths.{LeadsAlong}
use Rattle.routing_walks.specs.Reaching.{IsUnreached}
use Rattle.routing_walks.specs.Regions.{IsReachedFrom, store_on}
use Rattle.routing_walks.specs.Sets.{Lists}
use Rattle.routing_walks.proofs.DecidedLemmas.{in_none, in_cases, in_rest}
use Rattle.routing_walks.proofs.RegionLemmas.{store_on-IsOn, live_on}
use Rattle.store_logic.specs.declared.assertion.Assertion.{Assertion}
use Rattle.store_logic.specs.declared.region.Region.{Region}
use Rattle.store_logic.specs.declared.region.Region.TheVariants as region
use Rattle.store_logic.specs.Terms.{null, outside}
use Rattle.store_logic.specs.Satisfaction.{SatAll, Sat}
use Rattle.store_exec.specs.Steps.{variable}
use Rattle.store_exec.specs.Restricted.{live_part, restricted}
use Rattle.tree_encode.specs.Tracks.{TrackUse, of_variant, of_bool, of_var}
use Rattle.tree_encode.specs.Positions.{IsPlaced}
use Rattle.tree_store.specs.Encoding.{NamesCell, CellIsOn, RootIsOn, IsOn, IsAssignmentOf}
use Rattle.tree_store.proofs.StoresLemmas.{placed-live}
use Rattle.store_claims.proofs.SameCells.{Alike, alike_same, satisfied_too}

-- ---- what is left of a list

left_in : {X : Type 0} (test : X → Bool) (xs : List X) (x : X) → Contains (filter test xs) x → Contains xs x
left_in test [] x m = m
left_in test (y ∷ xs) x m = of (λ rest. left_in test xs x rest) (test y) m
  where
    of : (Contains (filter test xs) x → Contains xs x) → (b : Bool) → Contains (if b then y ∷ filter test xs else filter test xs) x → Contains (y ∷ xs) x
    of later true m = elim (in_cases y x (filter test xs) m) [ inl same ↦ (0, omega arith, same) | inr rest ↦ in_rest y x xs (later rest) ]
    of later false m = in_rest y x xs (later m)

kept_in : {X : Type 0} (test : X → Bool) (xs : List X) (x : X) → test x ≡ true → Contains xs x → Contains (filter test xs) x
kept_in test [] x is m = absurd (in_none x m)
kept_in test (y ∷ xs) x is m = elim (in_cases y x xs m) [
  | inl same ↦ subst (λ (b : Bool). Contains (if b then y ∷ filter test xs else filter test xs) x) (sym (ap test same ∙ is)) (0, omega arith, same)
  | inr rest ↦ of (test y) (kept_in test xs x is rest)
]
  where
    of : (b : Bool) → Contains (filter test xs) x → Contains (if b then y ∷ filter test xs else filter test xs) x
    of true later = in_rest y x (filter test xs) later
    of false later = later

listed-same : {P Q : CellId → Type 0} → ((c : CellId) → P c ↔ Q c) → (cells : List CellId) → Lists P cells → Lists Q cells
listed-same same cells lists = record {
  rising = lists.rising;
  members = λ c. (λ m. (same c).0 ((lists.members c).0 m), λ h. (lists.members c).1 ((same c).1 h));
}

module _ (s : StoreMap) where
  abbrev now : StoreMap
  now = restricted s

  -- ---- what its variables hold

  var_now : (v : VarId) → var_value now v ≡ option_map (live_part s) (var_value s v)
  var_now v = slice_get-map (live_part s) s.vars v.0

  variable_now : (v : VarId) → variable now v ≡ live_part s (variable s v)
  variable_now v = ap (λ o. unwrap_or o null) (var_now v) ∙ of (var_value s v)
    where
      of : (o : Option Value) → unwrap_or (option_map (live_part s) o) null ≡ live_part s (unwrap_or o null)
      of None = refl
      of (Some x) = refl

  -- no assertion on live cells tells a value from what is left of it
  part-alike : (p : StoreMap) → ((c : CellId) → IsLive p c → IsLive s c) → (x : Value) → Alike p x (live_part s x)
  part-alike p live (value.Bool truth) = alike_same p (value.Bool truth)
  part-alike p live (value.Cell c) = alike_same p (value.Cell c)
  part-alike p live (value.Cells cells) = record {
    cells = refl;
    truths = refl;
    sets = λ c is. (kept_in (λ (d : CellId). is_some (cell_of s d)) cells c (live c is), left_in (λ (d : CellId). is_some (cell_of s d)) cells c);
  }

  -- ---- assertions

  satisfied-on : (types : List TypeEntry) (m : FinMap nat_cmp CellEntry) → ((c : CellId) → IsLive (record s { cells = m }) c → IsLive s c) →
      (a : Assertion) → SatAll types [] (record s { cells = m }) outside a ↔ SatAll types [] (record now { cells = m }) outside a
  satisfied-on types m live a = satisfied_too (record s { cells = m }) now.vars types
      (λ v. subst (Alike (record s { cells = m }) (variable s v)) (sym (variable_now v)) (part-alike (record s { cells = m }) live (variable s v))) a

  live-region : (cells : List CellId) (c : CellId) → IsLive (store_on s cells) c → IsLive s c
  live-region cells c live = (live_on cells s (store_on s cells) (store_on-IsOn s cells) c live).1

  satisfied-region : (types : List TypeEntry) (cells : List CellId) (a : Assertion) →
      SatAll types [] (store_on s cells) outside a ↔ SatAll types [] (store_on now cells) outside a
  satisfied-region types cells a = satisfied-on types (store_on s cells).cells (live-region cells) a

  -- ---- regions

  module _ (types : List TypeEntry) (vars : List VarEntry) where
    cell_before : (o : Option Value) (c : CellId) → option_map (live_part s) o ≡ Some (value.Cell (Some c)) → o ≡ Some (value.Cell (Some c))
    cell_before None c e = absurd cc
    cell_before (Some (value.Bool truth)) c e = absurd cc
    cell_before (Some (value.Cell d)) c e = e
    cell_before (Some (value.Cells cells)) c e = absurd cc

    names_before : (v : VarId) (c : CellId) → Names types vars now (place.Var v) c → Names types vars s (place.Var v) c
    names_before v c h = record { place = h.place; value = cell_before (var_value s v) c (sym (var_now v) ∙ h.value) }

    names_now : (v : VarId) (c : CellId) → Names types vars s (place.Var v) c → Names types vars now (place.Var v) c
    names_now v c h = record { place = h.place; value = var_now v ∙ ap (option_map (live_part s)) h.value }

    chain_before : {a b : CellId} → Chain now (IsParent types now) a b → Chain s (IsParent types s) a b
    chain_before (stay a live) = stay a live
    chain_before (go a b c step chain) = go a b c
        (record { field = step.field; leads = record { kind = step.leads.kind; value = step.leads.value; live = step.leads.live } }) (chain_before chain)

    chain_now : {a b : CellId} → Chain s (IsParent types s) a b → Chain now (IsParent types now) a b
    chain_now (stay a live) = stay a live
    chain_now (go a b c step chain) = go a b c
        (record { field = step.field; leads = record { kind = step.leads.kind; value = step.leads.value; live = step.leads.live } }) (chain_now chain)

    reached_before : (roots : List VarId) (c : CellId) → IsReachedFrom types vars now roots c → IsReachedFrom types vars s roots c
    reached_before roots c h = record {
      root = h.root;
      listed = h.listed;
      in_tree = record {
        root = (h.in_tree).root;
        named = names_before h.root (h.in_tree).root (h.in_tree).named;
        path = chain_before (h.in_tree).path;
      };
    }

    reached_now : (roots : List VarId) (c : CellId) → IsReachedFrom types vars s roots c → IsReachedFrom types vars now roots c
    reached_now roots c h = record {
      root = h.root;
      listed = h.listed;
      in_tree = record {
        root = (h.in_tree).root;
        named = names_now h.root (h.in_tree).root (h.in_tree).named;
        path = chain_now (h.in_tree).path;
      };
    }

    reached-same : (roots : List VarId) (c : CellId) → IsReachedFrom types vars s roots c ↔ IsReachedFrom types vars now roots c
    reached-same roots c = (reached_now roots c, reached_before roots c)

    unreached-same : (roots : List VarId) (c : CellId) → IsUnreached types vars s roots c ↔ IsUnreached types vars now roots c
    unreached-same roots c = (
      λ h. record { live = h.live; unreached = λ reached. h.unreached (reached_before roots c reached) },
      λ h. record { live = h.live; unreached = λ reached. h.unreached (reached_now roots c reached) },
    )

    turned-each : {P Q : CellId → Type 0} → ((c : CellId) → P c ↔ Q c) → (c : CellId) → Q c ↔ P c
    turned-each same c = ((same c).1, (same c).0)

    -- ---- claims

    pub satisfied-restricted : (on : Region) (a : Assertion) → Sat types vars [] s on outside a ↔ Sat types vars [] now on outside a
    satisfied-restricted region.All a = satisfied-on types s.cells (λ c live. live) a
    satisfied-restricted (region.Part roots) a = (
      λ h. (h.0, listed-same (reached-same roots) h.0 h.1, (satisfied-region types h.0 a).0 h.2),
      λ h. (h.0, listed-same (turned-each (reached-same roots)) h.0 h.1, (satisfied-region types h.0 a).1 h.2),
    )
    satisfied-restricted (region.Rest roots) a = (
      λ h. (h.0, listed-same (unreached-same roots) h.0 h.1, (satisfied-region types h.0 a).0 h.2),
      λ h. (h.0, listed-same (turned-each (unreached-same roots)) h.0 h.1, (satisfied-region types h.0 a).1 h.2),
    )

    -- ---- trees

    along_before : (fields : List FieldId) (a b : CellId) → LeadsAlong types now fields a b → LeadsAlong types s fields a b
    along_before [] a b h = h
    along_before (f ∷ fields) a b (next, leads, rest) =
        (next, record { kind = leads.kind; value = leads.value; live = leads.live }, along_before fields next b rest)

    along_now : (fields : List FieldId) (a b : CellId) → LeadsAlong types s fields a b → LeadsAlong types now fields a b
    along_now [] a b h = h
    along_now (f ∷ fields) a b (next, leads, rest) =
        (next, record { kind = leads.kind; value = leads.value; live = leads.live }, along_now fields next b rest)

    placed_before : (c : CellId) (p : Position) → IsPlaced types vars now c p → IsPlaced types vars s c p
    placed_before c p h = record {
      var = h.var;
      fields = h.fields;
      at = record {
        root = (h.at).root;
        named = names_before h.var (h.at).root (h.at).named;
        along = along_before h.fields (h.at).root c (h.at).along;
      };
      position = h.position;
    }

    placed_now : (c : CellId) (p : Position) → IsPlaced types vars s c p → IsPlaced types vars now c p
    placed_now c p h = record {
      var = h.var;
      fields = h.fields;
      at = record {
        root = (h.at).root;
        named = names_now h.var (h.at).root (h.at).named;
        along = along_now h.fields (h.at).root c (h.at).along;
      };
      position = h.position;
    }

    -- the value or its live part names the live cell
    named_before : (c : CellId) (o : Option Value) → IsSomeAnd (option_map (live_part s) o) (λ x. NamesCell x c) → IsSomeAnd o (λ x. NamesCell x c)
    named_before c None h = h
    named_before c (Some (value.Bool truth)) h = h
    named_before c (Some (value.Cell d)) h = h
    named_before c (Some (value.Cells cells)) h = left_in (λ (d : CellId). is_some (cell_of s d)) cells c h

    named_now : (c : CellId) → IsLive s c → (o : Option Value) → IsSomeAnd o (λ x. NamesCell x c) → IsSomeAnd (option_map (live_part s) o) (λ x. NamesCell x c)
    named_now c live None h = h
    named_now c live (Some (value.Bool truth)) h = h
    named_now c live (Some (value.Cell d)) h = h
    named_now c live (Some (value.Cells cells)) h = kept_in (λ (d : CellId). is_some (cell_of s d)) cells c live h

    cell_on_before : (what : TrackUse) (c : CellId) → CellIsOn now what c → CellIsOn s what c
    cell_on_before (of_variant v) c h = h
    cell_on_before (of_bool f) c h = h
    cell_on_before (of_var v) c h = named_before c (var_value s v) (subst (λ (o : Option Value). IsSomeAnd o (λ x. NamesCell x c)) (var_now v) h)

    cell_on_now : (what : TrackUse) (c : CellId) → IsLive s c → CellIsOn s what c → CellIsOn now what c
    cell_on_now (of_variant v) c live h = h
    cell_on_now (of_bool f) c live h = h
    cell_on_now (of_var v) c live h =
        subst (λ (o : Option Value). IsSomeAnd o (λ x. NamesCell x c)) (sym (var_now v)) (named_now c live (var_value s v) h)

    true_before : (o : Option Value) → option_map (live_part s) o ≡ Some (value.Bool true) → o ≡ Some (value.Bool true)
    true_before None e = absurd cc
    true_before (Some (value.Bool truth)) e = e
    true_before (Some (value.Cell d)) e = absurd cc
    true_before (Some (value.Cells cells)) e = absurd cc

    root_before : (what : TrackUse) → RootIsOn now what → RootIsOn s what
    root_before (of_variant v) h = h
    root_before (of_bool f) h = h
    root_before (of_var v) h = true_before (var_value s v) (sym (var_now v) ∙ h)

    root_now : (what : TrackUse) → RootIsOn s what → RootIsOn now what
    root_now (of_variant v) h = h
    root_now (of_bool f) h = h
    root_now (of_var v) h = var_now v ∙ ap (option_map (live_part s)) h

    on_before : (what : TrackUse) (p : Position) → IsOn types vars now what p → IsOn types vars s what p
    on_before what p (inl h) = inl (h.0, root_before what h.1)
    on_before what p (inr h) = inr (h.0, placed_before h.0 p h.1, cell_on_before what h.0 h.2)

    on_now : (what : TrackUse) (p : Position) → IsOn types vars s what p → IsOn types vars now what p
    on_now what p (inl h) = inl (h.0, root_now what h.1)
    on_now what p (inr h) = inr (h.0, placed_now h.0 p h.1, cell_on_now what h.0 (placed-live types vars s h.0 p h.1) h.2)

    pub assignment-restricted : (a : Assignment) → IsAssignmentOf types vars s a → IsAssignmentOf types vars now a
    assignment-restricted a of = record {
      tracks = λ what t p is. (λ on. on_now what p ((of.tracks what t p is).0 on), λ h. (of.tracks what t p is).1 (on_before what p h));
    }
