-- A store that is at a cut without a cause is well-formed once its logic sets are restricted to the live cells.
use Rattle.std.proofs.Common.{◌≡◌, ◌<◌, inl, inr, Bool, true, false, cond, List, [], ◌∷◌, map, filter, Option, Some, None, IsSomeAnd, is_some}
use Rattle.std.proofs.Common.{refl, sym, ap, ◌∙◌, subst}
use Rattle.std.specs.Prelude.{option_map}
use Rattle.std.specs.List.{AllByRecursion}
use Rattle.std.specs.Ordering.{nat_cmp}
use Rattle.std.specs.FinMap.{FinMap, get}
use Rattle.std.proofs.lemmas.Bool.{false≢true}
use Rattle.std.proofs.lemmas.Option.{slice_get-map}
use Rattle.std.proofs.lemmas.List.Elements.{All-from_recursion, All-contains}
use Rattle.store_core.specs.declared.ids.TypeId.{TypeId}
use Rattle.store_core.specs.declared.ids.FieldId.{FieldId}
use Rattle.store_core.specs.declared.ids.VarId.{VarId}
use Rattle.store_core.specs.declared.ids.CellId.{CellId}
use Rattle.store_core.specs.declared.kind.FieldKind.{FieldKind}
use Rattle.store_core.specs.declared.kind.FieldKind.TheVariants as field
use Rattle.store_core.specs.declared.kind.VarKind.{VarKind}
use Rattle.store_core.specs.declared.kind.VarKind.TheVariants as var
use Rattle.store_core.specs.declared.value.Value.{Value}
use Rattle.store_core.specs.declared.value.Value.TheVariants as value
use Rattle.store_core.specs.CellLists.{AreRising}
use Rattle.store_core.specs.Tables.{TypeEntry, VarEntry, FieldEntry, field_at}
use Rattle.store_core.specs.Stores.{StoreMap, CellEntry, cell_of, field_value, var_value, NamesType, FieldFits, VarFits, CellFits, VarsFit, Fits}
use Rattle.store_laws.proofs.KeepingLemmas.{CellFits-kept, VarsFit-kept, slots-any, all-any}
use Rattle.store_core.proofs.FittingLemmas.{IfSome-from, IfSome-at, IsSomeAnd-at, slot_at_value}
use Rattle.routing_walks.specs.declared.fault.Place.{Place}
use Rattle.routing_walks.specs.declared.fault.Place.TheVariants as place
use Rattle.routing_walks.specs.Walks.{DataAlone, IsParent, Chain, stay, go}
use Rattle.routing_walks.specs.Destinations.{EndsKind, Dest, IsOnlyDestination}
use Rattle.routing_walks.specs.WellFormed.{value_at, Names, IsInTree, NamesDead, HoldsDead, IsDanglingReference}
use Rattle.routing_walks.specs.WellFormed.{IsWellFormed}
use Rattle.routing_walks.specs.CutFaults.{IsSound}
use Rattle.routing_walks.proofs.AloneLemmas.{Walk-same_cells}
use Rattle.routing_walks.specs.Shown.{HasFault, dangling, shared, leaked, wrong, HasCause, at_reference, at_shared, at_leak, at_field}
use Rattle.routing_walks.proofs.DecidedStores.{well_formed_or_fault, sound_or_cause, no_cause}
use Rattle.store_exec.specs.declared.cause.Cause.TheVariants as cause
use Rattle.store_exec.specs.declared.triple.Cut.{Cut}
use Rattle.store_exec.specs.Cuts.{AtCut}
use Rattle.store_exec.specs.Restricted.{live_part, restricted}

-- ---- what is left of a list

left_all : {X : Type 0} (P : X → Type 0) (b : Bool) (x : X) (xs : List X) → (b ≡ true → P x) → AllByRecursion P xs → AllByRecursion P (cond b (x ∷ xs) xs)
left_all P true x xs first rest = (first refl, rest)
left_all P false x xs first rest = rest

filter_kept : {X : Type 0} (P : X → Type 0) (test : X → Bool) (xs : List X) → AllByRecursion P xs → AllByRecursion P (filter test xs)
filter_kept P test [] all = tt
filter_kept P test (x ∷ xs) all = left_all P (test x) x (filter test xs) (λ e. all.0) (filter_kept P test xs all.1)

filter_passes : {X : Type 0} (test : X → Bool) (xs : List X) → AllByRecursion (λ x. test x ≡ true) (filter test xs)
filter_passes test [] = tt
filter_passes test (x ∷ xs) = left_all (λ y. test y ≡ true) (test x) x (filter test xs) (λ e. e) (filter_passes test xs)

left_rising : (b : Bool) (c : CellId) (rest : List CellId) → AllByRecursion (λ d. c.0 < d.0) rest → AreRising rest → AreRising (cond b (c ∷ rest) rest)
left_rising true c rest above rising = (above, rising)
left_rising false c rest above rising = rising

filter_rising : (test : CellId → Bool) (cells : List CellId) → AreRising cells → AreRising (filter test cells)
filter_rising test [] rising = tt
filter_rising test (c ∷ cells) rising = left_rising (test c) c (filter test cells)
    (filter_kept (λ d. c.0 < d.0) test cells rising.0) (filter_rising test cells rising.1)

some_as : {X : Type 0} (P Q : X → Type 0) → ((x : X) → P x → Q x) → (o : Option X) → IsSomeAnd o P → IsSomeAnd o Q
some_as P Q each None h = absurd h
some_as P Q each (Some x) h = each x h

-- ---- stores with the same cells

module _ (types : List TypeEntry) (s t : StoreMap) (e : s.cells ≡ t.cells) where
  ends_too : (kind : FieldKind) (c d : CellId) → EndsKind types s kind c d → EndsKind types t kind c d
  ends_too field.Bool c d h = h
  ends_too (field.Data target) c d h = h
  ends_too (field.Pointer target along) c d h = record {
    walk = (Walk-same_cells types s t DataAlone along c d e).0 h.walk;
    of_target = subst (λ (m : FinMap nat_cmp CellEntry). IsSomeAnd (get m d.0) (λ cell. cell.variant.ty ≡ target)) e h.of_target;
  }

  dest_too : (c : CellId) (f : FieldId) (d : CellId) → Dest types s c f d → Dest types t c f d
  dest_too c f d = some_as (λ (entry : FieldEntry). EndsKind types s entry.kind c d) (λ entry. EndsKind types t entry.kind c d)
      (λ entry. ends_too entry.kind c d) (field_at types f)

only_too : (types : List TypeEntry) (s t : StoreMap) (e : s.cells ≡ t.cells) (c : CellId) (f : FieldId) (x : Value) →
    IsOnlyDestination types s c f x → IsOnlyDestination types t c f x
only_too types s t e c f (value.Bool truth) h = h
only_too types s t e c f (value.Cell None) h = λ d dest. h d (dest_too types t s (sym e) c f d dest)
only_too types s t e c f (value.Cell (Some d)) h = (dest_too types s t e c f d h.0, λ b dest. h.1 b (dest_too types t s (sym e) c f b dest))
only_too types s t e c f (value.Cells cells) h = h

module _ (types : List TypeEntry) (vars : List VarEntry) (s : StoreMap) (fits : Fits types vars s) where
  abbrev now : StoreMap
  now = restricted s

  -- ---- it fits

  type_same : (target : TypeId) (c : CellId) → Unit {0} → NamesType s target c → NamesType now target c
  type_same target c such h = h

  part_fits : (kind : VarKind) (x : Value) → VarFits s kind x → VarFits s kind (live_part s x)
  part_fits kind (value.Bool truth) h = h
  part_fits kind (value.Cell c) h = h
  part_fits var.Bool (value.Cells cells) h = h
  part_fits (var.Data target) (value.Cells cells) h = h
  part_fits (var.Pointer target) (value.Cells cells) h = h
  part_fits (var.LogicSet target) (value.Cells cells) h =
      (filter_rising (λ c. is_some (cell_of s c)) cells h.0, filter_kept (NamesType s target) (λ c. is_some (cell_of s c)) cells h.1)
  part_fits var.LogicBool (value.Cells cells) h = h

  parts_fit : (vs : List VarEntry) (xs : List Value) → VarsFit s vs xs → VarsFit s vs (map (live_part s) xs)
  parts_fit [] [] h = tt
  parts_fit [] (x ∷ xs) h = h
  parts_fit (v ∷ vs) [] h = h
  parts_fit (v ∷ vs) (x ∷ xs) h = (part_fits v.kind x h.0, parts_fit vs xs h.1)

  pub restricted-fits : Fits types vars now
  restricted-fits = record {
    cells = λ c. IfSome-from (cell_of s c) (CellFits types now) (λ cell is.
        CellFits-kept s now (λ d. Unit {0}) type_same types cell (slots-any cell.values) (IfSome-at (cell_of s c) _ cell is (fits.cells c)));
    values = VarsFit-kept s now (λ d. Unit {0}) type_same vars now.vars (all-any now.vars) (parts_fit vars s.vars fits.values);
    above = fits.above;
  }

  -- ---- what its variables hold

  var_now : (v : VarId) → var_value now v ≡ option_map (live_part s) (var_value s v)
  var_now v = slice_get-map (live_part s) s.vars v.0

  cell_before : (o : Option Value) (c : CellId) → option_map (live_part s) o ≡ Some (value.Cell (Some c)) → o ≡ Some (value.Cell (Some c))
  cell_before None c e = absurd cc
  cell_before (Some (value.Bool truth)) c e = absurd cc
  cell_before (Some (value.Cell d)) c e = e
  cell_before (Some (value.Cells cells)) c e = absurd cc

  value_before : (p : Place) (c : CellId) → value_at now p ≡ Some (value.Cell (Some c)) → value_at s p ≡ Some (value.Cell (Some c))
  value_before (place.Var v) c e = cell_before (var_value s v) c (sym (var_now v) ∙ e)
  value_before (place.Field a f) c e = e

  names_before : (p : Place) (c : CellId) → Names types vars now p c → Names types vars s p c
  names_before p c h = record { place = h.place; value = value_before p c h.value }

  names_now : (v : VarId) (c : CellId) → Names types vars s (place.Var v) c → Names types vars now (place.Var v) c
  names_now v c h = record { place = h.place; value = var_now v ∙ ap (option_map (live_part s)) h.value }

  chain_now : {a b : CellId} → Chain s (IsParent types s) a b → Chain now (IsParent types now) a b
  chain_now (stay a live) = stay a live
  chain_now (go a b c step chain) = go a b c
      (record { field = step.field; leads = record { kind = step.leads.kind; value = step.leads.value; live = step.leads.live } }) (chain_now chain)

  tree_now : (v : VarId) (c : CellId) → IsInTree types vars s v c → IsInTree types vars now v c
  tree_now v c tree = record { root = tree.root; named = names_now v tree.root tree.named; path = chain_now tree.path }

  -- ---- nothing dangles

  dead_before : (x : Value) → NamesDead now x → NamesDead s x
  dead_before (value.Bool truth) h = h
  dead_before (value.Cell c) h = h
  dead_before (value.Cells cells) h = h

  part_before : (x : Value) → NamesDead now (live_part s x) → NamesDead s x
  part_before (value.Bool truth) h = h
  part_before (value.Cell c) h = h
  part_before (value.Cells cells) h = h

  mapped : (P : Value → Type 0) (o : Option Value) → IsSomeAnd (option_map (live_part s) o) P → IsSomeAnd o (λ x. P (live_part s x))
  mapped P None h = absurd h
  mapped P (Some x) h = h

  reference_before : (p : Place) → IsDanglingReference now p → IsDanglingReference s p
  reference_before (place.Var v) h = some_as (λ x. NamesDead now (live_part s x)) (NamesDead s) part_before (var_value s v)
      (mapped (NamesDead now) (var_value s v) (subst (λ o. IsSomeAnd o (NamesDead now)) (var_now v) h))
  reference_before (place.Field a f) h = some_as (NamesDead now) (NamesDead s) dead_before (field_value s a f) h

  part_lives : (x : Value) → HoldsDead now (live_part s x) → ⊥
  part_lives (value.Bool truth) h = h
  part_lives (value.Cell c) h = h
  part_lives (value.Cells cells) h =
      let test : CellId → Bool = λ c. is_some (cell_of s c) in
      let live = All-contains (λ c. test c ≡ true) (filter test cells) h.1
      (All-from_recursion (λ c. test c ≡ true) (filter test cells) (filter_passes test cells)) (h.0, h.2, h.3) in
      false≢true (sym (ap is_some h.4) ∙ live)

  no_set : (kind : FieldKind) (x : Value) → FieldFits s kind x → HoldsDead now x → ⊥
  no_set kind (value.Bool truth) fit h = h
  no_set kind (value.Cell c) fit h = h
  no_set field.Bool (value.Cells cells) fit h = fit
  no_set (field.Data target) (value.Cells cells) fit h = fit
  no_set (field.Pointer target along) (value.Cells cells) fit h = fit

  sets_live : (p : Place) → IsSomeAnd (value_at now p) (HoldsDead now) → ⊥
  sets_live (place.Var v) h =
      let x = IsSomeAnd-at (var_value s v) _ (mapped (HoldsDead now) (var_value s v) (subst (λ o. IsSomeAnd o (HoldsDead now)) (var_now v) h)) in
      part_lives x.0 x.2
  sets_live (place.Field a f) h =
      let x = IsSomeAnd-at (field_value s a f) _ h in
      let slot = slot_at_value types vars s fits a f x.0 x.1 in
      no_set slot.entry.kind x.0 slot.fits x.2

  -- ---- it is well-formed

  module _ (sound : IsSound types vars s) where
    no-fault : HasFault types vars now → ⊥
    no-fault (dangling p (inl h)) = no_cause types vars s fits sound (at_reference p (reference_before p h))
    no-fault (dangling p (inr h)) = sets_live p h
    no-fault (shared c h) = no_cause types vars s fits sound (at_shared c (record {
      live = h.live;
      one = h.one;
      other = h.other;
      apart = h.apart;
      by_one = names_before h.one c h.by_one;
      by_other = names_before h.other c h.by_other;
    }))
    no-fault (leaked c h) = let tree = sound.backbone.reached c h.live in h.unreached tree.0 (tree_now tree.0 c tree.1)
    no-fault (wrong c f h) =
        let x = IsSomeAnd-at (field_value s c f) _ h.wrong in
        x.2 (only_too types s now refl c f x.0 (IfSome-at (field_value s c f) (IsOnlyDestination types s c f) x.0 x.1 (sound.pointers c f h.kind)))

    pub restricted-well_formed : IsWellFormed types vars now
    restricted-well_formed = elim (well_formed_or_fault types vars now restricted-fits) [
      | inl is ↦ is
      | inr fault ↦ absurd (no-fault fault)
    ]

  -- ---- a store without a cause is sound

  pub sound-at_cut : (cut : Cut) → AtCut types vars cut s None → IsSound types vars s
  sound-at_cut cut none = elim (sound_or_cause types vars s fits) [
    | inl sound ↦ sound
    | inr why ↦ absurd (no_why why)
  ]
    where
      no_why : HasCause types vars s → ⊥
      no_why (at_reference p h) = none cause.DanglingRef (record { place = p; dangling = h })
      no_why (at_shared c h) = none cause.Shared (record { cell = c; shared = h })
      no_why (at_leak c h) = none cause.Leak (record { cell = c; leaked = h })
      no_why (at_field c f h) = none cause.Field (record { cell = c; field = f; wrong = h })

  pub well_formed-at_cut : (cut : Cut) → AtCut types vars cut s None → IsWellFormed types vars now
  well_formed-at_cut cut none = restricted-well_formed (sound-at_cut cut none)
