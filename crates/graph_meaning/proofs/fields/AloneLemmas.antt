-- The tree of a cell with two destinations, alone under the variable of its root's type: a backbone with no more cells.
use Rattle.std.proofs.Common.{◌≡◌, inl, inr, ℕ, ◌<◌, ◌≤◌, Bool, true, false, List, [], ◌∷◌, map, length, slice_get, Option, Some, None}
use Rattle.std.proofs.Common.{IsSomeAnd, IfSome, Contains, nat_eq, if◌then◌else◌, refl, sym, ap, ◌∙◌, subst, arith}
use Rattle.std.specs.Prelude.{IsSome, option_map}
use Rattle.std.specs.FinMap.{keys}
use Rattle.std.proofs.lemmas.Bool.{cases_lt, false≢true}
use Rattle.std.proofs.lemmas.Bool.Decides.{nat_tests}
use Rattle.std.proofs.lemmas.Option.{slice_get-map, slice_get_within}
use Rattle.gta_theory.proofs.AssignmentsLemmas.{Covers-finite}
use Rattle.gta_theory.proofs.CountingLemmas.{matched-le}
use Rattle.store_core.specs.declared.ids.TypeId.{TypeId}
use Rattle.store_core.specs.declared.ids.FieldId.{FieldId}
use Rattle.store_core.specs.declared.ids.VarId.{VarId}
use Rattle.store_core.specs.declared.ids.CellId.{CellId}
use Rattle.store_core.specs.declared.kind.VarKind.{VarKind}
use Rattle.store_core.specs.declared.kind.VarKind.TheVariants as var
use Rattle.store_core.specs.declared.value.Value.{Value}
use Rattle.store_core.specs.declared.value.Value.TheVariants as value
use Rattle.store_core.specs.Tables.{TypeEntry, VarEntry, IsTypeTable, var_at}
use Rattle.store_core.specs.Stores.{StoreMap, CellEntry, IsLive, Fits, VarFits, VarsFit, NamesType, CellFits, cell_of, var_value}
use Rattle.store_core.proofs.FittingLemmas.{IfSome-from, IfSome-at, IsSomeAnd-at}
use Rattle.routing_walks.specs.declared.fault.Place.TheVariants as place
use Rattle.routing_walks.specs.Walks.{DataAlone, IsOfType, IsParent, IsRoot, Chain, stay, go}
use Rattle.routing_walks.specs.WellFormed.{IsDataVar, Names, VarHoldsLive, IsBackbone}
use Rattle.routing_walks.specs.Regions.{store_on, IsOn, IsPart, IsApart}
use Rattle.routing_walks.proofs.KeyLemmas.{keys-rise, key_of_live, live_of_key}
use Rattle.routing_walks.proofs.LiveLemmas.{IsParent-live, Chain-live}
use Rattle.routing_walks.specs.Refuting.{IsOneEach}
use Rattle.routing_walks.specs.Hanging.{NamesRoots}
use Rattle.routing_walks.proofs.DecidedLemmas.{in_none, in_first, in_cases}
use Rattle.routing_walks.proofs.DecidedStores.{part_of}
use Rattle.routing_walks.proofs.RegionLemmas.{store_on-IsOn, live_on, on_live, part_apart, part_closed, dests_on, chain_on, leads_off}
use Rattle.routing_walks.proofs.RegionLemmas.{value_on as field_on}
use Rattle.routing_walks.proofs.HangingLemmas.{no_parent, backbone_hangs}
use Rattle.routing_walks.proofs.FitsOn.{cells_fit_on, above_on}
use Rattle.tree_store.proofs.TablesLemmas.{type-known}
use Rattle.tree_store.proofs.SpotsLemmas.{present}
use Rattle.tree_store.proofs.WeighingLemmas.{weight-cells}
use Rattle.graph_meaning.specs.Fields.Forking.{Forks, HasFork, HasLightTree}
use Rattle.graph_meaning.proofs.fields.AssignmentLemmas.{assignment}
use Rattle.graph_meaning.proofs.fields.ForkingLemmas.{live-with, field_formula-store}
use Rattle.graph_meaning.proofs.fields.FunctionalLemmas.{no-sets}

-- ---- what the variables hold: the root in the variable of its type, and null in all others

abbrev held : TypeId → CellId → VarKind → Value
held ty r var.Bool = value.Bool false
held ty r (var.Data target) = value.Cell (if nat_eq target.0 ty.0 then Some r else None)
held ty r (var.Pointer target) = value.Cell None
held ty r (var.LogicSet target) = value.Cells []
held ty r var.LogicBool = value.Bool false

itself : (n : ℕ) → nat_eq n n ≡ true
itself n = grind (arith, nat_tests)

same_number : (x y : ℕ) → nat_eq x y ≡ true → x ≡ y
same_number x y e = grind (arith, nat_tests)

abbrev cell_numbered : ℕ → CellId
cell_numbered n = record { 0 = n }

-- a chain of data fields to a root is no step long
chain-root : (types : List TypeEntry) (t : StoreMap) (a b : CellId) → IsRoot types t b → Chain t (IsParent types t) a b → a ≡ b
chain-root types t a b root (stay c live) = refl
chain-root types t a b root (go c d e step chain) =
    let same : d ≡ b = chain-root types t d b root chain in
    absurd (root.alone c (subst (λ x. IsParent types t c x) same step))

module _ (types : List TypeEntry) (vars : List VarEntry) (each : IsOneEach types vars) (others : List VarEntry) (s : StoreMap)
    (fits : Fits types others s) (backbone : IsBackbone types others s) (tree : VarId) (r : CellId) (named : Names types others s (place.Var tree) r)
    (cell : CellEntry) (at : cell_of s r ≡ Some cell) (cells : List CellId) (part : IsPart types others s (tree ∷ []) cells) where
  abbrev alone : StoreMap
  alone = record (store_on s cells) { vars = map (λ (v : VarEntry). held cell.variant.ty r v.kind) vars }

  on : IsOn cells s alone
  on = let h = store_on-IsOn s cells in record { inside = h.inside; outside = h.outside }

  whole : IsApart types s DataAlone cells
  whole = part_apart types others s (tree ∷ []) cells part backbone.named_once

  root-live : IsLive s r
  root-live = subst IsSome (sym at) refl

  root_in : Contains cells r
  root_in = (part.members r).1 (record {
    root = tree;
    listed = in_first tree [];
    in_tree = record { root = r; named = named; path = stay r root-live };
  })

  there : cell_of alone r ≡ Some cell
  there = on.inside r root_in ∙ at

  -- ---- fitting

  reference_fits : (target : TypeId) (b : Bool) → nat_eq target.0 cell.variant.ty.0 ≡ b → IfSome (if b then Some r else None) (NamesType alone target)
  reference_fits target true e = subst (λ o. IfSome o (λ (c : CellEntry). c.variant.ty ≡ target)) (sym there)
      (ap (λ (n : ℕ). record { 0 = n }) (sym (same_number target.0 cell.variant.ty.0 e)))
  reference_fits target false e = tt

  var_fits : (kind : VarKind) → VarFits alone kind (held cell.variant.ty r kind)
  var_fits var.Bool = tt
  var_fits (var.Data target) = reference_fits target (nat_eq target.0 cell.variant.ty.0) refl
  var_fits (var.Pointer target) = tt
  var_fits (var.LogicSet target) = (tt, tt)
  var_fits var.LogicBool = tt

  vars_fit : (vs : List VarEntry) → VarsFit alone vs (map (λ (v : VarEntry). held cell.variant.ty r v.kind) vs)
  vars_fit [] = tt
  vars_fit (v ∷ vs) = (var_fits v.kind, vars_fit vs)

  fits_alone : Fits types vars alone
  fits_alone = record { cells = cells_fit_on cells s alone on types fits.cells; values = vars_fit vars; above = above_on cells s alone on refl fits.above }

  -- ---- the variables name the root

  value_alone : (v : VarId) (entry : VarEntry) → var_at vars v ≡ Some entry → var_value alone v ≡ Some (held cell.variant.ty r entry.kind)
  value_alone v entry e =
      slice_get-map (λ (w : VarEntry). held cell.variant.ty r w.kind) vars v.0 ∙ ap (option_map (λ (w : VarEntry). held cell.variant.ty r w.kind)) e

  reference_holds : (target : TypeId) (b : Bool) → nat_eq target.0 cell.variant.ty.0 ≡ b → IfSome (if b then Some r else None) (IsOfType alone target)
  reference_holds target true e = subst (λ o. IsSomeAnd o (λ (c : CellEntry). c.variant.ty ≡ target)) (sym there)
      (ap (λ (n : ℕ). record { 0 = n }) (sym (same_number target.0 cell.variant.ty.0 e)))
  reference_holds target false e = tt

  var_holds : (kind : VarKind) → VarHoldsLive alone kind (held cell.variant.ty r kind)
  var_holds var.Bool = tt
  var_holds (var.Data target) = reference_holds target (nat_eq target.0 cell.variant.ty.0) refl
  var_holds (var.Pointer target) = tt
  var_holds (var.LogicSet target) = tt
  var_holds var.LogicBool = tt

  held_root : (target : TypeId) (c : CellId) (b : Bool) → nat_eq target.0 cell.variant.ty.0 ≡ b →
      value.Cell (if b then Some r else None) ≡ value.Cell (Some c) → (target.0 ≡ cell.variant.ty.0) × (r ≡ c)
  held_root target c true e is = (same_number target.0 cell.variant.ty.0 e, cc)
  held_root target c false e is = absurd (cc)

  -- a variable that names a cell is that of the root's type, and the cell is the root
  var_names : (v : VarId) (c : CellId) → Names types vars alone (place.Var v) c → (v.0 ≡ cell.variant.ty.0) × (r ≡ c)
  var_names v c names =
      let (entry, found, is_data) = IsSomeAnd-at (var_at vars v) (λ e. IsDataVar e.kind) names.place in
      let inside : v.0 < length types = subst (λ n. v.0 < n) each.count (slice_get_within vars v.0 entry found) in
      let (own, also, kind) = IsSomeAnd-at (var_at vars v) (λ e. e.kind ≡ var.Data (record { 0 = v.0 })) (each.each v.0 inside) in
      let two : Some own ≡ Some entry = sym also ∙ found in
      let same : own ≡ entry = cc in
      let of_kind : entry.kind ≡ var.Data (record { 0 = v.0 }) = sym (ap (λ (e : VarEntry). e.kind) same) ∙ kind in
      let both : Some (held cell.variant.ty r entry.kind) ≡ Some (value.Cell (Some c)) = sym (value_alone v entry found) ∙ names.value in
      let holds : held cell.variant.ty r entry.kind ≡ value.Cell (Some c) = cc in
      held_root (record { 0 = v.0 }) c (nat_eq v.0 cell.variant.ty.0) refl (subst (λ k. held cell.variant.ty r k ≡ value.Cell (Some c)) of_kind holds)

  abbrev root_var : VarId
  root_var = record { 0 = cell.variant.ty.0 }

  root_named : Names types vars alone (place.Var root_var) r
  root_named =
      let fit = IfSome-at (cell_of s r) (CellFits types s) cell at (fits.cells r) in
      let (entry, found, kind) = IsSomeAnd-at (var_at vars root_var) (λ e. e.kind ≡ var.Data (record { 0 = cell.variant.ty.0 }))
      (each.each cell.variant.ty.0 (type-known types cell.variant.ty cell.variant.index fit.variant)) in
      record {
        place = subst (λ o. IsSomeAnd o (λ (e : VarEntry). IsDataVar e.kind)) (sym found) (subst IsDataVar (sym kind) tt);
        value = value_alone root_var entry found ∙ ap (λ k. Some (held cell.variant.ty r k)) kind
            ∙ ap (λ b. Some (value.Cell (if b then Some r else None))) (itself cell.variant.ty.0);
      }

  -- what no data field leads to is the root
  root-is : (c : CellId) → IsRoot types alone c → r ≡ c
  root-is c root =
      let inside = (live_on cells s alone on c root.live).0 in
      let h = (part.members c).0 inside in
      let is_tree : tree ≡ h.root = elim (in_cases tree h.root [] h.listed) [ inl e ↦ e | inr m ↦ absurd (in_none h.root m) ] in
      let first = subst (λ v. Names types others s (place.Var v) h.in_tree.root) (sym is_tree) h.in_tree.named in
      let both : Some (value.Cell (Some r)) ≡ Some (value.Cell (Some h.in_tree.root)) = sym named.value ∙ first.value in
      let same : r ≡ h.in_tree.root = cc in
      same ∙ chain-root types alone h.in_tree.root c root (chain_on cells s alone on types whole h.in_tree.path inside).1

  names-roots : NamesRoots types vars alone
  names-roots = record {
    holds = λ v. IfSome-from (var_at vars v) (λ entry. IfSome (var_value alone v) (VarHoldsLive alone entry.kind)) (λ entry e.
        subst (λ o. IfSome o (VarHoldsLive alone entry.kind)) (sym (value_alone v entry e)) (var_holds entry.kind));
    each = λ c root. (root_var, subst (λ x. Names types vars alone (place.Var root_var) x) (root-is c root) root_named);
    once = λ c v w by_v by_w. ap (λ (n : ℕ). record { 0 = n }) ((var_names v c by_v).0 ∙ sym (var_names w c by_w).0);
    alone = λ v c names. subst (IsRoot types alone) (var_names v c names).1 (record {
      live = on_live cells s alone on r root_in root-live;
      alone = λ parent p. no_parent types others s backbone tree parent r named
          (record { field = p.field; leads = (leads_off cells s alone on types DataAlone p.field parent r p.leads).2 });
    });
  }

  backbone_alone : IsBackbone types vars alone
  backbone_alone = backbone_hangs types others s alone cells on (part_closed types others s (tree ∷ []) cells part) backbone vars names-roots

  -- ---- what it has

  forks_alone : (f : FieldId) (c : CellId) → Contains cells c → Forks types s f c → Forks types alone f c
  forks_alone f c inside fork = record {
    has = subst IsSome (sym (field_on cells s alone on c f inside)) fork.has;
    one = fork.one;
    other = fork.other;
    apart = fork.apart;
    to_one = (dests_on types DataAlone cells s alone on whole c f fork.one inside).0 fork.to_one;
    to_other = (dests_on types DataAlone cells s alone on whole c f fork.other inside).0 fork.to_other;
  }

  -- the cell at the one place is that at the other
  abbrev IsSameCell : ℕ → ℕ → Type 0
  IsSameCell i j = (c : CellId) × (slice_get (keys alone.cells) i ≡ Some c.0) × (slice_get (keys s.cells) j ≡ Some c.0)

  fewer : length (keys alone.cells) ≤ length (keys s.cells)
  fewer = matched-le (length (keys s.cells)) (length (keys alone.cells)) IsSameCell (record { partner = partner; once = once })
    where
      partner : (i : ℕ) → i < length (keys alone.cells) → (j : ℕ) × (j < length (keys s.cells)) × IsSameCell i j
      partner i inside =
          let (number, found) = present (keys alone.cells) i inside in
          let live = (live_on cells s alone on (cell_numbered number) (live_of_key alone (cell_numbered number) i found)).1 in
          let (j, also) = key_of_live s (cell_numbered number) live in
          (j, slice_get_within (keys s.cells) j number also, (cell_numbered number, found, also))

      once : (i k j : ℕ) → IsSameCell i j → IsSameCell k j → i ≡ k
      once i k j (c, at_i, at_j) (d, at_k, also_j) =
          let both : Some c.0 ≡ Some d.0 = sym at_j ∙ also_j in
          let same : c.0 ≡ d.0 = cc in
          elim (cases_lt i k) as (λ _. i ≡ k) [
            | inl less ↦ absurd (let below : c.0 < d.0 = keys-rise alone i k c.0 d.0 less at_i at_k in omega (arith, below, same))
            | inr le ↦ elim (cases_lt k i) as (λ _. i ≡ k) [
              | inl more ↦ absurd (let below : d.0 < c.0 = keys-rise alone k i d.0 c.0 more at_k at_i in omega (arith, below, same))
              | inr ge ↦ omega (arith, le, ge)
            ]
          ]

opened : {X : Type 0} (o : Option X) → IsSome o → (x : X) × (o ≡ Some x)
opened None h = absurd (false≢true h)
opened (Some x) h = (x, refl)

module _ (types : List TypeEntry) (vars others : List VarEntry) (s : StoreMap) (f : FieldId) (table : IsTypeTable types) (each : IsOneEach types vars)
    (fits : Fits types others s) (backbone : IsBackbone types others s) where
  of-tree : (t : StoreMap) → Fits types vars t → IsBackbone types vars t → HasFork types t f → length (keys t.cells) ≤ length (keys s.cells) →
      HasLightTree types vars f s
  of-tree t fits_t backbone_t fork fewer_t =
      let (depth, a, covers, means) = assignment types vars t backbone_t in
      record {
        depth = depth;
        sets = a;
        covered = covers;
        satisfies = (field_formula-store types vars a f table (Covers-finite depth a covers) t fits_t backbone_t (no-sets types vars t each) means).1 fork;
        light = λ tracks are.
            subst (λ n. n ≤ length (keys s.cells)) (sym (weight-cells types vars t a tracks depth fits_t backbone_t means are covers)) fewer_t;
      }

  pub light-tree : HasFork types s f → HasLightTree types vars f s
  light-tree (c, fork) =
      let (v, in_tree) = backbone.reached c (live-with s c f fork.has) in
      let (cells, part) = part_of types others s (v ∷ []) in
      let (cell, at) = opened (cell_of s in_tree.root) (Chain-live (IsParent-live types s) in_tree.path).0 in
      let inside = (part.members c).1 (record { root = v; listed = in_first v []; in_tree = in_tree }) in
      of-tree (alone types vars each others s fits backbone v in_tree.root in_tree.named cell at cells part)
      (fits_alone types vars each others s fits backbone v in_tree.root in_tree.named cell at cells part)
      (backbone_alone types vars each others s fits backbone v in_tree.root in_tree.named cell at cells part)
      (c, forks_alone types vars each others s fits backbone v in_tree.root in_tree.named cell at cells part f c inside fork)
      (fewer types vars each others s fits backbone v in_tree.root in_tree.named cell at cells part)
