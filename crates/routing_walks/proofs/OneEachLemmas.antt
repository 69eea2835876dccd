-- A field that no backbone with one data variable a type refutes is functional.
use Rattle.std.proofs.Common.{◌≡◌, inl, inr, ◌<◌, ℕ, Bool, true, false, List, [], ◌∷◌, map, length, slice_get, Option, Some, None, IsSome, IsSomeAnd}
use Rattle.std.proofs.Common.{IfSome, refl, sym, ap, ◌∙◌, subst, arith, Contains, nat_eq, if◌then◌else◌}
use Rattle.std.specs.Prelude.{option_map}
use Rattle.std.specs.Option.{option_map_or}
use Rattle.std.proofs.lemmas.Bool.{cases_lt, false≢true}
use Rattle.std.proofs.lemmas.Bool.Decides.{nat_tests}
use Rattle.std.proofs.lemmas.Option.{slice_get-map, slice_get_past, slice_get_within}
use Rattle.store_core.specs.declared.ids.TypeId.{TypeId}
use Rattle.store_core.specs.declared.ids.FieldId.{FieldId}
use Rattle.store_core.specs.declared.ids.VarId.{VarId}
use Rattle.store_core.specs.declared.ids.CellId.{CellId}
use Rattle.store_core.specs.declared.kind.VarKind.{VarKind}
use Rattle.store_core.specs.declared.kind.VarKind.TheVariants as var
use Rattle.store_core.specs.declared.value.Value.{Value}
use Rattle.store_core.specs.declared.value.Value.TheVariants as value
use Rattle.store_core.specs.Tables.{TypeEntry, VarEntry, type_at, count_of_variants, variant_count, var_at}
use Rattle.store_core.specs.Stores.{StoreMap, CellEntry, IsLive, cell_of, field_value, var_value, var_class, blank, NamesType, VarFits, VarsFit, Fits}
use Rattle.store_core.proofs.FittingLemmas.{IfSome-from, IfSome-at, IsSomeAnd-at}
use Rattle.routing_walks.specs.declared.fault.Place.{Place}
use Rattle.routing_walks.specs.declared.fault.Place.TheVariants as place
use Rattle.routing_walks.specs.Walks.{DataAlone, IsOfType, stay}
use Rattle.routing_walks.specs.Destinations.{Dest}
use Rattle.routing_walks.specs.WellFormed.{IsDataVar, Names, IsInTree, VarHoldsLive, IsBackbone, IsFunctional}
use Rattle.routing_walks.specs.Regions.{store_on, IsOn, IsPart, IsApart}
use Rattle.routing_walks.proofs.LiveLemmas.{IsLive-field_value, IsParent-live, Chain-live}
use Rattle.routing_walks.specs.Refuting.{IsOneEach, Refutes}
use Rattle.routing_walks.proofs.DecidedLemmas.{holds_from, in_none, in_first, in_cases}
use Rattle.routing_walks.proofs.DecidedWalks.{decided_same_cell}
use Rattle.routing_walks.proofs.DecidedStores.{part_of}
use Rattle.routing_walks.proofs.RegionLemmas.{store_on-IsOn, live_on, part_apart, dests_on, chain_on}
use Rattle.routing_walks.proofs.RegionLemmas.{value_on as field_on}
use Rattle.routing_walks.proofs.PieceLemmas.{backbone_on, value_off}
use Rattle.routing_walks.proofs.BareLemmas.{bare, refutes_bare}
use Rattle.routing_walks.proofs.FitsOn.{cells_fit_on, above_on}

-- ---- what the variables hold: the root in the variable of its type, and null in all others

held : TypeId → CellId → VarKind → Value
held ty r var.Bool = blank (var_class var.Bool)
held ty r (var.Data target) = value.Cell (if nat_eq target.0 ty.0 then Some r else None)
held ty r (var.Pointer target) = value.Cell None
held ty r (var.LogicSet target) = value.Cells []
held ty r var.LogicBool = blank (var_class var.LogicBool)

itself : (n : ℕ) → nat_eq n n ≡ true
itself n = grind (arith, nat_tests)

same_number : (x y : ℕ) → nat_eq x y ≡ true → x ≡ y
same_number x y e = grind (arith, nat_tests)

-- a type of which there is a variant is in the table
known_type : (types : List TypeEntry) (ty : TypeId) (index : ℕ) → index < variant_count types ty → ty.0 < length types
known_type types ty index less = elim (cases_lt ty.0 (length types)) [
  | inl within ↦ within
  | inr past ↦ absurd (none (type_at types ty) (slice_get_past types ty.0 (omega (arith, past))) less)
]
  where
    none : (o : Option TypeEntry) → o ≡ None → index < option_map_or count_of_variants o 0 → ⊥
    none None e less = omega (arith, less)
    none (Some t) e less = cc

module _ (types : List TypeEntry) (others : List VarEntry) (each : IsOneEach types others) (vars : List VarEntry) (s : StoreMap)
    (fits : Fits types vars s) (backbone : IsBackbone types vars s) (tree : VarId) (r : CellId) (named : Names types vars s (place.Var tree) r)
    (cell : CellEntry) (at : cell_of s r ≡ Some cell) (cells : List CellId) (part : IsPart types vars s (tree ∷ []) cells) where
  -- the tree alone, under the variable of its root's type
  alone : StoreMap
  alone = record (store_on s cells) { vars = map (λ v. held cell.variant.ty r v.kind) others }

  on : IsOn cells s alone
  unfolding alone
  on = let h = store_on-IsOn s cells in record { inside = h.inside; outside = h.outside }

  whole : IsApart types s DataAlone cells
  whole = part_apart types vars s (tree ∷ []) cells part backbone.named_once

  live : IsLive s r
  live = subst IsSome (sym at) refl

  root_in : Contains cells r
  root_in = (part.members r).1 (record {
    root = tree;
    listed = in_first tree [];
    in_tree = record { root = r; named = named; path = stay r live };
  })

  there : cell_of alone r ≡ Some cell
  there = on.inside r root_in ∙ at

  -- ---- fitting

  reference_fits : (target : TypeId) (b : Bool) → nat_eq target.0 cell.variant.ty.0 ≡ b → IfSome (if b then Some r else None) (NamesType alone target)
  reference_fits target true e = subst (λ o. IfSome o (λ (c : CellEntry). c.variant.ty ≡ target)) (sym there)
      (ap (λ (n : ℕ). record { 0 = n }) (sym (same_number target.0 cell.variant.ty.0 e)))
  reference_fits target false e = tt

  var_fits : (kind : VarKind) → VarFits alone kind (held cell.variant.ty r kind)
  unfolding held
  var_fits var.Bool = tt
  var_fits (var.Data target) = reference_fits target (nat_eq target.0 cell.variant.ty.0) refl
  var_fits (var.Pointer target) = tt
  var_fits (var.LogicSet target) = (tt, tt)
  var_fits var.LogicBool = tt

  vars_fit : (vs : List VarEntry) → VarsFit alone vs (map (λ v. held cell.variant.ty r v.kind) vs)
  vars_fit [] = tt
  vars_fit (v ∷ vs) = (var_fits v.kind, vars_fit vs)

  fits_alone : Fits types others alone
  unfolding alone
  fits_alone = record { cells = cells_fit_on cells s alone on types fits.cells; values = vars_fit others; above = above_on cells s alone on refl fits.above }

  -- ---- the backbone

  var_at_alone : (v : VarId) (entry : VarEntry) → var_at others v ≡ Some entry → var_value alone v ≡ Some (held cell.variant.ty r entry.kind)
  unfolding alone
  var_at_alone v entry e = slice_get-map (λ v. held cell.variant.ty r v.kind) others v.0 ∙ ap (option_map (λ v. held cell.variant.ty r v.kind)) e

  reference_holds : (target : TypeId) (b : Bool) → nat_eq target.0 cell.variant.ty.0 ≡ b → IfSome (if b then Some r else None) (IsOfType alone target)
  reference_holds target true e = subst (λ o. IsSomeAnd o (λ (c : CellEntry). c.variant.ty ≡ target)) (sym there)
      (ap (λ (n : ℕ). record { 0 = n }) (sym (same_number target.0 cell.variant.ty.0 e)))
  reference_holds target false e = tt

  var_holds : (kind : VarKind) → VarHoldsLive alone kind (held cell.variant.ty r kind)
  unfolding held
  var_holds var.Bool = tt
  var_holds (var.Data target) = reference_holds target (nat_eq target.0 cell.variant.ty.0) refl
  var_holds (var.Pointer target) = tt
  var_holds (var.LogicSet target) = tt
  var_holds var.LogicBool = tt

  held_root : (target : TypeId) (c : CellId) (b : Bool) → nat_eq target.0 cell.variant.ty.0 ≡ b →
      value.Cell (if b then Some r else None) ≡ value.Cell (Some c) → (target.0 ≡ cell.variant.ty.0) × (r ≡ c)
  held_root target c true e is = (same_number target.0 cell.variant.ty.0 e, cc)
  held_root target c false e is = absurd (cc)

  held_data : (kind : VarKind) (i : ℕ) (c : CellId) → kind ≡ var.Data (record { 0 = i }) → held cell.variant.ty r kind ≡ value.Cell (Some c) →
      (i ≡ cell.variant.ty.0) × (r ≡ c)
  unfolding held
  held_data kind i c is holds = let h : held cell.variant.ty r (var.Data (record { 0 = i })) ≡ value.Cell (Some c) =
      subst (λ k. held cell.variant.ty r k ≡ value.Cell (Some c)) is holds in
      held_root (record { 0 = i }) c (nat_eq i cell.variant.ty.0) refl h

  -- a variable that names a cell is that of the root's type, and the cell is the root
  var_names : (v : VarId) (c : CellId) → Names types others alone (place.Var v) c → (v.0 ≡ cell.variant.ty.0) × (r ≡ c)
  var_names v c names =
      let entry = IsSomeAnd-at (var_at others v) (λ entry. IsDataVar entry.kind) names.place in
      let within : v.0 < length types = subst (λ n. v.0 < n) each.count (slice_get_within others v.0 entry.0 entry.1) in
      let kind = IsSomeAnd-at (slice_get others v.0) _ (each.each v.0 within) in
      let same : entry.0 ≡ kind.0 = let both : Some entry.0 ≡ Some kind.0 = sym entry.1 ∙ kind.1 in cc in
      let holds : held cell.variant.ty r entry.0.kind ≡ value.Cell (Some c) =
      let both : Some (held cell.variant.ty r entry.0.kind) ≡ Some (value.Cell (Some c)) = sym (var_at_alone v entry.0 entry.1) ∙ names.value in cc in
      held_data entry.0.kind v.0 c (ap (λ (e : VarEntry). e.kind) same ∙ kind.2) holds

  old_name : (a : CellId) (f : FieldId) (c : CellId) → Names types others alone (place.Field a f) c → Names types vars s (place.Field a f) c
  unfolding alone
  old_name a f c h = record { place = h.place; value = (value_off cells s a f _ h.value).1 }

  apart : (a : CellId) (f : FieldId) → place.Var tree ≡ place.Field a f → ⊥
  apart a f e = cc

  named_once : (c : CellId) (p q : Place) → IsLive alone c → Names types others alone p c → Names types others alone q c → p ≡ q
  named_once c (place.Var v) (place.Var w) lives by_p by_q =
      ap (λ (n : ℕ). place.Var (record { 0 = n })) ((var_names v c by_p).0 ∙ sym (var_names w c by_q).0)
  named_once c (place.Var v) (place.Field a f) lives by_p by_q = absurd (apart a f (backbone.named_once c (place.Var tree) (place.Field a f)
      (live_on cells s alone on c lives).1 (subst (λ x. Names types vars s (place.Var tree) x) (var_names v c by_p).1 named) (old_name a f c by_q)))
  named_once c (place.Field a f) (place.Var v) lives by_p by_q = absurd (apart a f (backbone.named_once c (place.Var tree) (place.Field a f)
      (live_on cells s alone on c lives).1 (subst (λ x. Names types vars s (place.Var tree) x) (var_names v c by_q).1 named) (old_name a f c by_p)))
  named_once c (place.Field a f) (place.Field b g) lives by_p by_q =
      backbone.named_once c (place.Field a f) (place.Field b g) (live_on cells s alone on c lives).1 (old_name a f c by_p) (old_name b g c by_q)

  root_var : VarId
  root_var = record { 0 = cell.variant.ty.0 }

  root_named : Names types others alone (place.Var root_var) r
  unfolding root_var held
  root_named =
      let fit = IfSome-at (cell_of s r) _ cell at (fits.cells r) in
      let entry = IsSomeAnd-at (slice_get others cell.variant.ty.0) _
      (each.each cell.variant.ty.0 (known_type types cell.variant.ty cell.variant.index fit.variant)) in
      record {
        place = subst (λ o. IsSomeAnd o (λ (e : VarEntry). IsDataVar e.kind)) (sym entry.1) (subst IsDataVar (sym entry.2) tt);
        value = var_at_alone root_var entry.0 entry.1 ∙ ap (λ k. Some (held cell.variant.ty r k)) entry.2
            ∙ ap (λ b. Some (value.Cell (if b then Some r else None))) (itself cell.variant.ty.0);
      }

  reached : (c : CellId) → IsLive alone c → (v : VarId) × IsInTree types others alone v c
  unfolding alone
  reached c lives =
      let h = (part.members c).0 (live_on cells s alone on c lives).0 in
      let is_tree : tree ≡ h.root = elim (in_cases tree h.root [] h.listed) [ inl e ↦ e | inr m ↦ absurd (in_none h.root m) ] in
      let root = subst (λ v. Names types vars s (place.Var v) h.in_tree.root) (sym is_tree) h.in_tree.named in
      let same : r ≡ h.in_tree.root = let both : Some (value.Cell (Some r)) ≡ Some (value.Cell (Some h.in_tree.root)) = sym named.value ∙ root.value in cc in (
        root_var,
        record {
          root = h.in_tree.root;
          named = subst (λ x. Names types others alone (place.Var root_var) x) same root_named;
          path = (chain_on cells s alone on types whole h.in_tree.path (live_on cells s alone on c lives).0).1;
        },
      )

  backbone_alone : IsBackbone types others alone
  unfolding alone
  backbone_alone = record {
    cell_vars = λ v. IfSome-from (var_at others v) _ (λ entry e.
        subst (λ o. IfSome o (VarHoldsLive alone entry.kind)) (sym (var_at_alone v entry e)) (var_holds entry.kind));
    data_fields = (backbone_on cells s types vars whole backbone).data_fields;
    named_once = named_once;
    reached = reached;
  }

  -- what refutes a field on the store refutes it on the tree
  pub refutes_alone : (f : FieldId) (c d e : CellId) → Contains cells c → IsSomeAnd (field_value s c f) (λ x. Unit {0}) → (d ≡ e → ⊥) →
      Dest types s c f d → Dest types s c f e → (t : StoreMap) × Refutes types others t f
  refutes_alone f c d e m has apart one other = (
    bare types alone,
    refutes_bare types others alone fits_alone f c d e backbone_alone
        (subst (λ o. IsSomeAnd o (λ x. Unit {0})) (sym (field_on cells s alone on c f m)) has) apart
        ((dests_on types DataAlone cells s alone on whole c f d m).0 one) ((dests_on types DataAlone cells s alone on whole c f e m).0 other),
  )

opened : {X : Type 0} (o : Option X) → IsSome o → (x : X) × (o ≡ Some x)
opened None h = absurd (false≢true h)
opened (Some x) h = (x, refl)

pub functional_from : (types : List TypeEntry) (others : List VarEntry) (f : FieldId) → IsOneEach types others →
    ((t : StoreMap) → Refutes types others t f → ⊥) → IsFunctional types f
functional_from types others f each none = record {
  at_most_one = λ vars s fits backbone c d e has one other. holds_from (decided_same_cell d e) (λ apart.
      let x = IsSomeAnd-at (field_value s c f) _ has in
      let tree = backbone.reached c (IsLive-field_value s c f x.0 x.1) in
      let cells = part_of types vars s (tree.0 ∷ []) in
      let cell = opened (cell_of s tree.1.root) (Chain-live (IsParent-live types s) tree.1.path).0 in
      let t = refutes_alone types others each vars s fits backbone tree.0 tree.1.root tree.1.named cell.0 cell.1 cells.0 cells.1 f c d e
      ((cells.1.members c).1 (record { root = tree.0; listed = in_first tree.0 []; in_tree = tree.1 })) has apart one other in
      none t.0 t.1);
}

pub functional_refuted : (types : List TypeEntry) (others : List VarEntry) (f : FieldId) → IsFunctional types f → (t : StoreMap) → Refutes types others t f → ⊥
functional_refuted types others f functional t h =
    h.apart (functional.at_most_one others t h.fits h.backbone h.cell h.one h.other h.has h.to_one h.to_other)
