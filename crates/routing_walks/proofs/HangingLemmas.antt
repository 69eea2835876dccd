-- A store with cells of a backbone, under variables that name its roots.
use Rattle.std.proofs.Common.{◌≡◌, inl, inr, List, Some, None, IsSomeAnd, IfSome, refl, sym, ap, ◌∙◌, subst, Contains}
use Rattle.store_core.specs.declared.ids.TypeId.{TypeId}
use Rattle.store_core.specs.declared.ids.FieldId.{FieldId}
use Rattle.store_core.specs.declared.ids.VarId.{VarId}
use Rattle.store_core.specs.declared.ids.CellId.{CellId}
use Rattle.store_core.specs.declared.kind.FieldKind.{FieldKind}
use Rattle.store_core.specs.declared.kind.FieldKind.TheVariants as field
use Rattle.store_core.specs.declared.value.Value.{Value}
use Rattle.store_core.specs.declared.value.Value.TheVariants as value
use Rattle.store_core.specs.Tables.{TypeEntry, VarEntry, FieldEntry, field_at}
use Rattle.store_core.specs.Stores.{StoreMap, IsLive, field_value}
use Rattle.store_core.proofs.FittingLemmas.{IfSome-from, IfSome-at}
use Rattle.routing_walks.specs.declared.fault.Place.{Place}
use Rattle.routing_walks.specs.declared.fault.Place.TheVariants as place
use Rattle.routing_walks.specs.Walks.{DataAlone, IsFollowed, Leads, IsParent, IsOfType, IsRoot, Chain, stay}
use Rattle.routing_walks.specs.Destinations.{IsOnlyDestination}
use Rattle.routing_walks.specs.WellFormed.{Names, FieldHoldsLive, IsBackbone, IsWellFormed}
use Rattle.routing_walks.specs.CutFaults.{IsSound}
use Rattle.routing_walks.specs.Regions.{IsOn, IsClosedUnderFields, IsApart}
use Rattle.routing_walks.proofs.LiveLemmas.{IsLive-field_value, IsParent-live, IsOfType-live, Chain-live}
use Rattle.routing_walks.proofs.TreeLemmas.{Names-Leads, Leads-Names, Back, here, step_to, Back-Chain, Chain-then}
use Rattle.routing_walks.specs.Hanging.{NamesRoots, AreHeld}
use Rattle.routing_walks.proofs.DecidedLemmas.{decided_in}
use Rattle.routing_walks.proofs.DecidedWalks.{decided_same_cell}
use Rattle.routing_walks.proofs.RegionLemmas.{live_on, value_on, leads_off, leads_on, only_on}
use Rattle.routing_walks.proofs.FitsOn.{cells_fit_on}

field_place : (a b : CellId) (f g : FieldId) → place.Field a f ≡ place.Field b g → a ≡ b
field_place a b f g e = cc

var_or_field : (v : VarId) (a : CellId) (f : FieldId) → place.Var v ≡ place.Field a f → ⊥
var_or_field v a f e = cc

-- ---- what a backbone says of the data fields that lead to a cell

module _ (types : List TypeEntry) (vars : List VarEntry) (s : StoreMap) (backbone : IsBackbone types vars s) where
  pub one_parent : (f g : FieldId) (a b c : CellId) → Leads types s DataAlone f a c → Leads types s DataAlone g b c → place.Field a f ≡ place.Field b g
  one_parent f g a b c one other = backbone.named_once c (place.Field a f) (place.Field b g) one.live
      (Names-Leads types vars s f a c one) (Names-Leads types vars s g b c other)

  pub no_parent : (v : VarId) (a c : CellId) → Names types vars s (place.Var v) c → IsParent types s a c → ⊥
  no_parent v a c named parent = var_or_field v a parent.field
      (backbone.named_once c (place.Var v) (place.Field a parent.field) parent.leads.live named (Names-Leads types vars s parent.field a c parent.leads))

  -- a data field holds null or a live cell of its type
  pub data_held : (c : CellId) (f : FieldId) (entry : FieldEntry) (x : Value) → field_at types f ≡ Some entry → field_value s c f ≡ Some x →
      FieldHoldsLive s entry.kind x
  data_held c f entry x at holds =
      IfSome-at (field_value s c f) (FieldHoldsLive s entry.kind) x holds (IfSome-at (field_at types f) _ entry at (backbone.data_fields c f))

-- ---- variables that name the roots

module _ (types : List TypeEntry) (vars : List VarEntry) (t : StoreMap) (named : NamesRoots types vars t)
    (data_fields : (c : CellId) (f : FieldId) → IfSome (field_at types f) (λ entry. IfSome (field_value t c f) (FieldHoldsLive t entry.kind)))
    (once : (f g : FieldId) (a b c : CellId) → Leads types t DataAlone f a c → Leads types t DataAlone g b c → place.Field a f ≡ place.Field b g)
    (rooted : (c : CellId) → IsLive t c → (root : CellId) × IsRoot types t root × Chain t (IsParent types t) root c) where
  never_both : (v : VarId) (a : CellId) (f : FieldId) (c : CellId) → IsLive t c → Names types vars t (place.Var v) c →
      Names types vars t (place.Field a f) c → ⊥
  never_both v a f c live by_v by_f = (named.alone v c by_v).alone a (record { field = f; leads = Leads-Names types vars t f a c live by_f })

  named_once : (c : CellId) (p q : Place) → IsLive t c → Names types vars t p c → Names types vars t q c → p ≡ q
  named_once c (place.Var v) (place.Var w) live by_p by_q = ap (λ x. place.Var x) (named.once c v w by_p by_q)
  named_once c (place.Var v) (place.Field b g) live by_p by_q = absurd (never_both v b g c live by_p by_q)
  named_once c (place.Field a f) (place.Var w) live by_p by_q = absurd (never_both w a f c live by_q by_p)
  named_once c (place.Field a f) (place.Field b g) live by_p by_q =
      once f g a b c (Leads-Names types vars t f a c live by_p) (Leads-Names types vars t g b c live by_q)

  pub backbone_by_roots : IsBackbone types vars t
  backbone_by_roots = record {
    cell_vars = named.holds;
    data_fields = data_fields;
    named_once = named_once;
    reached = λ c live.
        let way = rooted c live in
        let v = named.each way.0 way.1 in
        (v.0, record { root = way.0; named = v.1; path = way.2 });
  }

-- ---- a set that is closed under data fields

module _ (types : List TypeEntry) (vars : List VarEntry) (s t : StoreMap) (cells : List CellId) (on : IsOn cells s t)
    (closed : IsClosedUnderFields types s cells) (backbone : IsBackbone types vars s) where
  type_on : (target : TypeId) (c : CellId) → Contains cells c → IsOfType s target c → IsOfType t target c
  type_on target c m h = subst (λ o. IsSomeAnd o (λ cell. cell.variant.ty ≡ target)) (sym (on.inside c m)) h

  held_on : (c : CellId) (f : FieldId) (entry : FieldEntry) (kind : FieldKind) (x : Value) → field_at types f ≡ Some entry → entry.kind ≡ kind →
      Contains cells c → field_value s c f ≡ Some x → FieldHoldsLive s kind x → FieldHoldsLive t kind x
  held_on c f entry field.Bool x at is m holds h = tt
  held_on c f entry (field.Data target) (value.Bool truth) at is m holds h = h
  held_on c f entry (field.Data target) (value.Cell None) at is m holds h = tt
  held_on c f entry (field.Data target) (value.Cell (Some d)) at is m holds h =
      let kind = subst (λ o. IsSomeAnd o (λ e. IsFollowed DataAlone e.kind)) (sym at) (subst (IsFollowed DataAlone) (sym is) tt) in
      let leads : Leads types s DataAlone f c d = record { kind = kind; value = holds; live = IsOfType-live types s target d h } in
      type_on target d (closed c d m (record { field = f; leads = leads })) h
  held_on c f entry (field.Data target) (value.Cells others) at is m holds h = h
  held_on c f entry (field.Pointer target along) x at is m holds h = tt

  value_there : (c : CellId) (f : FieldId) (x : Value) → field_value t c f ≡ Some x → Contains cells c × (field_value s c f ≡ Some x)
  value_there c f x holds =
      let m = (live_on cells s t on c (IsLive-field_value t c f x holds)).0 in
      (m, sym (value_on cells s t on c f m) ∙ holds)

  data_fields_on : (c : CellId) (f : FieldId) → IfSome (field_at types f) (λ entry. IfSome (field_value t c f) (FieldHoldsLive t entry.kind))
  data_fields_on c f = IfSome-from (field_at types f) _ (λ entry at. IfSome-from (field_value t c f) (FieldHoldsLive t entry.kind) (λ x holds.
      let off = value_there c f x holds in
      held_on c f entry entry.kind x at refl off.0 off.1 (data_held types vars s backbone c f entry x at off.1)))

  once_on : (f g : FieldId) (a b c : CellId) → Leads types t DataAlone f a c → Leads types t DataAlone g b c → place.Field a f ≡ place.Field b g
  once_on f g a b c one other = one_parent types vars s backbone f g a b c
      (leads_off cells s t on types DataAlone f a c one).2 (leads_off cells s t on types DataAlone g b c other).2

  -- the cell of the set at which a path enters it is a root there
  root_on : (v : VarId) (root : CellId) → Names types vars s (place.Var v) root → {c : CellId} → Back s (IsParent types s) root c →
      Contains cells c → IsLive t c → (start : CellId) × IsRoot types t start × Chain t (IsParent types t) start c
  root_on v root named (here h) m live = (
    root,
    record {
      live = live;
      alone = λ a parent. no_parent types vars s backbone v a root named
          (record { field = parent.field; leads = (leads_off cells s t on types DataAlone parent.field a root parent.leads).2 });
    },
    stay root live,
  )
  root_on v root named (step_to b c back step) m live = elim (decided_in decided_same_cell cells b) [
    | inl from ↦
        let leads = leads_on cells s t on types DataAlone step.field b c from m step.leads in
        let way = root_on v root named back from (IsLive-field_value t b step.field _ leads.value) in
        (way.0, way.1, Chain-then live way.2 (record { field = step.field; leads = leads }))
    | inr out ↦ (
      c,
      record {
        live = live;
        alone = λ a parent.
            let off = leads_off cells s t on types DataAlone parent.field a c parent.leads in
            let same = field_place a b parent.field step.field (one_parent types vars s backbone parent.field step.field a b c off.2 step.leads) in
            out (subst (λ x. Contains cells x) same off.0);
      },
      stay c live,
    )
  ]

  rooted_on : (c : CellId) → IsLive t c → (root : CellId) × IsRoot types t root × Chain t (IsParent types t) root c
  rooted_on c live =
      let off = live_on cells s t on c live in
      let tree = backbone.reached c off.1 in
      root_on tree.0 tree.1.root tree.1.named (Back-Chain (Chain-live (IsParent-live types s) tree.1.path).0 tree.1.path) off.0 live

  pub backbone_hangs : (others : List VarEntry) → NamesRoots types others t → IsBackbone types others t
  backbone_hangs others named = backbone_by_roots types others t named data_fields_on once_on rooted_on

-- ---- a set that no data field leads into or out of

module _ (types : List TypeEntry) (vars others : List VarEntry) (s t : StoreMap) (cells : List CellId) (on : IsOn cells s t)
    (whole : IsApart types s DataAlone cells) (named : NamesRoots types others t) where
  closed_by : IsClosedUnderFields types s cells
  closed_by a b m parent = (whole parent.field a b parent.leads).0 m

  pub sound_hangs : IsSound types vars s → IsSound types others t
  sound_hangs sound = record {
    backbone = backbone_hangs types vars s t cells on closed_by sound.backbone others named;
    pointers = λ c f pointer. IfSome-from (field_value t c f) (IsOnlyDestination types t c f) (λ x holds.
        let off = value_there types vars s t cells on closed_by sound.backbone c f x holds in
        (only_on types DataAlone cells s t on whole c f x off.0).0
        (IfSome-at (field_value s c f) (IsOnlyDestination types s c f) x off.1 (sound.pointers c f pointer)));
  }

  pub well_formed_hangs : AreHeld others t → IsWellFormed types vars s → IsWellFormed types others t
  well_formed_hangs held is =
      let sound = sound_hangs (record { backbone = is.backbone; pointers = is.pointers }) in
      record {
        fits = record { cells = cells_fit_on cells s t on types is.fits.cells; values = held.fit; above = held.above };
        backbone = sound.backbone;
        pointers = sound.pointers;
        sets = held.sets;
      }
