-- Two backbones without a common cell, put together.
use Rattle.std.proofs.Common.{◌≡◌, ◌⊎◌, inl, inr, List, Option, Some, None, IsSome, IsSomeAnd, IfSome, refl, sym, ap, ◌∙◌, subst}
use Rattle.std.specs.Option.{option_and_then}
use Rattle.store_core.specs.declared.ids.TypeId.{TypeId}
use Rattle.store_core.specs.declared.ids.FieldId.{FieldId}
use Rattle.store_core.specs.declared.ids.CellId.{CellId}
use Rattle.store_core.specs.declared.kind.FieldKind.{FieldKind}
use Rattle.store_core.specs.declared.kind.FieldKind.TheVariants as field
use Rattle.store_core.specs.declared.value.Value.{Value}
use Rattle.store_core.specs.declared.value.Value.TheVariants as value
use Rattle.store_core.specs.Tables.{TypeEntry, VarEntry, FieldEntry, field_at}
use Rattle.store_core.specs.Stores.{StoreMap, CellEntry, IsLive, cell_of, field_of, field_value}
use Rattle.store_core.proofs.FittingLemmas.{IfSome-from, IfSome-at, IsSomeAnd-at}
use Rattle.routing_walks.specs.declared.fault.Place.TheVariants as place
use Rattle.routing_walks.specs.Walks.{DataAlone, IsFollowed, Leads, IsParent, IsOfType, IsRoot, Chain, stay, go}
use Rattle.routing_walks.specs.Destinations.{IsOnlyDestination, IsPointer}
use Rattle.routing_walks.specs.WellFormed.{FieldHoldsLive, IsBackbone}
use Rattle.routing_walks.specs.CutFaults.{IsSound}
use Rattle.routing_walks.specs.Sets.{Lists}
use Rattle.routing_walks.specs.Regions.{IsOn, IsApart}
use Rattle.routing_walks.proofs.LiveLemmas.{IsLive-field_value, IsOfType-live, IsParent-live, Chain-live, Leads-live}
use Rattle.routing_walks.specs.Hanging.{NamesRoots, IsTogether}
use Rattle.routing_walks.proofs.DecidedLemmas.{decided_there}
use Rattle.routing_walks.proofs.DecidedWalks.{listed}
use Rattle.routing_walks.proofs.RegionLemmas.{only_on}
use Rattle.routing_walks.proofs.HangingLemmas.{one_parent, no_parent, data_held, backbone_by_roots}

dead_unless : (o : Option CellEntry) → (IsSome o → ⊥) → o ≡ None
dead_unless None h = refl
dead_unless (Some cell) h = absurd (h refl)

-- ---- the cells of the one

module _ (types : List TypeEntry) (vars : List VarEntry) (s t u : StoreMap) (as_one : (c : CellId) → IsLive s c → cell_of u c ≡ cell_of s c)
    (either : (c : CellId) → IsLive u c → IsLive s c ⊎ IsLive t c) (apart : (c : CellId) → IsLive s c → IsLive t c → ⊥)
    (backbone : IsBackbone types vars s) where
  live_in : (c : CellId) → IsLive s c → IsLive u c
  live_in c live = subst IsSome (sym (as_one c live)) live

  value_in : (c : CellId) (f : FieldId) → IsLive s c → field_value u c f ≡ field_value s c f
  value_in c f live = ap (λ o. option_and_then (λ (cell : CellEntry). field_of cell f) o) (as_one c live)

  type_in : (target : TypeId) (c : CellId) → IsOfType s target c → IsOfType u target c
  type_in target c h = subst (λ o. IsSomeAnd o (λ cell. cell.variant.ty ≡ target)) (sym (as_one c (IsOfType-live types s target c h))) h

  held_in : (kind : FieldKind) (x : Value) → FieldHoldsLive s kind x → FieldHoldsLive u kind x
  held_in field.Bool x h = tt
  held_in (field.Data target) (value.Bool truth) h = h
  held_in (field.Data target) (value.Cell None) h = tt
  held_in (field.Data target) (value.Cell (Some d)) h = type_in target d h
  held_in (field.Data target) (value.Cells others) h = h
  held_in (field.Pointer target along) x h = tt

  pub data_in : (c : CellId) (f : FieldId) (entry : FieldEntry) (x : Value) → field_at types f ≡ Some entry → IsLive s c → field_value u c f ≡ Some x →
      FieldHoldsLive u entry.kind x
  data_in c f entry x at live holds = held_in entry.kind x (data_held types vars s backbone c f entry x at (sym (value_in c f live) ∙ holds))

  held_live : (kind : FieldKind) (d : CellId) → IsFollowed DataAlone kind → FieldHoldsLive s kind (value.Cell (Some d)) → IsLive s d
  held_live field.Bool d followed h = absurd followed
  held_live (field.Data target) d followed h = IsOfType-live types s target d h
  held_live (field.Pointer target along) d followed h = absurd followed

  -- a data field of a cell of the one leads to a cell of the one
  pub leads_from : (f : FieldId) (a b : CellId) → IsLive s a → Leads types u DataAlone f a b → Leads types s DataAlone f a b
  leads_from f a b live leads =
      let entry = IsSomeAnd-at (field_at types f) _ leads.kind in
      let holds = sym (value_in a f live) ∙ leads.value in
      record {
        kind = leads.kind;
        value = holds;
        live = held_live entry.0.kind b entry.2 (data_held types vars s backbone a f entry.0 (value.Cell (Some b)) entry.1 holds);
      }

  leads_in : (f : FieldId) (a b : CellId) → Leads types s DataAlone f a b → Leads types u DataAlone f a b
  leads_in f a b leads = record {
    kind = leads.kind;
    value = value_in a f (Leads-live types s DataAlone f a b leads).0 ∙ leads.value;
    live = live_in b leads.live;
  }

  chain_in : {a b : CellId} → Chain s (IsParent types s) a b → Chain u (IsParent types u) a b
  chain_in (stay a live) = stay a (live_in a live)
  chain_in (go a b c step chain) = go a b c (record { field = step.field; leads = leads_in step.field a b step.leads }) (chain_in chain)

  pub rooted_in : ((f : FieldId) (a b : CellId) → IsLive t a → Leads types u DataAlone f a b → IsLive t b) → (c : CellId) → IsLive s c →
      (root : CellId) × IsRoot types u root × Chain u (IsParent types u) root c
  rooted_in other_stays c live =
      let tree = backbone.reached c live in
      let root = tree.1.root in
      let root_live = (Chain-live (IsParent-live types s) tree.1.path).0 in (
        root,
        record {
          live = live_in root root_live;
          alone = λ a parent. elim (either a (IsParent-live types u a root parent).0) [
            | inl here ↦ no_parent types vars s backbone tree.0 a root tree.1.named
                (record { field = parent.field; leads = leads_from parent.field a root here parent.leads })
            | inr there ↦ apart root root_live (other_stays parent.field a root there parent.leads)
          ];
        },
        chain_in tree.1.path,
      )

  -- ---- pointer fields

  module _ (other_stays : (f : FieldId) (a b : CellId) → IsLive t a → Leads types u DataAlone f a b → IsLive t b) where
    mine : (cells : List CellId) × Lists (IsLive s) cells
    mine = listed s (IsLive s) (λ c. decided_there (cell_of s c)) (λ c live. live)

    mine-IsOn : IsOn mine.0 u s
    mine-IsOn = record {
      inside = λ c m. sym (as_one c ((mine.1.members c).0 m));
      outside = λ c out. dead_unless (cell_of s c) (λ live. out ((mine.1.members c).1 live));
    }

    mine-IsApart : IsApart types u DataAlone mine.0
    mine-IsApart f a b leads = (
      λ m. (mine.1.members b).1 (leads_from f a b ((mine.1.members a).0 m) leads).live,
      λ m. (mine.1.members a).1 (elim (either a (Leads-live types u DataAlone f a b leads).0) [
        | inl here ↦ here
        | inr there ↦ absurd (apart b ((mine.1.members b).0 m) (other_stays f a b there leads))
      ]),
    )

    pub pointer_in : ((c : CellId) (f : FieldId) → IsSomeAnd (field_at types f) (λ entry. IsPointer entry.kind) →
        IfSome (field_value s c f) (IsOnlyDestination types s c f)) →
        (c : CellId) (f : FieldId) (x : Value) → IsSomeAnd (field_at types f) (λ entry. IsPointer entry.kind) → IsLive s c → field_value u c f ≡ Some x →
        IsOnlyDestination types u c f x
    pointer_in right c f x pointer live holds =
        (only_on types DataAlone mine.0 u s mine-IsOn mine-IsApart c f x ((mine.1.members c).1 live)).1
        (IfSome-at (field_value s c f) (IsOnlyDestination types s c f) x (sym (value_in c f live) ∙ holds) (right c f pointer))

-- ---- both

module _ (types : List TypeEntry) (vars others all : List VarEntry) (s t u : StoreMap) (is : IsTogether s t u) (named : NamesRoots types all u) where
  turned : (c : CellId) → IsLive u c → IsLive t c ⊎ IsLive s c
  turned c live = elim (is.of_either c live) [ inl h ↦ inr h | inr h ↦ inl h ]

  module _ (one : IsBackbone types vars s) (other : IsBackbone types others t) where
    one_from : (f : FieldId) (a b : CellId) → IsLive s a → Leads types u DataAlone f a b → Leads types s DataAlone f a b
    one_from = leads_from types vars s t u is.of_one is.of_either is.apart one

    other_from : (f : FieldId) (a b : CellId) → IsLive t a → Leads types u DataAlone f a b → Leads types t DataAlone f a b
    other_from = leads_from types others t s u is.of_other turned (λ c here there. is.apart c there here) other

    pub one_stays : (f : FieldId) (a b : CellId) → IsLive s a → Leads types u DataAlone f a b → IsLive s b
    one_stays f a b live leads = (one_from f a b live leads).live

    pub other_stays : (f : FieldId) (a b : CellId) → IsLive t a → Leads types u DataAlone f a b → IsLive t b
    other_stays f a b live leads = (other_from f a b live leads).live

    data_fields : (c : CellId) (f : FieldId) → IfSome (field_at types f) (λ entry. IfSome (field_value u c f) (FieldHoldsLive u entry.kind))
    data_fields c f = IfSome-from (field_at types f) _ (λ entry at. IfSome-from (field_value u c f) (FieldHoldsLive u entry.kind) (λ x holds.
        elim (is.of_either c (IsLive-field_value u c f x holds)) [
          | inl here ↦ data_in types vars s t u is.of_one is.of_either is.apart one c f entry x at here holds
          | inr there ↦ data_in types others t s u is.of_other turned (λ d k l. is.apart d l k) other c f entry x at there holds
        ]))

    once : (f g : FieldId) (a b c : CellId) → Leads types u DataAlone f a c → Leads types u DataAlone g b c → place.Field a f ≡ place.Field b g
    once f g a b c by_f by_g = elim (is.of_either a (Leads-live types u DataAlone f a c by_f).0) [
      | inl a_here ↦ elim (is.of_either b (Leads-live types u DataAlone g b c by_g).0) [
        | inl b_here ↦ one_parent types vars s one f g a b c (one_from f a c a_here by_f) (one_from g b c b_here by_g)
        | inr b_there ↦ absurd (is.apart c (one_stays f a c a_here by_f) (other_stays g b c b_there by_g))
      ]
      | inr a_there ↦ elim (is.of_either b (Leads-live types u DataAlone g b c by_g).0) [
        | inl b_here ↦ absurd (is.apart c (one_stays g b c b_here by_g) (other_stays f a c a_there by_f))
        | inr b_there ↦ one_parent types others t other f g a b c (other_from f a c a_there by_f) (other_from g b c b_there by_g)
      ]
    ]

    rooted : (c : CellId) → IsLive u c → (root : CellId) × IsRoot types u root × Chain u (IsParent types u) root c
    rooted c live = elim (is.of_either c live) [
      | inl here ↦ rooted_in types vars s t u is.of_one is.of_either is.apart one other_stays c here
      | inr there ↦ rooted_in types others t s u is.of_other turned (λ d k l. is.apart d l k) other one_stays c there
    ]

    pub backbone_together : IsBackbone types all u
    backbone_together = backbone_by_roots types all u named data_fields once rooted

  pub sound_together : IsSound types vars s → IsSound types others t → IsSound types all u
  sound_together one other = record {
    backbone = backbone_together one.backbone other.backbone;
    pointers = λ c f pointer. IfSome-from (field_value u c f) (IsOnlyDestination types u c f) (λ x holds.
        elim (is.of_either c (IsLive-field_value u c f x holds)) [
          | inl here ↦ pointer_in types vars s t u is.of_one is.of_either is.apart one.backbone (other_stays one.backbone other.backbone)
              one.pointers c f x pointer here holds
          | inr there ↦ pointer_in types others t s u is.of_other turned (λ d k l. is.apart d l k) other.backbone (one_stays one.backbone other.backbone)
              other.pointers c f x pointer there holds
        ]);
  }
