-- Fields that have at most one destination on every backbone.
use Rattle.std.proofs.Common.{◌≡◌, ℕ, List, Option, Some, None, IsSomeAnd, subst}
use Rattle.store_core.specs.declared.ids.TypeId.{TypeId}
use Rattle.store_core.specs.declared.ids.FieldId.{FieldId}
use Rattle.store_core.specs.declared.ids.CellId.{CellId}
use Rattle.store_core.specs.declared.kind.FieldKind.TheVariants as field
use Rattle.store_core.specs.declared.kind.Route.TheVariants as route
use Rattle.store_core.specs.Tables.{TypeEntry, VarEntry, FieldEntry, field_at}
use Rattle.store_core.specs.Stores.{StoreMap}
use Rattle.routing_walks.specs.declared.fault.Place.TheVariants as place
use Rattle.routing_walks.specs.Walks.{DataAlone}
use Rattle.routing_walks.specs.Destinations.{EndsWalk, EndsKind, Dest}
use Rattle.routing_walks.specs.WellFormed.{IsBackbone, IsFunctional}
use Rattle.routing_walks.proofs.WalkLemmas.{Walk-Up}
use Rattle.routing_walks.proofs.TreeLemmas.{Names-Leads}

module _ (types : List TypeEntry) (f : FieldId) (target : TypeId) (name : List ℕ)
    (kind : IsSomeAnd (field_at types f) (λ entry. entry.kind ≡ field.Pointer target (route.Up name))) where
  by_up : (s : StoreMap) (o : Option FieldEntry) (c d : CellId) → IsSomeAnd o (λ entry. entry.kind ≡ field.Pointer target (route.Up name)) →
      IsSomeAnd o (λ entry. EndsKind types s entry.kind c d) → EndsWalk types s (route.Up name) target c d
  by_up s None c d is dest = absurd is
  by_up s (Some entry) c d is dest = subst (λ k. EndsKind types s k c d) is dest

  one_parent : (vars : List VarEntry) (s : StoreMap) → IsBackbone types vars s → (c d e : CellId) → Dest types s c f d → Dest types s c f e → d ≡ e
  one_parent vars s backbone c d e one other =
      let up = (Walk-Up types s DataAlone name c d).0 (by_up s (field_at types f) c d kind one).walk in
      let above = (Walk-Up types s DataAlone name c e).0 (by_up s (field_at types f) c e kind other).walk in
      let same : place.Field d up.field ≡ place.Field e above.field = backbone.named_once c (place.Field d up.field) (place.Field e above.field) up.leads.live
      (Names-Leads types vars s up.field d c up.leads) (Names-Leads types vars s above.field e c above.leads) in
      cc

pub Up-functional : (types : List TypeEntry) (f : FieldId) (target : TypeId) (name : List ℕ) →
    IsSomeAnd (field_at types f) (λ entry. entry.kind ≡ field.Pointer target (route.Up name)) → IsFunctional types f
Up-functional types f target name kind = record {
  at_most_one = λ vars s fits backbone c d e has one other. one_parent types f target name kind vars s backbone c d e one other;
}
