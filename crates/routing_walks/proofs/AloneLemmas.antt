-- Walks see cells alone.
use Rattle.std.proofs.Common.{◌≡◌, ◌↔◌, List, Some, IsSome, IsSomeAnd, refl, sym, subst, ◌∙◌}
use Rattle.std.specs.Ordering.{nat_cmp}
use Rattle.std.specs.FinMap.{FinMap, get}
use Rattle.std.specs.Option.{option_and_then}
use Rattle.store_core.specs.declared.ids.FieldId.{FieldId}
use Rattle.store_core.specs.declared.ids.CellId.{CellId}
use Rattle.store_core.specs.declared.kind.Route.{Route}
use Rattle.store_core.specs.declared.value.Value.{Value}
use Rattle.store_core.specs.declared.value.Value.TheVariants as value
use Rattle.store_core.specs.Tables.{TypeEntry}
use Rattle.store_core.specs.Stores.{StoreMap, CellEntry, IsLive, field_of, field_value}
use Rattle.routing_walks.specs.Walks.{Fields, Leads, IsOfVariant, Walk}
use Rattle.routing_walks.proofs.LiveLemmas.{Leads-live, Walk-live}
use Rattle.routing_walks.proofs.MatchLemmas.{Matches, Walk-match}

-- a live cell goes with itself
Itself : StoreMap → CellId → CellId → Type 0
Itself s a c = (a ≡ c) × IsLive s a

module _ (s t : StoreMap) (e : s.cells ≡ t.cells) where
  live_too : (c : CellId) → IsLive s c → IsLive t c
  live_too c h = subst (λ (m : FinMap nat_cmp CellEntry). IsSome (get m c.0)) e h

  value_too : (c : CellId) (f : FieldId) (x : Value) → field_value s c f ≡ Some x → field_value t c f ≡ Some x
  value_too c f x h = subst (λ (m : FinMap nat_cmp CellEntry). option_and_then (λ cell. field_of cell f) (get m c.0) ≡ Some x) e h

  leads_too : (types : List TypeEntry) (fields : Fields) (f : FieldId) (a b : CellId) → Leads types s fields f a b → Leads types t fields f a b
  leads_too types fields f a b h = record { kind = h.kind; value = value_too a f _ h.value; live = live_too b h.live }

module _ (types : List TypeEntry) (fields : Fields) (s t : StoreMap) (e : s.cells ≡ t.cells) where
  Matches-cells : Matches types fields (Itself s) s t
  unfolding Itself
  Matches-cells = record {
    one = λ a c d h k. sym h.0 ∙ k.0;
    other = λ a b c h k. h.0 ∙ sym k.0;
    live = λ a c h. (h.1, subst (IsLive t) h.0 (live_too s t e a h.1));
    variant = λ a c h v. subst (λ x. IsOfVariant s v a ↔ IsOfVariant t v x) h.0 (
      λ is. subst (λ (m : FinMap nat_cmp CellEntry). IsSomeAnd (get m a.0) (λ cell. cell.variant ≡ v)) e is,
      λ is. subst (λ (m : FinMap nat_cmp CellEntry). IsSomeAnd (get m a.0) (λ cell. cell.variant ≡ v)) (sym e) is,
    );
    truth = λ a c h f b. subst (λ x. (field_value s a f ≡ Some (value.Bool b)) ↔ (field_value t x f ≡ Some (value.Bool b))) h.0
        (value_too s t e a f _, value_too t s (sym e) a f _);
    down = λ f a b c h leads. (b, (refl, leads.live), subst (λ x. Leads types t fields f x b) h.0 (leads_too s t e types fields f a b leads));
    up = λ f a b d h leads. (
      a,
      (refl, (Leads-live types s fields f a b leads).0),
      subst (λ x. Leads types t fields f a x) h.0 (leads_too s t e types fields f a b leads),
    );
    down_back = λ f a c d h leads. (
      d,
      (refl, live_too t s (sym e) d leads.live),
      subst (λ x. Leads types s fields f x d) (sym h.0) (leads_too t s (sym e) types fields f c d leads),
    );
    up_back = λ f b c d h leads. (
      c,
      (refl, live_too t s (sym e) c (Leads-live types t fields f c d leads).0),
      subst (λ x. Leads types s fields f c x) (sym h.0) (leads_too t s (sym e) types fields f c d leads),
    );
  }

  walk_too : (along : Route) (a b : CellId) → Walk types s fields along a b → Walk types t fields along a b
  unfolding Itself
  walk_too along a b w = let live = Walk-live types s fields along a b w in
      Walk-match types fields (Itself s) s t Matches-cells along a b a b (refl, live.0) (refl, live.1) w

pub Walk-same_cells : (types : List TypeEntry) (s t : StoreMap) (fields : Fields) (along : Route) (a b : CellId) → s.cells ≡ t.cells →
    Walk types s fields along a b ↔ Walk types t fields along a b
Walk-same_cells types s t fields along a b e = (walk_too types fields s t e along a b, walk_too types fields t s (sym e) along a b)
