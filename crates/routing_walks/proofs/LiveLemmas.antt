-- What walks join is live.
use Rattle.std.proofs.Common.{◌≡◌, inl, inr, List, Option, Some, None, IsSome, IsSomeAnd, refl, subst}
use Rattle.store_core.specs.declared.ids.FieldId.{FieldId}
use Rattle.store_core.specs.declared.ids.TypeId.{TypeId}
use Rattle.store_core.specs.declared.ids.CellId.{CellId}
use Rattle.store_core.specs.declared.kind.Route.{Route}
use Rattle.store_core.specs.declared.value.Value.{Value}
use Rattle.store_core.specs.Tables.{TypeEntry}
use Rattle.store_core.specs.Stores.{StoreMap, CellEntry, IsLive, cell_of, field_of, field_value}
use Rattle.std.specs.Option.{option_and_then}
use Rattle.routing_walks.specs.Walks.{Fields, Leads, IsParent, Stays, IsRoot, IsLeaf, IsOfType, IsOfVariant, HasTruth, Chain, stay, go, Walk}
use Rattle.routing_walks.proofs.RouteLemmas.{IsHereditary, route-induction}
use Rattle.routing_walks.proofs.WalkLemmas.{Walk-Down, Walk-Up, Walk-UpAny, Walk-Root, Walk-Leaf, Walk-IsType, Walk-IsVariant, Walk-IsBool, Walk-Then}
use Rattle.routing_walks.proofs.WalkLemmas.{Walk-Or, Walk-Star}

and_then_some : (o : Option CellEntry) (g : CellEntry → Option Value) (x : Value) → option_and_then g o ≡ Some x → IsSome o
and_then_some None g x e = cc
and_then_some (Some cell) g x e = refl

-- a cell with a value is live
pub IsLive-field_value : (s : StoreMap) (c : CellId) (f : FieldId) (x : Value) → field_value s c f ≡ Some x → IsLive s c
IsLive-field_value s c f x e = and_then_some (cell_of s c) (λ cell. field_of cell f) x e

pub IsSome-and : {X : Type 0} (o : Option X) (P : X → Type 0) → IsSomeAnd o P → IsSome o
IsSome-and None P h = absurd h
IsSome-and (Some x) P h = refl

-- the ends of a chain are live where those of its steps are
pub Chain-live : {s : StoreMap} {Step : CellId → CellId → Type 0} → ((a b : CellId) → Step a b → IsLive s a × IsLive s b) →
    {a b : CellId} → Chain s Step a b → IsLive s a × IsLive s b
Chain-live live (stay a h) = (h, h)
Chain-live live (go a b c step chain) = ((live a b step).0, (Chain-live live chain).1)

module _ (types : List TypeEntry) (s : StoreMap) where
  pub Leads-live : (fields : Fields) (f : FieldId) (a b : CellId) → Leads types s fields f a b → IsLive s a × IsLive s b
  Leads-live fields f a b h = (IsLive-field_value s a f _ h.value, h.live)

  pub IsParent-live : (a b : CellId) → IsParent types s a b → IsLive s a × IsLive s b
  IsParent-live a b h = Leads-live _ h.field a b h.leads

  pub IsOfType-live : (ty : TypeId) (c : CellId) → IsOfType s ty c → IsLive s c
  IsOfType-live ty c h = IsSome-and (cell_of s c) _ h

  test-live : (Passes : CellId → Type 0) → ((c : CellId) → Passes c → IsLive s c) → (a b : CellId) → Stays Passes a b → IsLive s a × IsLive s b
  test-live Passes live a b h = (live a h.1, subst (λ c. IsLive s c) h.0 (live a h.1))

module _ (types : List TypeEntry) (s : StoreMap) (fields : Fields) where
  HasLive : Route → Type 0
  HasLive along = (a b : CellId) → Walk types s fields along a b → IsLive s a × IsLive s b

  hereditary : IsHereditary HasLive
  unfolding HasLive
  hereditary = record {
    of_Down = λ name a b w. let h = (Walk-Down types s fields name a b).0 w in Leads-live types s fields h.field a b h.leads;
    of_Up = λ name a b w. let h = (Walk-Up types s fields name a b).0 w in let l = Leads-live types s fields h.field b a h.leads in (l.1, l.0);
    of_UpAny = λ a b w. let l = IsParent-live types s b a ((Walk-UpAny types s fields a b).0 w) in (l.1, l.0);
    of_Root = λ a b w. test-live types s (IsRoot types s) (λ c h. h.live) a b ((Walk-Root types s fields a b).0 w);
    of_Leaf = λ a b w. test-live types s (IsLeaf types s) (λ c h. h.live) a b ((Walk-Leaf types s fields a b).0 w);
    of_IsType = λ ty a b w. test-live types s (IsOfType s ty) (λ c h. IsSome-and (cell_of s c) _ h) a b ((Walk-IsType types s fields ty a b).0 w);
    of_IsVariant = λ v a b w. test-live types s (IsOfVariant s v) (λ c h. IsSome-and (cell_of s c) _ h) a b ((Walk-IsVariant types s fields v a b).0 w);
    of_IsBool = λ name truth a b w. test-live types s (HasTruth types s name truth)
        (λ c h. IsLive-field_value s c h.field _ h.value) a b ((Walk-IsBool types s fields name truth a b).0 w);
    of_Then = λ first second one two a c w. let h = (Walk-Then types s fields first second a c).0 w in ((one a h.0 h.1).0, (two h.0 c h.2).1);
    of_Or = λ one other left right a b w. elim ((Walk-Or types s fields one other a b).0 w) [ inl h ↦ left a b h | inr h ↦ right a b h ];
    of_Star = λ round each a b w. Chain-live each ((Walk-Star types s fields round a b).0 w);
  }

  pub Walk-live : (along : Route) (a b : CellId) → Walk types s fields along a b → IsLive s a × IsLive s b
  unfolding HasLive
  Walk-live = route-induction HasLive hereditary
