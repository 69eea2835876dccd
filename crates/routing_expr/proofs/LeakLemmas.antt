-- What leaks is what no variable reaches.
use Rattle.std.proofs.Common.{◌⊎◌, ◌<◌, List, length, Option, Some, None, IfSome, IfNone, inl, inr}
use Rattle.std.specs.Prelude.{Contains}
use Rattle.store_core.specs.declared.ids.VarId.{VarId}
use Rattle.store_core.specs.declared.ids.CellId.{CellId}
use Rattle.store_core.specs.Tables.{TypeEntry, VarEntry}
use Rattle.store_core.specs.Stores.{StoreMap, IsLive}
use Rattle.routing_walks.specs.WellFormed.{IsLeaked, IsFirstCell}
use Rattle.routing_walks.specs.Regions.{IsReachedFrom}
use Rattle.routing_walks.specs.Reaching.{IsInSomeTree, IsUnreached}
use Rattle.routing_expr.proofs.ReachLemmas.{known_within}

module _ (types : List TypeEntry) (vars : List VarEntry) (s : StoreMap) (roots : List VarId) (all : (v : VarId) → v.0 < length vars → Contains roots v) where
  IsLeaked-unreached : (c : CellId) → IsUnreached types vars s roots c → IsLeaked types vars s c
  IsLeaked-unreached c h = record {
    live = h.live;
    unreached = λ v t. h.unreached (record { root = v; listed = all v (known_within types vars s vars v.0 _ t.named.place); in_tree = t });
  }

  IsInSomeTree-reached : (c : CellId) → IsReachedFrom types vars s roots c → IsInSomeTree types vars s c
  IsInSomeTree-reached c r = record { var = r.root; in_tree = r.in_tree }

  module _ (IsLeft : CellId → Type 0) (reached : (c : CellId) → IsLive s c → IsLeft c ⊎ IsReachedFrom types vars s roots c) where
    -- nothing is left
    pub none_left : (found : Option CellId) → IfNone found ((c : CellId) → IsLeft c → ⊥)
        → IfNone found ((c : CellId) → IsLive s c → IsInSomeTree types vars s c)
    none_left None none = λ c live. elim (reached c live) [ inl l ↦ absurd (none c l) | inr r ↦ IsInSomeTree-reached c r ]
    none_left (Some c) none = tt

    -- the least that is left leaks first
    pub first_left : (found : Option CellId) → ((c : CellId) → IsLeft c → IsUnreached types vars s roots c) →
        IfSome found (IsFirstCell IsLeft) → IfSome found (IsFirstCell (IsLeaked types vars s))
    first_left None unreached h = h
    first_left (Some c) unreached h = record {
      here = IsLeaked-unreached c (unreached c h.here);
      before = λ d less leak. elim (reached d leak.live) [ inl l ↦ h.before d less l | inr r ↦ leak.unreached r.root r.in_tree ];
    }
