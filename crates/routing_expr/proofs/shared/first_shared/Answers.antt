use Rattle.std.proofs.Common.{IfNone, IfSome, Option, Some, None, ◌↔◌}
use Rattle.store_core.specs.declared.ids.CellId.{CellId}
use Rattle.routing_walks.specs.WellFormed.{IsFirstCell}
use Rattle.routing_expr.proofs.shared.first_shared.Goals as goal

none_alike : (o : Option CellId) (P Q : CellId → Type 0) → ((c : CellId) → P c ↔ Q c) → IfNone o ((c : CellId) → P c → ⊥) → IfNone o ((c : CellId) → Q c → ⊥)
none_alike None P Q alike h = λ c q. h c ((alike c).1 q)
none_alike (Some d) P Q alike h = h

some_alike : (o : Option CellId) (P Q : CellId → Type 0) → ((c : CellId) → P c ↔ Q c) → IfSome o (IsFirstCell P) → IfSome o (IsFirstCell Q)
some_alike None P Q alike h = h
some_alike (Some d) P Q alike h = record { here = (alike d).0 h.here; before = λ e less q. h.before e less ((alike e).1 q) }

pub returns-clause-none : goal.returns-clause-none
returns-clause-none c = none_alike _ _ _ c.in_ok-twice.ensures c.least.ensures.none

pub returns-clause-some : goal.returns-clause-some
returns-clause-some c = some_alike _ _ _ c.in_ok-twice.ensures c.least.ensures.some
