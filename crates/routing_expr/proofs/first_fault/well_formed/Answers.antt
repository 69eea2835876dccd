use Rattle.std.proofs.Common.{◌≡◌, subst, refl, Some, None, Option, IfNone, IfSome}
use Rattle.store_core.specs.declared.ids.CellId.{CellId}
use Rattle.store_core.specs.declared.ids.FieldId.{FieldId}
use Rattle.store_core.proofs.FittingLemmas.{IfSome-at}
use Rattle.routing_walks.specs.WellFormed.{IsWrongPlace, IsFirstPlace, IsRightField}
use Rattle.routing_walks.proofs.FaultLemmas.{no_dangling, no_shared, no_leak, well_formed_from}
use Rattle.routing_expr.proofs.first_fault.well_formed.Goals as goal

of_some : {X : Type 0} (o : Option X) (P : X → Type 0) (x : X) → o ≡ Some x → IfSome o P → P x
of_some o P x is h = IfSome-at o P x is h

of_none : {X : Type 0} (o : Option X) (P : Type 0) → o ≡ None → IfNone o P → P
of_none None P is h = h
of_none (Some x) P is h = cc

pub returns-in-Some-clause-none : goal.returns-in-Some-clause-none
returns-in-Some-clause-none c = (
  λ e. cc,
  λ is. absurd (no_dangling c.args.types.now c.args.vars.now c.args.store.now c.requires is c.in-Some.place c.in-Some.ensures.some.here),
)

pub returns-in-Some-2-clause-none : goal.returns-in-Some-2-clause-none
returns-in-Some-2-clause-none c = (
  λ e. cc,
  λ is. absurd (no_shared c.args.types.now c.args.vars.now c.args.store.now c.requires is.backbone is.pointers c.in-Some-2.cell
      (of_some _ _ _ c.in-Some-2.is c.in_ok-cell.ensures.some).here),
)

pub returns-in-Some-3-clause-none : goal.returns-in-Some-3-clause-none
returns-in-Some-3-clause-none c = (
  λ e. cc,
  λ is. absurd (no_leak c.args.types.now c.args.vars.now c.args.store.now c.requires is.backbone is.pointers c.in-Some-3.cell
      (of_some _ _ _ c.in-Some-3.is c.in_ok-cell-2.ensures.some).here),
)

pub returns-in-None-clause-none : goal.returns-in-None-clause-none
returns-in-None-clause-none c = (
  λ e. well_formed_from c.args.types.now c.args.vars.now c.args.store.now c.requires c.in_default.ensures.none
      (of_none _ _ c.in_default-2.is c.in_ok-cell.ensures.none) (of_none _ _ c.in_default-3.is c.in_ok-cell-2.ensures.none)
      (subst (λ t. (d : CellId) (f : FieldId) → IsRightField t c.args.store.now d f) c.in_ok-search.ensures.types
      (subst (λ s. (d : CellId) (f : FieldId) → IsRightField c.in_ok-search.search.types.now s d f) c.in_ok-search.ensures.store
      (of_none _ _ c.in-None.is c.in_ok-first_wrong_place.ensures.none))),
  λ is. refl,
)

pub returns-in-Some-Field-clause-some : goal.returns-in-Some-Field-clause-some
returns-in-Some-Field-clause-some c = (
  c.in_default.ensures.none,
  of_none _ _ c.in_default-2.is c.in_ok-cell.ensures.none,
  λ d leak. let tree = of_none _ _ c.in_default-3.is c.in_ok-cell-2.ensures.none d leak.live in leak.unreached tree.var tree.in_tree,
  subst (λ p. IsFirstPlace (IsWrongPlace c.args.types.now c.args.store.now) p) c.in-Some-Field.field-0-is
      (subst (λ t. IsFirstPlace (IsWrongPlace t c.args.store.now) c.in-Some-Field.field-0) c.in_ok-search.ensures.types
      (subst (λ s. IsFirstPlace (IsWrongPlace c.in_ok-search.search.types.now s) c.in-Some-Field.field-0) c.in_ok-search.ensures.store
      (of_some _ _ _ c.in-Some-Field.is c.in_ok-first_wrong_place.ensures.some))),
)
