use Rattle.std.proofs.Common.{refl, sym, subst}
use Rattle.std.proofs.lemmas.Bool.{OnTrue_at, OnFalse_at}
use Rattle.std.specs.Prelude.{IfSome}
use Rattle.store_core.specs.declared.ids.FieldId.{FieldId}
use Rattle.store_core.specs.declared.ids.CellId.{CellId}
use Rattle.routing_walks.specs.declared.fault.CutFault.TheVariants as fault
use Rattle.routing_walks.specs.WellFormed.{IsWrongPlace, IsFirstPlace, IsRightField}
use Rattle.routing_walks.specs.CutFaults.{IsFirstCutFault, IsSound}
use Rattle.routing_expr.proofs.CutLemmas.{none_of, shared_found, leaked_found, wrong_found, none_dangles, none_shared, none_leaks, none_of_found}
use Rattle.routing_expr.proofs.CutLemmas.{some_of_found, some_of_none, sound_from}
use Rattle.routing_expr.proofs.cuts.cut_fault.Goals as goal

pub returns-then-has_dangling_reference : goal.returns-then-has_dangling_reference
returns-then-has_dangling_reference c = let here : IsFirstCutFault c.args.types.now c.args.vars.now c.args.store.now fault.DanglingReference =
    (OnTrue_at c.if-has_dangling_reference.true c.has_dangling_reference.ensures.some) in
    record {
      none = none_of_found c.args.types.now c.args.vars.now c.args.store.now c.requires fault.DanglingReference here;
      some =
          some_of_found c.args.types.now c.args.vars.now c.args.store.now c.requires fault.DanglingReference here;
    }

pub returns-then-is_some : goal.returns-then-is_some
returns-then-is_some c = let here : IsFirstCutFault c.args.types.now c.args.vars.now c.args.store.now fault.Shared = (
  none_dangles c.args.types.now c.args.vars.now c.args.store.now (OnFalse_at c.if-has_dangling_reference.false c.has_dangling_reference.ensures.none),
  shared_found c.args.types.now c.args.vars.now c.args.store.now c.in_ok-first_shared.field-0 (sym c.if-is_some.ensures) c.in_ok-first_shared.ensures.some,
) in
    record {
      none = none_of_found c.args.types.now c.args.vars.now c.args.store.now c.requires fault.Shared here;
      some =
          some_of_found c.args.types.now c.args.vars.now c.args.store.now c.requires fault.Shared here;
    }

pub returns-then-is_some-2 : goal.returns-then-is_some-2
returns-then-is_some-2 c = let here : IsFirstCutFault c.args.types.now c.args.vars.now c.args.store.now fault.Leak = (
  none_dangles c.args.types.now c.args.vars.now c.args.store.now (OnFalse_at c.if-has_dangling_reference.false c.has_dangling_reference.ensures.none),
  none_shared c.args.types.now c.args.vars.now c.args.store.now
      (none_of c.in_ok-first_shared.field-0 _ (sym c.if-is_some.ensures) c.in_ok-first_shared.ensures.none),
  leaked_found c.args.types.now c.args.vars.now c.args.store.now c.in_ok-first_leak.field-0 (sym c.if-is_some-2.ensures) c.in_ok-first_leak.ensures.some,
) in
    record {
      none = none_of_found c.args.types.now c.args.vars.now c.args.store.now c.requires fault.Leak here;
      some =
          some_of_found c.args.types.now c.args.vars.now c.args.store.now c.requires fault.Leak here;
    }

pub returns-then-is_some-3 : goal.returns-then-is_some-3
returns-then-is_some-3 c = let here : IsFirstCutFault c.args.types.now c.args.vars.now c.args.store.now fault.Field = (
  none_dangles c.args.types.now c.args.vars.now c.args.store.now (OnFalse_at c.if-has_dangling_reference.false c.has_dangling_reference.ensures.none),
  none_shared c.args.types.now c.args.vars.now c.args.store.now
      (none_of c.in_ok-first_shared.field-0 _ (sym c.if-is_some.ensures) c.in_ok-first_shared.ensures.none),
  none_leaks c.args.types.now c.args.vars.now c.args.store.now
      (none_of c.in_ok-first_leak.field-0 _ (sym c.if-is_some-2.ensures) c.in_ok-first_leak.ensures.none),
  wrong_found c.args.types.now c.args.vars.now c.args.store.now c.in_ok-first_wrong_place.field-0 (sym c.if-is_some-3.ensures)
      (subst (λ t. IfSome c.in_ok-first_wrong_place.field-0 (IsFirstPlace (IsWrongPlace t c.args.store.now))) c.in_ok-search.ensures.types
      (subst (λ s. IfSome c.in_ok-first_wrong_place.field-0 (IsFirstPlace (IsWrongPlace c.in_ok-search.search.types.now s))) c.in_ok-search.ensures.store
      c.in_ok-first_wrong_place.ensures.some)),
) in
    record {
      none = none_of_found c.args.types.now c.args.vars.now c.args.store.now c.requires fault.Field here;
      some =
          some_of_found c.args.types.now c.args.vars.now c.args.store.now c.requires fault.Field here;
    }

pub returns : goal.returns
returns c = let sound : IsSound c.args.types.now c.args.vars.now c.args.store.now =
    sound_from c.args.types.now c.args.vars.now c.args.store.now c.requires (OnFalse_at c.if-has_dangling_reference.false c.has_dangling_reference.ensures.none)
    (none_of c.in_ok-first_shared.field-0 _ (sym c.if-is_some.ensures) c.in_ok-first_shared.ensures.none)
    (none_of c.in_ok-first_leak.field-0 _ (sym c.if-is_some-2.ensures) c.in_ok-first_leak.ensures.none)
    (subst (λ t. (d : CellId) (f : FieldId) → IsRightField t c.args.store.now d f) c.in_ok-search.ensures.types
    (subst (λ s. (d : CellId) (f : FieldId) → IsRightField c.in_ok-search.search.types.now s d f) c.in_ok-search.ensures.store
    (none_of c.in_ok-first_wrong_place.field-0 _ (sym c.if-is_some-3.ensures) c.in_ok-first_wrong_place.ensures.none))) in
    record { none = (λ e. sound, λ is. refl); some = some_of_none c.args.types.now c.args.vars.now c.args.store.now c.requires sound }
