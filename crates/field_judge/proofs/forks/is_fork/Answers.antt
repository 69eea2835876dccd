use Rattle.std.proofs.Common.{◌∙◌, ap, subst, not}
use Rattle.std.specs.Prelude.{IsSome}
use Rattle.witness_store.proofs.FindingLemmas.{IsSome-map}
use Rattle.field_judge.proofs.ForksLemmas.{forks-told, none-told}
use Rattle.field_judge.proofs.forks.is_fork.Goals as goal

pub returns-clause-forks : goal.returns-clause-forks
returns-clause-forks c =
    forks-told c.args.types.now c.args.store.now c.args.f c.args.c c.in-Some-Pointer.target c.in-Some-Pointer.route c.in-Some-Pointer.field-0.now
    c.in-Some-Pointer.ensures c.in-Some-Pointer.field-0-is
    (subst IsSome c.field.ensures (IsSome-map (λ v. v.now) c.field.result (c.is_none.ensures ∙ ap not c.if-is_none.false)))
    c.in_ok-cells.cells c.in_ok-cells.ensures c.are_several.result c.are_several.ensures

pub returns-clause-none : goal.returns-clause-none
returns-clause-none c =
    none-told c.args.types.now c.args.store.now c.args.f c.args.c c.in-Some-Pointer.target c.in-Some-Pointer.route c.in-Some-Pointer.field-0.now
    c.in-Some-Pointer.ensures c.in-Some-Pointer.field-0-is
    (subst IsSome c.field.ensures (IsSome-map (λ v. v.now) c.field.result (c.is_none.ensures ∙ ap not c.if-is_none.false)))
    c.in_ok-cells.cells c.in_ok-cells.ensures c.are_several.result c.are_several.ensures
