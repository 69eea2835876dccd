use Rattle.std.proofs.Common.{arith}
use Rattle.std.proofs.lemmas.Bool.{OnTrue_at, OnFalse_at}
use Rattle.field_judge.proofs.ForksLemmas.{none-start, none-next, first-found, none-found, cell-number}
use Rattle.field_judge.proofs.forks.first_fork.Goals as goal

pub loop-place-init : goal.loop-place-init
loop-place-init c = none-start c.args.types.now c.args.store.now c.args.f

pub loop-place-preserved : goal.loop-place-preserved
loop-place-preserved c =
    let s = c.args.store.now in
    none-next c.args.types.now s c.args.f c.loop-place.place c.in-Some.cell (cell-number s c.loop-place.place c.in-Some.cell c.in-Some.ensures)
    (OnFalse_at c.if-branch.false c.in_ok-is_fork.ensures.none) c.loop-place.invariant

pub returns-then-branch-clause-some : goal.returns-then-branch-clause-some
returns-then-branch-clause-some c =
    let s = c.args.store.now in
    first-found c.args.types.now s c.args.f c.loop-place.place c.in-Some.cell (cell-number s c.loop-place.place c.in-Some.cell c.in-Some.ensures)
    c.loop-place.invariant (OnTrue_at c.if-branch.true c.in_ok-is_fork.ensures.forks)

pub returns-clause-none : goal.returns-clause-none
returns-clause-none c =
    none-found c.args.types.now c.args.store.now c.args.f c.loop-place.place (omega (arith, c.loop-place-test.false, c.cells-place-end.ensures))
    c.loop-place.invariant
