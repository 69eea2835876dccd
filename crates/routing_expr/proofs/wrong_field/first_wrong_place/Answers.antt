use Rattle.std.proofs.Common.{arith}
use Rattle.std.proofs.lemmas.Bool.{OnTrue_at}
use Rattle.routing_walks.specs.WellFormed.{IsWrongPlace}
use Rattle.routing_expr.proofs.PlaceLemmas.{first_place}
use Rattle.routing_expr.proofs.JudgeLemmas.{not_wrong, wrong_there, all_right}
use Rattle.routing_expr.proofs.wrong_field.first_wrong_place.Goals as goal

pub returns-then-branch-clause-some : goal.returns-then-branch-clause-some
returns-then-branch-clause-some c =
    let types = c.args.search.now.types.now in
    let s = c.args.search.now.store.now in
    first_place s c.args.places.now (IsWrongPlace types s) (wrong_there types s) c.requires.places c.loop-place.place-index _ (omega arith)
    (λ k d less wrong. not_wrong types s _ (c.loop-place.invariant k d less) wrong) (OnTrue_at c.if-branch.true c.in_ok-is_wrong_place.ensures.wrong)

pub returns-clause-none : goal.returns-clause-none
returns-clause-none c = all_right c.args.search.now.types.now c.args.search.now.store.now c.args.places.now c.requires.places
    (λ k d within. c.loop-place.invariant k d (omega arith))
