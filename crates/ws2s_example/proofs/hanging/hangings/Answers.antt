use Rattle.std.proofs.Common.{◌≡◌, ◌*◌, suc, arith, subst, sym, slice_get, Some, true, false}
use Rattle.ws2s_example.proofs.ListLemmas.{at-place}
use Rattle.ws2s_example.proofs.HangingLemmas.{HangingsSoFar, so_far-more, so_far-end}
use Rattle.ws2s_example.proofs.hanging.hangings.Goals as goal

pub loop-place-preserved : goal.loop-place-preserved
loop-place-preserved c =
    let nodes = c.args.nodes.now in
    let node = c.index-nodes-place.result in
    let place = c.loop-place.place in
    let at : slice_get nodes place ≡ Some node = at-place nodes place node node c.loop-place-test.true (sym c.index-nodes-place.is) in
    let left = so_far-more nodes c.requires (2 * place) place false node c.loop-place.hangings.items at (omega arith) c.loop-place.invariant in
    let then = subst (HangingsSoFar nodes (suc (2 * place))) (sym c.hang.ensures) left in
    let right = so_far-more nodes c.requires (suc (2 * place)) place true node c.hang.new.hangings.items at (omega arith) then in
    let both = subst (HangingsSoFar nodes (suc (suc (2 * place)))) (sym c.hang-in-loop-place.ensures) right in
    subst (λ n. HangingsSoFar nodes n c.hang-in-loop-place.new.hangings.items) (omega arith) both

pub returns : goal.returns
returns c =
    so_far-end c.args.nodes.now c.requires (2 * c.loop-place.place) c.loop-place.hangings.items
    (omega (arith, c.loop-place-test.false, c.loop-place.auto.place-end)) c.loop-place.invariant
