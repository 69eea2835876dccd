use Rattle.std.proofs.Common.{◌≡◌, ◌++◌, ◌∷◌, [], sym, ap, ◌∙◌, subst, refl, get_or, length, ◌≤◌}
use Rattle.std.proofs.lemmas.Bool.{false≢true}
use Rattle.std.proofs.lemmas.Option.{slice_get-get_or}
use Rattle.routing_walks.specs.Gathering.{Gathers, Before}
use Rattle.routing_walks.proofs.GatheringLemmas.{Gathers-none, Gathers-next, Gathers-push, Gathers-alike, HasAll-gathered}
use Rattle.routing_expr.specs.Spots.{IsAtEnd}
use Rattle.routing_expr.proofs.StepLemmas.{IfOk-by}
use Rattle.routing_expr.proofs.SpotLemmas.{SpotCell, SpotCell-one, SpotCell-not, SpotCell-all, Lists-alike, no_spot}
use Rattle.routing_expr.proofs.search.Search.at_end.Goals as goal
use Rattle.routing_expr.proofs.search.Search.at_end.Goals.{then-is_at_end+in_ok-push, else-is_at_end}

pub loop-spot-preserved : goal.loop-spot-preserved
loop-spot-preserved c =
    let spots = c.as_slice-spot-items.result.now in
    let P = IsAtEnd c.args.self.now.store.now c.args.target in
    let At = SpotCell spots P in
    let i = c.loop-spot.spot-index in
    let here = get_or spots i no_spot in
    let at = slice_get-get_or spots i no_spot c.loop-spot-test.true in
    Gathers-next At i [] c.loop-spot.cells.items c.if-is_at_end.cells.items c.loop-spot.invariant
    (elim c.if-is_at_end.branch [
      | then-is_at_end+in_ok-push w ↦
          subst (λ l. Gathers c.loop-spot.cells.items l (At i)) (sym (ap (λ v. v.items) w.cells-is ∙ w.in_ok-push.ensures.items))
          (Gathers-alike c.loop-spot.cells.items (c.loop-spot.cells.items ++ here.cell ∷ []) (λ x. x ≡ here.cell) (At i)
          (Gathers-push c.loop-spot.cells.items here.cell)
          (SpotCell-one spots P i here at (w.if-is_at_end.ensures.0 refl)))
      | else-is_at_end w ↦
          subst (λ l. Gathers c.loop-spot.cells.items l (At i)) (sym (ap (λ v. v.items) w.cells-is))
          (Gathers-none c.loop-spot.cells.items (At i) (SpotCell-not spots P i here at (λ p. false≢true (w.if-is_at_end.ensures.1 p))))
    ])

pub returns : goal.returns
returns c =
    let spots = c.args.spots.now.keys in
    let s = c.args.self.now.store.now in
    let n = c.loop-spot.spot-index in
    let all = HasAll-gathered c.loop-spot.cells.items (Before (SpotCell spots (IsAtEnd s c.args.target)) n)
    (subst (λ l. Gathers [] c.loop-spot.cells.items (Before (SpotCell l (IsAtEnd s c.args.target)) n))
    c.as_slice-spot-items.ensures.keys c.loop-spot.invariant) in
    let enough = subst (λ l. length l ≤ n) c.as_slice-spot-items.ensures.keys c.loop-spot-test.false in
    IfOk-by c.list_of.result c.list_of.ensures (λ list lists. Lists-alike _ _ list (λ d.
    let one = all d in
    let two = SpotCell-all spots s c.args.target n enough d in
    (λ there. two.0 (one.0 there), λ h. one.1 (two.1 h))) lists)
