use Rattle.std.proofs.Common.{ℕ, List, ◌+◌, sym, ◌∙◌, subst}
use Rattle.cert_nodes.specs.declared.spots.Spot.{Spot}
use Rattle.cert_nodes.specs.Walks.{IsStepFrom, WalksFrom}
use Rattle.cert_nodes.proofs.StatesLemmas.{past}
use Rattle.cert_nodes.proofs.WalksLemmas.{walks-start, walks-leaf, walks-split, walked-all}
use Rattle.cert_nodes.proofs.walk.led_to.Goals as goal
use Rattle.cert_nodes.proofs.walk.led_to.Goals.{in-Leaf+in_ok-push-in-Leaf, in-Split+in_ok-insert-in-Split+in_ok-insert-in-Split-2}

pub loop-place-init : goal.loop-place-init
loop-place-init c =
    subst (λ (ls : List (List ℕ)). WalksFrom c.args.nodes.now c.args.dropped c.args.starts c.args.starts ls 0) (sym c.new-lists.ensures)
    (walks-start c.args.nodes.now c.args.dropped c.args.starts)

pub loop-place-preserved : goal.loop-place-preserved
loop-place-preserved c =
    let d = c.args.nodes.now in
    let met = c.loop-place.met in
    let lists = c.loop-place.lists in
    let place = c.loop-place.place in
    let spots = c.in-Some.spots.now in
    let at = sym c.in-Some.ensures in
    elim c.match-branch-2.branch [
      | in-Leaf+in_ok-push-in-Leaf w ↦
          subst (λ (m : List (List Spot)). WalksFrom d c.args.dropped c.args.starts m c.match-branch-2.lists (place + 1)) (sym w.met-is)
          (walks-leaf d c.args.dropped c.args.starts met lists c.match-branch-2.lists place spots w.in-Leaf.states c.loop-place.invariant at
          (subst (IsStepFrom d c.args.dropped spots) w.in-Leaf.is c.in_ok-states.ensures) (w.lists-is ∙ w.in_ok-push-in-Leaf.ensures.ok))
      | in-Split+in_ok-insert-in-Split+in_ok-insert-in-Split-2 w ↦
          subst (λ (m : List (List Spot)). WalksFrom d c.args.dropped c.args.starts m c.match-branch-2.lists (place + 1)) (sym w.met-is)
          (subst (λ (ls : List (List ℕ)). WalksFrom d c.args.dropped c.args.starts w.insert-in-Split.new.self ls (place + 1)) (sym w.lists-is)
          (walks-split d c.args.dropped c.args.starts met w.insert.new.self w.insert-in-Split.new.self lists place spots w.in-Split.low.items
          w.in-Split.high.items c.requires.0 c.requires.1 c.loop-place.invariant at
          (subst (IsStepFrom d c.args.dropped spots) w.in-Split.is c.in_ok-states.ensures)
          w.in_ok-insert-in-Split.ensures.added w.in_ok-insert-in-Split.ensures.there
          w.in_ok-insert-in-Split-2.ensures.added w.in_ok-insert-in-Split-2.ensures.there))
    ]

pub returns-in_default : goal.returns-in_default
returns-in_default c = record {
  all = walked-all c.args.nodes.now c.args.dropped c.args.starts c.loop-place.met c.loop-place.lists c.loop-place.place c.requires.0
      c.requires.1 c.loop-place.invariant (past c.loop-place.met c.loop-place.place (sym c.in_default.ensures));
  only = c.loop-place.invariant.led;
}
