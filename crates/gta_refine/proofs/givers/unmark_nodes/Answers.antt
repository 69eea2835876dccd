-- One node after the other.
use Rattle.std.proofs.Common.{◌≡◌, ◌+◌, Bool, List, length, sym, ◌∙◌, ap, subst, arith}
use Rattle.gta_refine.proofs.ScratchLemmas.{NodesUnmarkedBelow, NodesUnmarkedBelow-none, NodesUnmarkedBelow-leaf, NodesUnmarkedBelow-node, nodes-unmarked-all}
use Rattle.gta_refine.proofs.givers.unmark_nodes.Goals as goal
use Rattle.gta_refine.proofs.givers.unmark_nodes.Goals.{in-Leaf, in-Inner}

pub loop-listed-init : goal.loop-listed-init
loop-listed-init c = NodesUnmarkedBelow-none c.args.marks.now.items c.args.list.now

pub loop-listed-preserved : goal.loop-listed-preserved
loop-listed-preserved c =
    let marks = c.args.marks.now.items in
    let list = c.args.list.now in
    let now = c.loop-listed.marks.items in
    let at = c.loop-listed.listed-index in
    elim c.match-listed.branch [
      | in-Leaf w ↦
          subst (λ (xs : List Bool). NodesUnmarkedBelow marks list xs (at + 1)) (sym (ap (λ v. v.items) w.marks-is))
          (NodesUnmarkedBelow-leaf marks list now at w.in-Leaf._state c.loop-listed.invariant w.in-Leaf.is)
      | in-Inner w ↦
          subst (λ (xs : List Bool). NodesUnmarkedBelow marks list xs (at + 1)) (sym (ap (λ v. v.items) w.marks-is ∙ w.unmark.ensures))
          (NodesUnmarkedBelow-node marks list now at w.in-Inner.index c.loop-listed.invariant w.in-Inner.is)
    ]

pub returns : goal.returns
returns c =
    let list = c.args.list.now in
    let end : c.loop-listed.listed-index ≡ length list =
    (let t = c.loop-listed-test.false in let e = c.loop-listed.auto.listed-index-end in omega arith) in
    nodes-unmarked-all c.args.marks.now.items list c.loop-listed.marks.items
    (subst (NodesUnmarkedBelow c.args.marks.now.items list c.loop-listed.marks.items) end c.loop-listed.invariant)
