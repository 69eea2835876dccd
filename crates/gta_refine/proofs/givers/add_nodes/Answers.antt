-- One node more.
use Rattle.std.proofs.Common.{◌≡◌, ◌<◌, Bool, false, List, length, sym, ◌∙◌, ap, subst, arith}
use Rattle.std.specs.Prelude.{slice_index, slice_index_or}
use Rattle.gta_refine.proofs.ClimbLemmas.{AddsBelow, AddsBelow-same, AddsBelow-found, AddsBelow-push, AddsNodes-all}
use Rattle.gta_refine.proofs.givers.add_nodes.Goals as goal
use Rattle.gta_refine.proofs.givers.add_nodes.Goals.{then-not-is_marked+in_ok-push, else-not-is_marked}

pub loop-node-preserved : goal.loop-node-preserved
loop-node-preserved c =
    let nodes = c.args.nodes.now in
    let was_found = c.args.found.now.items in
    let was_list = c.args.list.now.items in
    let at = c.loop-node.node-index in
    let found = c.loop-node.found.items in
    let list = c.loop-node.list.items in
    let inside : at < length nodes = (let t = c.loop-node-test.true in let e = c.loop-node.auto.node-index-end in omega arith) in
    elim c.if-not-is_marked.branch [
      | then-not-is_marked+in_ok-push w ↦
          AddsBelow-same nodes was_found was_list _ c.if-not-is_marked.found.items _ c.if-not-is_marked.list.items _
          (sym (ap (λ v. v.items) w.found-is ∙ w.mark.ensures)) (sym (ap (λ v. v.items) w.list-is ∙ w.in_ok-push.ensures.items))
          (AddsBelow-push nodes was_found was_list found list at c.loop-node.invariant inside)
      | else-not-is_marked w ↦
          AddsBelow-same nodes was_found was_list _ c.if-not-is_marked.found.items _ c.if-not-is_marked.list.items _
          (sym (ap (λ v. v.items) w.found-is)) (sym (ap (λ v. v.items) w.list-is))
          (AddsBelow-found nodes was_found was_list found list at c.loop-node.invariant
          (ap (λ (xs : List Bool). slice_index_or xs (slice_index nodes at) false) (sym c.deref.ensures.value) ∙ sym c.is_marked.ensures
          ∙ w.if-not-is_marked.false))
    ]

pub returns : goal.returns
returns c =
    let nodes = c.args.nodes.now in
    let end : c.loop-node.node-index ≡ length nodes = (let t = c.loop-node-test.false in let e = c.loop-node.auto.node-index-end in omega arith) in
    AddsNodes-all nodes c.args.found.now.items c.args.list.now.items c.loop-node.found.items c.loop-node.list.items
    (subst (AddsBelow nodes c.args.found.now.items c.args.list.now.items c.loop-node.found.items c.loop-node.list.items) end c.loop-node.invariant)
