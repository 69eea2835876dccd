use Rattle.std.proofs.Common.{◌≡◌, ◌++◌, [], sym, ap, subst, ◌∙◌, append-nil, arith}
use Rattle.std.proofs.lemmas.List.{nil_from_length}
use Rattle.ws2s_core.specs.LabelTrees.{IsTree}
use Rattle.witness_store.specs.Orders.{preorder_of}
use Rattle.witness_store.proofs.OrdersLemmas.{waiting_for, waiting-root, waiting-kept, waiting-less}
use Rattle.witness_store.proofs.preorder.preorder.Goals as goal

pub loop-place-init : goal.loop-place-init
loop-place-init c =
    let nodes = c.nodes-nodes.result.now in
    ap (λ l. l ++ waiting_for nodes c.in_ok-waiting.waiting.items) c.new-places.ensures.items ∙ ap (waiting_for nodes) c.in_ok-waiting.ensures ∙
    waiting-root nodes

pub loop-place-preserved : goal.loop-place-preserved
loop-place-preserved c =
    let nodes = c.nodes-nodes.result.now in
    waiting-kept nodes (subst IsTree (sym c.nodes-nodes.ensures.value) c.nodes-nodes.ensures.inside) c.loop-place.waiting.items c.pop.new.self.items
    c.push_children.new.waiting.items c.in-Some.place c.in-Some.ensures.items c.in_ok-push_children.ensures c.loop-place.places.items c.push.new.self.items
    (preorder_of nodes) c.in_ok-push.ensures.items c.loop-place.invariant

pub loop-place-smaller : goal.loop-place-smaller
loop-place-smaller c =
    let nodes = c.nodes-nodes.result.now in
    waiting-less nodes (subst IsTree (sym c.nodes-nodes.ensures.value) c.nodes-nodes.ensures.inside) c.loop-place.waiting.items c.pop.new.self.items
    c.push_children.new.waiting.items c.in-Some.place c.in-Some.ensures.items c.in_ok-push_children.ensures

pub returns : goal.returns
returns c =
    let nodes = c.nodes-nodes.result.now in
    let l = c.loop-place in
    let none : l.waiting.items ≡ [] = nil_from_length l.waiting.items (let n = c.in_default.ensures.cases.0 in let v = l.waiting.ok.0 in omega arith) in
    let all : l.places.items ≡ preorder_of nodes =
    sym (append-nil l.places.items) ∙ ap (λ w. l.places.items ++ waiting_for nodes w) (sym none) ∙ l.invariant in
    all ∙ ap preorder_of c.nodes-nodes.ensures.value
