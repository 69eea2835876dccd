use Rattle.std.proofs.Common.{◌≡◌, ◌++◌, length}
use Rattle.witness_store.specs.Orders.{preorder_of}
use Rattle.witness_store.proofs.OrdersLemmas.{waiting_for}
use Rattle.witness_store.proofs.preorder.preorder.Given as goal

-- the places so far, and those that follow, are all
abbrev pub invariant-loop-place : goal.invariant-loop-place
invariant-loop-place l = l.places.items ++ waiting_for l.nodes l.waiting.items ≡ preorder_of l.nodes

abbrev pub decreases-loop-place : goal.decreases-loop-place
decreases-loop-place l = length (waiting_for l.nodes l.waiting.items)
