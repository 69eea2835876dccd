-- Pairs that a test calls equal are equal.
use Rattle.std.specs.Prelude.{◌≡◌, true, nat_eq, ◌&&◌}
use Rattle.std.proofs.Common.{◌∙◌, ap}
use Rattle.bdd_nodes.specs.declared.node_ref.NodeRef.{NodeRef}
use Rattle.bdd_walk.specs.declared.two_roots.RefPair.{RefPair}
use Rattle.bdd_walk.specs.Laws.{and-left, and-right, same_word}

pub same_pair : (a b : RefPair) → (nat_eq a.left.word b.left.word && nat_eq a.right.word b.right.word) ≡ true → a ≡ b
same_pair a b e =
    ap (λ (r : NodeRef). let p : RefPair = record { left = r; right = a.right } in p)
    (same_word a.left b.left (and-left (nat_eq a.left.word b.left.word) (nat_eq a.right.word b.right.word) e))
    ∙ ap (λ (r : NodeRef). let p : RefPair = record { left = b.left; right = r } in p)
    (same_word a.right b.right (and-right (nat_eq a.left.word b.left.word) (nat_eq a.right.word b.right.word) e))
