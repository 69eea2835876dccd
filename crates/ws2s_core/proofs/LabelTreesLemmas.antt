-- On what labelled trees stand for.
use Rattle.std.proofs.Common.{◌≡◌, ℕ, suc, ◌-◌, true, false, List, [], ◌∷◌, ◌++◌, length, slice_get, unwrap_or, Option, Some}
use Rattle.std.proofs.Common.{None, inl, inr, refl, sym, subst, arith}
use Rattle.std.proofs.lemmas.Option.{slice_get_within}
use Rattle.gta_theory.specs.Assignments.{Assignment, Covers, empty_assignment}
use Rattle.gta_theory.specs.Listed.{meanings}
use Rattle.gta_theory.proofs.AssignmentsLemmas.{Covers-more}
use Rattle.gta_theory.proofs.ListedLemmas.{meanings_from, length-meanings, slice_get-push}
use Rattle.ws2s_core.specs.declared.label_tree.TreeNode.{TreeNode}
use Rattle.ws2s_core.specs.LabelTrees.{child_assignment, node_assignment, assignment_of}

-- each of the assignments is covered by one more than its place
record AreCovered (known : List Assignment) : Type 0 where
  at : (k : ℕ) (a : Assignment) → slice_get known k ≡ Some a → Covers (suc k) a

child-covered : (known : List Assignment) → AreCovered known → (child : Option ℕ) → Covers (length known) (child_assignment known child)
child-covered known covered None = λ t p deep. refl
child-covered known covered (Some k) = pick (slice_get known k) refl
  where
    pick : (o : Option Assignment) → slice_get known k ≡ o → Covers (length known) (unwrap_or o empty_assignment)
    pick None at = λ t p deep. refl
    pick (Some a) at = Covers-more (suc k) (length known) a (omega (arith, slice_get_within known k a at)) (covered.at k a at)

node-covered : (known : List Assignment) → AreCovered known → (node : TreeNode) → Covers (suc (length known)) (node_assignment known node)
node-covered known covered node t [] deep = absurd (omega arith)
node-covered known covered node t (false ∷ p) deep = child-covered known covered node.left t p (omega arith)
node-covered known covered node t (true ∷ p) deep = child-covered known covered node.right t p (omega arith)

AreCovered-push : (known : List Assignment) (node : TreeNode) → AreCovered known → AreCovered (known ++ node_assignment known node ∷ [])
AreCovered-push known node covered = record {
  at = λ k a at. elim (slice_get-push known (node_assignment known node) a k at) as (λ _. Covers (suc k) a) [
    | inl old ↦ covered.at k a old
    | inr new ↦ subst (λ n. Covers (suc n) a) (sym new.0) (subst (Covers (suc (length known))) new.1 (node-covered known covered node))
  ];
}

AreCovered-meanings : (known : List Assignment) (nodes : List TreeNode) → AreCovered known → AreCovered (meanings_from node_assignment known nodes)
AreCovered-meanings known [] covered = covered
AreCovered-meanings known (node ∷ nodes) covered = AreCovered-meanings (known ++ node_assignment known node ∷ []) nodes (AreCovered-push known node covered)

-- the number of nodes covers what any of them stands for
pub Covers-at : (nodes : List TreeNode) (k : ℕ) → Covers (length nodes) (unwrap_or (slice_get (meanings node_assignment nodes) k) empty_assignment)
Covers-at nodes k = pick (slice_get (meanings node_assignment nodes) k) refl
  where
    pick : (o : Option Assignment) → slice_get (meanings node_assignment nodes) k ≡ o → Covers (length nodes) (unwrap_or o empty_assignment)
    pick None at = λ t p deep. refl
    pick (Some a) at =
        let inside = slice_get_within (meanings node_assignment nodes) k a at in
        Covers-more (suc k) (length nodes) a (omega (arith, length-meanings node_assignment nodes))
        ((AreCovered-meanings [] nodes (record { at = λ k b none. absurd cc })).at k a at)

-- and what they stand for
pub Covers-tree : (nodes : List TreeNode) → Covers (length nodes) (assignment_of nodes)
Covers-tree nodes = Covers-at nodes (length nodes - 1)
