use Rattle.std.proofs.Common.{◌+◌, ℕ, List, [], ◌∷◌, ◌++◌, take, get_or, sym, subst, arith}
use Rattle.std.proofs.lemmas.List.{take_more}
use Rattle.bdd_nodes.specs.declared.node_ref.NodeRef.{NodeRef}
use Rattle.gta_core.specs.Auto.{root_among}
use Rattle.gta_subsets.specs.Roots.{AddRoots}
use Rattle.gta_subsets.proofs.RootsLemmas.{AddRoots-right}
use Rattle.gta_subsets.proofs.roots.push_roots.Goals as goal

pub loop-right-preserved : goal.loop-right-preserved
loop-right-preserved c =
    let i = c.loop-right.right-index in
    let rights = c.args.rights.now in
    let at = root_among c.args.table.now c.args.own.now in
    let more = AddRoots-right at c.args.left (take i rights) (get_or rights i 0) c.args.roots.now.items
    c.loop-right.roots.items c.in-Some.root c.loop-right.invariant (sym c.in-Some.ensures) in
    subst (λ (xs : List NodeRef). AddRoots at (c.args.left ∷ []) (take (i + 1) rights) c.args.roots.now.items xs)
    (sym c.in_ok-push.ensures.items)
    (subst (λ (ps : List ℕ). AddRoots at (c.args.left ∷ []) ps c.args.roots.now.items
    (c.loop-right.roots.items ++ c.in-Some.root ∷ []))
    (sym (take_more rights i 0 (omega arith))) more)
