use Rattle.std.proofs.Common.{ℕ, List, ◌++◌, sym, ◌∙◌, ap, subst}
use Rattle.bdd_nodes.specs.declared.node_ref.NodeRef.{NodeRef}
use Rattle.gta_core.specs.Placing.{Shares}
use Rattle.gta_core.proofs.PlacingLemmas.{Shares-each}
use Rattle.gta_core.proofs.build.share.Goals as goal

pub returns : goal.returns
returns c =
    let given = c.args.given.now in
    let old = c.args.roots.now in
    subst (λ (xs : List NodeRef). Shares given old c.in_ok-cells.cells xs)
    (sym (c.in_ok-append.ensures.ok ∙ ap (λ (more : List NodeRef). old ++ more) c.in_ok-from_slice.ensures))
    (subst (λ (cells : List ℕ). Shares given old cells (old ++ given)) (sym c.in_ok-cells.ensures) (Shares-each given old))
