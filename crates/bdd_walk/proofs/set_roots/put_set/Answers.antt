use Rattle.std.proofs.Common.{List, ◌++◌, ◌∙◌, ap, subst}
use Rattle.std.proofs.lemmas.List.Filters.{dedup_is}
use Rattle.bdd_nodes.specs.declared.node_ref.NodeRef.{NodeRef}
use Rattle.bdd_walk.specs.Sides.{IsSetOf}
use Rattle.bdd_walk.proofs.SetWeightLemmas.{IsSetOf-made}
use Rattle.bdd_walk.proofs.set_roots.put_set.Goals as goal

pub returns : goal.returns
returns c =
    let all = c.in_ok-extend_from_slice.ensures.items ∙ ap (λ (rs : List NodeRef). rs ++ c.args.refs.now) c.clear.ensures.items in
    subst (λ (rs : List NodeRef). IsSetOf rs c.dedup.new.self.items) all
    (IsSetOf-made _ _ _ c.sort_unstable.ensures.permutation (dedup_is _ _ _ c.dedup.ensures.filtered))
