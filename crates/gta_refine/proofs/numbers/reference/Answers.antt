-- A leaf stands for a state's class, and a reference for its node.
use Rattle.std.proofs.Common.{◌≤◌, length, sym, subst, arith}
use Rattle.std.specs.Prelude.{slice_index_or}
use Rattle.std.proofs.lemmas.Option.{slice_get-get_or}
use Rattle.bdd_nodes.specs.declared.node_ref.NodeRef.{NodeRef}
use Rattle.bdd_list.specs.declared.listing.Listed.{Listed}
use Rattle.bdd_list.specs.Listing.{rank}
use Rattle.gta_refine.specs.Numbered.{Stands}
use Rattle.gta_refine.proofs.NumbersLemmas.{Stands-leaf}
use Rattle.gta_refine.proofs.numbers.reference.Goals as goal

pub returns-in-Leaf : goal.returns-in-Leaf
returns-in-Leaf c = λ shelf nodes numbered.
    subst (λ (l : Listed). Stands shelf c.args.classes.now nodes l c.leaf.result) (sym c.in-Leaf.is)
    (Stands-leaf shelf c.args.classes.now nodes c.in-Leaf.state c.class_of.result c.leaf.result c.leaf.ensures c.class_of.ensures.value)

pub returns-in-Inner : goal.returns-in-Inner
returns-in-Inner c = λ shelf nodes numbered.
    let refs = c.args.refs.now in
    let i = c.in-Inner.index in
    let inside = subst (λ (l : Listed). rank l ≤ length refs) c.in-Inner.is c.requires.inside in
    let r : NodeRef = slice_index_or refs i (record { word = 0 }) in
    numbered.each i r c.in-Inner.is (slice_get-get_or refs i (record { word = 0 }) (omega arith))
