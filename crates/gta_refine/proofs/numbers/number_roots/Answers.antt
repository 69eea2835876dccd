-- References that stand for the roots tell them apart.
use Rattle.std.proofs.Common.{List, subst}
use Rattle.bdd_nodes.specs.declared.node_ref.NodeRef.{NodeRef}
use Rattle.bdd_list.specs.declared.listing.Listed.{Listed}
use Rattle.bdd_list.specs.declared.listing.ListedNode.{ListedNode}
use Rattle.gta_refine.specs.Numbered.{AreNumbered, StandFor}
use Rattle.gta_refine.proofs.NumbersLemmas.{TellApart-all}
use Rattle.gta_refine.proofs.numbers.number_roots.Goals as goal

pub returns : goal.returns
returns c =
    let classes = c.args.classes.now in
    let listing = c.args.listing.now in
    let refs = c.in_ok-refs.refs.items in
    TellApart-all c.number_nodes.new.shelf classes listing refs c.in_ok-numbers.numbers c.in_ok-refs.ensures.shelf
    (subst (λ (ns : List ListedNode). AreNumbered c.number_nodes.new.shelf classes ns refs) c.as_slice-nodes.ensures c.in_ok-refs.ensures.numbered)
    (subst (λ (rs : List NodeRef). StandFor classes rs listing.roots c.in_ok-numbers.numbers) c.deref.ensures.value
    (subst (λ (ls : List Listed). StandFor classes c.deref.result.now ls c.in_ok-numbers.numbers) c.as_slice.ensures c.in_ok-numbers.ensures))
