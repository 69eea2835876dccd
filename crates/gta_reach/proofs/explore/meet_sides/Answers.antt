-- The sides give what the node gives.
use Rattle.std.proofs.Common.{sym, subst}
use Rattle.bdd_list.specs.declared.listing.Listed.TheVariants.{Inner}
use Rattle.bdd_list.specs.declared.listing.ListedNode.{ListedNode}
use Rattle.gta_reach.specs.Exploring.{GivesGenerated}
use Rattle.gta_reach.proofs.ExploreLemmas.{space-inside, node-inside, GivesGenerated-low, GivesGenerated-high}
use Rattle.gta_reach.proofs.explore.meet_sides.Goals as goal

pub space-requires : goal.space-requires
space-requires c = space-inside c.args.form.now c.args.s (Inner c.args.index) c.requires.node

pub node-node-requires : goal.node-node-requires
node-node-requires c = node-inside c.args.form.now c.args.s c.space.result.now c.space.ensures c.requires.form c.args.index c.requires.node

pub returns-clause-met : goal.returns-clause-met
returns-clause-met c =
    let form = c.args.form.now in
    let s = c.args.s in
    let space = c.space.result.now in
    let low : GivesGenerated form s c.node-node.result.low = subst (λ (n : ListedNode). GivesGenerated form s n.low) (sym c.node-node.ensures)
    (GivesGenerated-low form s space c.space.ensures c.requires.form c.args.index c.requires.node) in
    let high : GivesGenerated form s c.node-node.result.high = subst (λ (n : ListedNode). GivesGenerated form s n.high) (sym c.node-node.ensures)
    (GivesGenerated-high form s space c.space.ensures c.requires.form c.args.index c.requires.node) in
    c.in_ok-meet-2.ensures.met form (c.in_ok-meet.ensures.met form c.requires.met low) high
