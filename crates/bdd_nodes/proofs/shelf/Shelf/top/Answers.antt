use Rattle.std.proofs.Common.{◌<◌, ◌≡◌, length, sym, ◌∙◌, ap, subst}
use Rattle.std.proofs.lemmas.List.{get_or_read}
use Rattle.bdd_nodes.specs.declared.node.Node.{Node}
use Rattle.bdd_nodes.specs.Nodes.{IsNamedIn, node_at}
use Rattle.bdd_nodes.specs.Shelf.{Contents, IsShelf, Splits}
use Rattle.bdd_nodes.proofs.ReadLemmas.{Splits-inner}
use Rattle.bdd_nodes.proofs.shelf.Shelf.top.Goals as goal

pub returns-in-Inner-clause-splits : goal.returns-in-Inner-clause-splits
returns-in-Inner-clause-splits c =
    let shelf = c.args.self.now in
    let named = sym c.in-Inner.ensures in
    let within : c.in-Inner.index < length shelf.nodes = subst (IsNamedIn shelf.nodes) named c.requires in
    let read : c.index.result.now ≡ node_at shelf.nodes c.in-Inner.index =
    get_or_read c.self.inside.nodes.items _ _ (subst (λ (s : Contents). c.in-Inner.index < length s.nodes) (sym c.self.view_is) within) c.index.ensures _
    ∙ ap (λ (s : Contents). node_at s.nodes c.in-Inner.index) c.self.view_is in
    subst (λ (n : Node). Splits shelf c.args.n n.track) (sym read)
    (Splits-inner shelf (subst IsShelf c.self.view_is c.self.invariant.shelf) c.args.n c.in-Inner.index named within)
