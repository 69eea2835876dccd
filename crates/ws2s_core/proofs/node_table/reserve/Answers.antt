use Rattle.std.proofs.Common.{sym, subst, List}
use Rattle.ws2s_core.specs.declared.node.Node.{Node}
use Rattle.ws2s_core.specs.Nodes.{IsIndexed}
use Rattle.ws2s_core.proofs.NodesLemmas.{IsIndexed-same}
use Rattle.ws2s_core.proofs.node_table.reserve.Goals as goal

pub returns-clause-indexed : goal.returns-clause-indexed
returns-clause-indexed c =
    subst (λ (nodes : List Node). IsIndexed nodes c.reserve-2.new.self) (sym c.reserve.ensures.items)
    (IsIndexed-same c.args.table.now.nodes.items c.args.table.now.places c.reserve-2.new.self c.requires.indexed
    c.reserve-2.ensures.entries.2)
