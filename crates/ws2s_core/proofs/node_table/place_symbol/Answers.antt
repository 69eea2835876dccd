use Rattle.ws2s_core.proofs.PlacingLemmas.{HasPartsBelow-taken, inside-placed, applied-pushed}
use Rattle.ws2s_core.proofs.node_table.place_symbol.Goals as goal

pub place_of-place-requires-clause-parts : goal.place_of-place-requires-clause-parts
place_of-place-requires-clause-parts c =
    HasPartsBelow-taken c.args.symbol c.args.parts.now.items c.node_of-node.new.parts.items c.node_of-node.result
    c.node_of-node.ensures.value _ c.requires.inside

pub returns-clause-inside : goal.returns-clause-inside
returns-clause-inside c =
    inside-placed c.args.symbol c.args.parts.now.items c.node_of-node.new.parts.items c.node_of-node.result
    c.node_of-node.ensures.value c.args.table.now.nodes.items c.place_of-place.new.table.nodes.items c.place_of-place.result
    c.requires.inside c.place_of-place.ensures.kept c.place_of-place.ensures.value c.push.new.self.items c.in-Ok.ensures.items

pub returns-clause-value : goal.returns-clause-value
returns-clause-value c =
    applied-pushed c.args.symbol c.args.parts.now.items c.node_of-node.new.parts.items c.node_of-node.result
    c.node_of-node.ensures.value c.place_of-place.new.table.nodes.items c.place_of-place.new.table.places c.place_of-place.result
    c.place_of-place.ensures.indexed c.place_of-place.ensures.value c.push.new.self.items c.in-Ok.ensures.items
