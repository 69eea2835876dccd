use Rattle.std.proofs.Common.{◌≡◌, length, sym, arith}
use Rattle.ws2s_core.proofs.NodesLemmas.{IsIndexed-pushed, slice_get-pushed}
use Rattle.ws2s_core.proofs.node_table.place_of.Goals as goal

pub returns-in-Some-clause-value : goal.returns-in-Some-clause-value
returns-in-Some-clause-value c =
    c.requires.indexed.sound c.in-Some.place.now c.args.node (sym c.in-Some.ensures.value)

pub returns-clause-indexed : goal.returns-clause-indexed
returns-clause-indexed c =
    let place : c.len-place.result ≡ length c.args.table.now.nodes.items = omega (arith, c.args.table.now.nodes.ok.0) in
    IsIndexed-pushed c.args.table.now.nodes.items c.push.new.self.items c.args.table.now.places c.insert.new.self c.args.node
    c.len-place.result c.requires.indexed place (omega arith) c.requires.parts (sym c.in_default.ensures.value)
    c.in-Ok.ensures.updates.0 c.in-Ok-push.ensures.items

pub returns-clause-value : goal.returns-clause-value
returns-clause-value c =
    let place : c.len-place.result ≡ length c.args.table.now.nodes.items = omega (arith, c.args.table.now.nodes.ok.0) in
    slice_get-pushed c.args.table.now.nodes.items c.push.new.self.items c.args.node c.len-place.result place c.in-Ok-push.ensures.items
