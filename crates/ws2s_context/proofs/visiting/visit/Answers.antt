use Rattle.std.proofs.Common.{◌<◌, length, sym, arith}
use Rattle.std.proofs.lemmas.List.Elements.{All-weaker}
use Rattle.ws2s_core.specs.Nodes.{form_of}
use Rattle.ws2s_core.specs.Postfix.{parts_of}
use Rattle.ws2s_core.proofs.NodesLemmas.{formula_at-is}
use Rattle.ws2s_context.proofs.visiting.visit.Goals as goal

pub take_apart-requires-clause-is : goal.take_apart-requires-clause-is
take_apart-requires-clause-is c = formula_at-is c.args.interner.now c.args.place.id.0 _ (sym c.in-Some.ensures.value)

pub take_apart-requires-clause-parts : goal.take_apart-requires-clause-parts
take_apart-requires-clause-parts c =
    let there = c.requires.place.id_there in
    All-weaker (λ part. part < c.args.place.id.0) (λ part. part < length c.args.interner.now) (λ part below. omega (arith, there))
    (parts_of (form_of c.in-Some.node)) c.in-Some.ensures.parts
