use Rattle.std.proofs.Common.{refl, subst}
use Rattle.ll1_reader.specs.Moves.{IsReady}
use Rattle.ll1_reader.proofs.AdvanceLemmas.{fed_by, popped}
use Rattle.ll1_reader.proofs.step.feed.Goals as goal

pub take_token-requires-after_bounds : goal.take_token-requires-after_bounds
take_token-requires-after_bounds g c κs within =
    let exposed = rw c.if-not-branch.false at c.in_ok-expose.ensures in
    subst IsReady
    (popped g.G.Grammar.rules g.G.Grammar.table c.expose.new.work.frames.items c.pop.new.self.items c.in-Some.frame c.in-Some.ensures.items)
    exposed.ready

pub returns : goal.returns
returns g c =
    let exposed = rw c.if-not-branch.false at c.in_ok-expose.ensures in
    fed_by g.G.Grammar.rules g.G.Grammar.table c.args.limit c.args.kind c.in-Some.frame.rest.now c.in-Some.frame.depth
    c.args.work.now c.expose.new.work (record { frames = c.pop.new.self; events = c.expose.new.work.events })
    c.take_token.new.work c.take_token.result exposed
    (popped g.G.Grammar.rules g.G.Grammar.table c.expose.new.work.frames.items c.pop.new.self.items c.in-Some.frame c.in-Some.ensures.items)
    refl c.take_token.ensures
