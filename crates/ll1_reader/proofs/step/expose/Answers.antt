use Rattle.std.proofs.Common.{refl, sym, subst, ◌<◌}
use Rattle.ll1_reader.specs.Frames.{stack_of}
use Rattle.ll1_reader.proofs.AdvanceLemmas.{exposing_first, exposing_more, exposed_by, sticks_by, popped}
use Rattle.ll1_reader.proofs.MoveLemmas.{moves_at, move_smaller}
use Rattle.ll1_reader.proofs.step.expose.Goals as goal

pub loop-frame-init : goal.loop-frame-init
loop-frame-init g c = exposing_first g.G.Grammar.rules g.G.Grammar.table c.args.next c.args.work.now

pub loop-frame-smaller : goal.loop-frame-smaller
loop-frame-smaller g c =
    let top = popped g.G.Grammar.rules g.G.Grammar.table c.loop-frame.work.frames.items c.pop.new.self.items c.in-Some.frame c.in-Some.ensures.items in
    let once = rw c.in-Moved.is at c.in_ok-make_move.ensures in
    subst (λ x. moves_at g.G.Grammar.rules g.G.Grammar.table (stack_of c.make_move.new.work) < moves_at g.G.Grammar.rules g.G.Grammar.table x) (sym top)
    (move_smaller g.G.Grammar.rules g.G.Grammar.table g.met.G.Grammar.sound once.moved)

pub loop-frame-preserved : goal.loop-frame-preserved
loop-frame-preserved g c =
    let top = popped g.G.Grammar.rules g.G.Grammar.table c.loop-frame.work.frames.items c.pop.new.self.items c.in-Some.frame c.in-Some.ensures.items in
    exposing_more g.G.Grammar.rules g.G.Grammar.table c.args.next c.in-Some.frame.rest.now c.in-Some.frame.depth
    c.args.work.now c.loop-frame.work _ c.make_move.new.work c.loop-frame.invariant top refl
    (rw c.in-Moved.is at c.in_ok-make_move.ensures)

pub returns-in-Ready : goal.returns-in-Ready
returns-in-Ready g c =
    let top = popped g.G.Grammar.rules g.G.Grammar.table c.loop-frame.work.frames.items c.pop.new.self.items c.in-Some.frame c.in-Some.ensures.items in
    exposed_by g.G.Grammar.rules g.G.Grammar.table c.args.next c.in-Some.frame.rest.now c.in-Some.frame.depth c.args.work.now
    c.loop-frame.work _ c.make_move.new.work c.loop-frame.invariant top refl
    (rw c.in-Ready.is at c.in_ok-make_move.ensures)

pub returns-in-Stuck : goal.returns-in-Stuck
returns-in-Stuck g c =
    let top = popped g.G.Grammar.rules g.G.Grammar.table c.loop-frame.work.frames.items c.pop.new.self.items c.in-Some.frame c.in-Some.ensures.items in
    sticks_by g.G.Grammar.rules g.G.Grammar.table c.args.next c.in-Some.frame.rest.now c.in-Some.frame.depth c.args.work.now c.loop-frame.work
    (record { frames = c.pop.new.self; events = c.loop-frame.work.events }) c.loop-frame.invariant top
    (rw c.in-Stuck.is at c.in_ok-make_move.ensures)
