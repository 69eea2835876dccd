use Rattle.whole_turns.specs.declared.activation.Suspended.{Suspended}
use Rattle.whole_turns.proofs.Values.{waits_is, begun}
use Rattle.whole_turns.proofs.calling.begin_on.Goals as goal

pub returns : goal.returns
returns c =
    let w : Suspended = record { call = c.args.call; caller = c.args.activation; rest = c.in_ok-rest.rest } in
    begun c.args.program.now c.args.call.now c.args.activation c.args.store c.args.cells.now c.args.waiting.now c.push.new.self
    c.in_ok-callee.callee c.in_ok-handed.handed w c.in_ok-callee.ensures c.requires.part c.in_ok-handed.ensures c.in_ok-push.ensures.ok
    (waits_is c.args.call c.args.activation c.args.store c.args.cells.now c.in_ok-rest.rest c.in_ok-rest.ensures)
