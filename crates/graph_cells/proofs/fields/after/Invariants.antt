use Rattle.std.proofs.Common.{◌≡◌, reverse, take}
use Rattle.graph_view.specs.Fields.{after}
use Rattle.graph_cells.specs.Saying.{says}
use Rattle.graph_cells.proofs.fields.after.Given as goal

abbrev pub invariant-loop-event : goal.invariant-loop-event
invariant-loop-event l = l.formula ≡ after l.fn.next l.fn.f l.fn.a (says l.fn.next l.fn.saying) l.fn.first (reverse (take l.event-index l.event-items))
