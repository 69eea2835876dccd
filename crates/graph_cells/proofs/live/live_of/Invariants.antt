use Rattle.std.proofs.Common.{◌≡◌, reverse, take}
use Rattle.graph_view.specs.Live.{live_of}
use Rattle.graph_view.specs.Sights.{var_slots}
use Rattle.graph_cells.proofs.live.live_of.Given as goal

abbrev pub invariant-loop-event : goal.invariant-loop-event
invariant-loop-event l = l.formula ≡ live_of l.l.types l.fn.next (var_slots l.l.vars) l.fn.v l.fn.a (reverse (take l.event-index l.event-items))
