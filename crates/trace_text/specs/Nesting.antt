-- Which procedure runs, and which calls wait, as the events of a trace say.
use Rattle.std.specs.Prelude.{List, [], ◌∷◌}
use Rattle.store_trace.specs.declared.event.Event.{Event}
use Rattle.store_trace.specs.declared.event.Event.TheVariants as event
use Rattle.trace_text.specs.declared.nesting.Call.{Call}
use Rattle.trace_text.specs.declared.nesting.Nesting.{Nesting}

-- where the last call that waits is over, its caller runs
abbrev pub returned : Nesting → List Call → Nesting
returned n [] = n
returned n (call ∷ calls) = record { proc = call.caller; calls = calls }

-- after an event
abbrev pub after : Nesting → Event → Nesting
after n (event.Call line callee) = record { proc = callee; calls = record { line = line; caller = n.proc } ∷ n.calls }
after n event.Return = returned n n.calls
after n _ = n
