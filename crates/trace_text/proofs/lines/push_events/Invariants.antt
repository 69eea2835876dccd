use Rattle.std.proofs.Common.{◌≡◌, ◌++◌, drop}
use Rattle.trace_text.specs.TraceLines.{lines_from, trace_lines}
use Rattle.trace_text.proofs.lines.push_events.Given as goal

-- what is written, and the lines of the events that are left, are all lines
abbrev pub invariant-loop-event : goal.invariant-loop-event
invariant-loop-event l =
    l.text.items ++ lines_from l.program l.nesting (drop l.event-index l.events) ≡ l.initial.text.items ++ trace_lines l.program l.proc l.events
