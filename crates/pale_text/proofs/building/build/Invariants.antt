use Rattle.std.proofs.Common.{◌≡◌, drop}
use Rattle.std.specs.Option.{option_copied}
use Rattle.std.specs.Prelude.{None}
use Rattle.pale_text.specs.Making.{run}
use Rattle.pale_text.proofs.building.build.Given as goal

-- the events that are left make of the parts so far what all events make
abbrev pub invariant-loop-event : goal.invariant-loop-event
invariant-loop-event g l =
    run g.L.Language.after (drop l.event-index l.events) (option_copied l.last) l.left (g.L.Language.made_of l.parts)
    ≡ run g.L.Language.after l.fn.events None l.fn.tokens g.L.Language.nothing
