-- What is kept of what is shown.
use Rattle.std.specs.Prelude.{List, ◌++◌, Option, option_map}
use Rattle.store_trace.specs.declared.event.Event.{Event}

-- what was kept, and then these; nothing where nothing is kept
abbrev pub recorded : Option (List Event) → List Event → Option (List Event)
recorded kept shown = option_map (λ events. events ++ shown) kept
