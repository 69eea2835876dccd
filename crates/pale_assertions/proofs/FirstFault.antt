-- Steps of the search for the first fault of an assertion, whose parts are read one after the other.
use Rattle.pale_tables.proofs.FaultLemmas.{stop-then, stop-after, none-then, met-after, stop-last}

pub ruleset faults = (stop-then, stop-after, none-then, met-after, stop-last)
