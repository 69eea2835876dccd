use Rattle.pale_trace.proofs.EndingLemmas.{ends_replayed, ends_ran}
use Rattle.pale_trace.proofs.laws.traces_end_as_executions.Goals as goal

pub returns-clause-replays : goal.returns-clause-replays
returns-clause-replays c program t e s =
    ends_replayed program t e s c.triples_end_as_traced.ensures.fails c.triples_end_as_traced.ensures.ends

pub returns-clause-runs : goal.returns-clause-runs
returns-clause-runs c program number steps e s = ends_ran program number steps e s c.traces_are_whole_runs.ensures.answers
