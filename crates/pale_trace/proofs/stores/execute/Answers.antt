use Rattle.std.proofs.Common.{length}
use Rattle.pale_replay.proofs.ArrivalLemmas.{ends-below}
use Rattle.pale_trace.proofs.stores.execute.Goals as goal

pub trace_triple-requires-clause-places : goal.trace_triple-requires-clause-places
trace_triple-requires-clause-places c at place runs =
    ends-below c.args.types.now (length (c.args.triple.now).cuts) (c.args.triple.now).code c.args.store at place c.requires.triple.tails runs
