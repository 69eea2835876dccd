use Rattle.pale_judging.proofs.CheckingLemmas.{GoesOn, TriplesWrote}
use Rattle.bdd_nodes.specs.Shelf.{limit_of}
use Rattle.pale_judging.proofs.check_parts.check_triples.Given as goal

-- the triples so far are reported on
abbrev pub invariant-loop-t : goal.invariant-loop-t
invariant-loop-t g l =
    GoesOn (TriplesWrote (limit_of l.initial.shelf) l.whole.typed l.whole.triples
    (g.K.Sink.written l.initial.sink) l.t-index (g.K.Sink.written l.sink) l.ways.items) l.initial.shelf l.shelf
    (g.K.Sink.faults l.initial.sink) (g.K.Sink.faults l.sink)
