use Rattle.pale_judging.proofs.CheckingLemmas.{GoesOn}
use Rattle.pale_judging.proofs.MeetingLemmas.{MeetsWrote}
use Rattle.bdd_nodes.specs.Shelf.{limit_of}
use Rattle.pale_judging.proofs.meet.meet_triples.Given as goal

-- the triples so far are told of
abbrev pub invariant-loop-t : goal.invariant-loop-t
invariant-loop-t g l =
    GoesOn (MeetsWrote (limit_of l.initial.shelf) l.whole.typed l.whole.triples
    (g.K.Sink.written l.initial.sink) l.t-index (g.K.Sink.written l.sink) l.ways.items) l.initial.shelf l.shelf
    (g.K.Sink.faults l.initial.sink) (g.K.Sink.faults l.sink)
