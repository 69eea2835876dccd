use Rattle.pale_judging.proofs.CheckingLemmas.{GoesOn, FieldsWrote}
use Rattle.bdd_nodes.specs.Shelf.{limit_of}
use Rattle.pale_judging.proofs.check_parts.check_fields.Given as goal

-- the fields so far are reported on
abbrev pub invariant-loop-f : goal.invariant-loop-f
invariant-loop-f g l =
    GoesOn (FieldsWrote (limit_of l.initial.shelf) l.whole.typed.types (g.K.Sink.written l.initial.sink)
    l.f-index (g.K.Sink.written l.sink) l.ways.items) l.initial.shelf l.shelf (g.K.Sink.faults l.initial.sink) (g.K.Sink.faults l.sink)
