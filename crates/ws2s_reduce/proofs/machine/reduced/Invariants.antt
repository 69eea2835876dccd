use Rattle.std.proofs.Common.{◌≡◌, Some, [], ◌∷◌, map, reverse}
use Rattle.ws2s_syntax.specs.Sentences.{sentence_of}
use Rattle.ws2s_reduce.specs.Reducing.{reduced, no_reductions, reductions_from}
use Rattle.ws2s_reduce.specs.Building.{steps_of, finished, steps_work}
use Rattle.ws2s_reduce.proofs.machine.reduced.Given as goal

abbrev pub invariant-loop-task : goal.invariant-loop-task
invariant-loop-task l =
    finished l.predicates (steps_of l.machine.tasks.items) l.machine.tracks.items (reverse l.machine.parts.items)
    ≡ Some (reduced (reductions_from no_reductions 0 (map (λ p. sentence_of p.body) l.predicates)) l.fn.next [] (sentence_of l.fn.formula) ∷ [])

abbrev pub decreases-loop-task : goal.decreases-loop-task
decreases-loop-task l = steps_work l.predicates (steps_of l.machine.tasks.items)
