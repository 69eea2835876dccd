use Rattle.std.proofs.Common.{◌≡◌}
use Rattle.bdd_nodes.specs.Shelf.{limit_of}
use Rattle.ws2s_decide.specs.Tasks.{steps_left}
use Rattle.ws2s_decide.specs.Going.{moment, Follows, steps_of}
use Rattle.ws2s_decide.proofs.machine.run.Given as goal

abbrev pub invariant-loop-task : goal.invariant-loop-task
invariant-loop-task l = record {
  follows : Follows l.g l.interner (moment l.fn.shelf l.fn.machine.tasks l.fn.machine.automata l.fn.kept)
      (moment l.shelf l.machine.tasks l.machine.automata l.kept);
  limit : limit_of l.shelf ≡ limit_of l.fn.shelf;
}

abbrev pub decreases-loop-task : goal.decreases-loop-task
decreases-loop-task l = steps_left (steps_of l.interner l.machine.tasks)
