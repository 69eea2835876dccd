use Rattle.store_exec.specs.Going.{CanRun, left_over, weight_left}
use Rattle.store_runner.specs.Recordings.{ItemsGoOn}
use Rattle.store_runner.proofs.items.run_items.Given as goal

-- what is left goes on from here, and can be run
abbrev pub invariant-loop-item : goal.invariant-loop-item
invariant-loop-item l =
    ItemsGoOn l.types l.items l.fn.store l.fn.recorder (left_over l.rest l.waiting) l.store l.recorder
    × CanRun l.types l.store (left_over l.rest l.waiting)

abbrev pub decreases-loop-item : goal.decreases-loop-item
decreases-loop-item l = weight_left l.rest l.waiting
