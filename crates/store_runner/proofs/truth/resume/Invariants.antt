use Rattle.std.proofs.Common.{◌≡◌, ◌≤◌, Ok, length}
use Rattle.store_core.specs.Stores.{StoreMap}
use Rattle.store_runner.specs.Conditions.{resumed, weight_of}
use Rattle.store_runner.proofs.truth.resume.Given as goal

abbrev pub invariant-loop-next : goal.invariant-loop-next
invariant-loop-next l =
    ((s : StoreMap) → resumed s l.fn.waiting (Ok l.part) ≡ resumed s l.waiting (Ok l.truth)) × (weight_of l.waiting ≤ weight_of l.fn.waiting)

abbrev pub decreases-loop-next : goal.decreases-loop-next
decreases-loop-next l = length l.waiting
