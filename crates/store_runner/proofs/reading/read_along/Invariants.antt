use Rattle.std.proofs.Common.{◌≡◌, drop}
use Rattle.store_exec.specs.Steps as steps
use Rattle.store_runner.proofs.reading.read_along.Given as goal

abbrev pub invariant-loop-field : goal.invariant-loop-field
invariant-loop-field l = steps.read_along l.store l.start l.fields ≡ steps.read_along l.store l.value (drop l.field-index l.fields)
