use Rattle.std.proofs.Common.{◌≡◌, take}
use Rattle.cert_steps.specs.Places.{class_count}
use Rattle.cert_steps.proofs.classes.count_of.Given as goal

abbrev pub invariant-loop-class : goal.invariant-loop-class
invariant-loop-class l = l.count ≡ class_count (take l.class-index l.classes)
