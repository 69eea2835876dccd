use Rattle.std.proofs.Common.{◌≡◌, ◌++◌, map}
use Rattle.cert_steps.specs.Places.{AreClassLines}
use Rattle.cert_steps.specs.Sides.{side_line, child_of}
use Rattle.cert_steps.proofs.classes.read_classes.Given as goal

abbrev pub invariant-loop-space : goal.invariant-loop-space
invariant-loop-space l =
    (l.fn.lines ≡ map (side_line l.is_right) (map (λ x. x.now) l.read.items) ++ l.left)
    × AreClassLines l.spaces (child_of l.g l.is_right) l.space (map (λ x. x.now) l.read.items)
