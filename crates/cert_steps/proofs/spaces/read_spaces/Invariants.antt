use Rattle.std.proofs.Common.{◌≡◌, ◌++◌, map}
use Rattle.cert_text.specs.declared.line.Line.TheVariants as line
use Rattle.cert_steps.specs.Places.{AreSpaceLines}
use Rattle.cert_steps.proofs.spaces.read_spaces.Given as goal

abbrev pub invariant-loop-space : goal.invariant-loop-space
invariant-loop-space l = (l.fn.lines ≡ map line.Space l.read ++ l.left) × AreSpaceLines l.space l.read
