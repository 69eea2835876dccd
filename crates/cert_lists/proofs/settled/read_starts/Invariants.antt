use Rattle.std.proofs.Common.{◌≡◌, ◌++◌, map}
use Rattle.cert_text.specs.declared.line.Line.TheVariants as line
use Rattle.cert_lists.proofs.settled.read_starts.Given as goal

abbrev pub invariant-loop-space : goal.invariant-loop-space
invariant-loop-space l = l.fn.lines ≡ map line.Start l.starts ++ l.left
