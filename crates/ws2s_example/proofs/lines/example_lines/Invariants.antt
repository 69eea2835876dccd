use Rattle.std.proofs.Common.{take}
use Rattle.ws2s_core.specs.LabelTrees.{assignment_of}
use Rattle.ws2s_example.specs.Examples.{AreLines}
use Rattle.ws2s_example.proofs.lines.example_lines.Given as goal

abbrev pub invariant-loop-place : goal.invariant-loop-place
invariant-loop-place l = AreLines (assignment_of l.tree) 0 (take l.place l.free) l.text.items
