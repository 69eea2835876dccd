use Rattle.ll1_reader.specs.Frames.{stack_of}
use Rattle.ll1_reader.proofs.AdvanceLemmas.{Exposing}
use Rattle.ll1_reader.proofs.MoveLemmas.{moves_at}
use Rattle.ll1_reader.proofs.step.expose.Given as goal

abbrev pub invariant-loop-frame : goal.invariant-loop-frame
invariant-loop-frame g l = Exposing g.G.Grammar.rules g.G.Grammar.table l.next l.initial.work l.work

abbrev pub decreases-loop-frame : goal.decreases-loop-frame
decreases-loop-frame g l = moves_at g.G.Grammar.rules g.G.Grammar.table (stack_of l.work)
