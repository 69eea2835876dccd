use Rattle.std.proofs.Common.{take}
use Rattle.ll1_reader.proofs.StandsLemmas.{Stands}
use Rattle.ll1_reader.proofs.reader.read_by_name.Given as goal

abbrev pub invariant-loop-place : goal.invariant-loop-place
invariant-loop-place g l = Stands g.G.Grammar.rules g.G.Grammar.table l.limit (take l.place l.tokens) l.work
