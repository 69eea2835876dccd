use Rattle.std.proofs.Common.{◌≡◌, drop}
use Rattle.ll1_reader.specs.Predicting.{among}
use Rattle.ll1_reader.proofs.predict.begins.Given as goal

-- the kinds so far are others
abbrev pub invariant-loop-start : goal.invariant-loop-start
invariant-loop-start g l =
    among g.G.Grammar.rules g.G.Grammar.table l.kind (drop l.start-index l.start-items) ≡ among g.G.Grammar.rules
    g.G.Grammar.table l.kind l.start-items
