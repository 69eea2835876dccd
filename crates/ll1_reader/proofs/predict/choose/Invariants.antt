use Rattle.std.proofs.Common.{◌≡◌, drop}
use Rattle.std.specs.List.{flat_map}
use Rattle.ll1_reader.specs.Predicting.{among}
use Rattle.ll1_reader.proofs.predict.choose.Given as goal

-- the productions so far begin with other kinds
abbrev pub invariant-loop-production : goal.invariant-loop-production
invariant-loop-production g l =
    among g.G.Grammar.rules g.G.Grammar.table l.kind (flat_map g.G.Grammar.table.first (drop l.production-index l.production-items))
    ≡ among g.G.Grammar.rules g.G.Grammar.table l.kind (flat_map g.G.Grammar.table.first l.production-items)
