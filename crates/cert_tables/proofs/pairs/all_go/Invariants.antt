use Rattle.std.proofs.Common.{take, map}
use Rattle.cert_tables.specs.PairKeys.{named_pair}
use Rattle.cert_tables.specs.Pairs.{AllGo}
use Rattle.cert_tables.proofs.pairs.all_go.Given as goal

-- the lists so far go
abbrev pub invariant-loop-list : goal.invariant-loop-list
invariant-loop-list l = AllGo (map named_pair l.pairs) l.space (take l.list-index l.lists)
