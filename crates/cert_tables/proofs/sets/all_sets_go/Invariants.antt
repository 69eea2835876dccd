use Rattle.std.proofs.Common.{map, take}
use Rattle.cert_tables.specs.SetKeys.{named_set}
use Rattle.cert_tables.specs.Sets.{AllSetsGo}
use Rattle.cert_tables.proofs.sets.all_sets_go.Given as goal

-- the lists so far go
abbrev pub invariant-loop-list : goal.invariant-loop-list
invariant-loop-list l = AllSetsGo (map named_set l.sets) l.space (take l.list-index l.lists)
