use Rattle.std.proofs.Common.{◌-◌, length}
use Rattle.store_sat.proofs.NameLemmas.{IsGrowing}
use Rattle.store_sat.proofs.root_table.data_vars.Given as goal

abbrev pub invariant-loop-name : goal.invariant-loop-name
invariant-loop-name l = IsGrowing l.count l.table l.name.items

abbrev pub decreases-loop-name : goal.decreases-loop-name
decreases-loop-name l = l.count - length l.table
