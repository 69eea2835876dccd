use Rattle.std.proofs.Common.{subst}
use Rattle.cert_tables.specs.SetKeys.{AreSets}
use Rattle.cert_tables.proofs.set_table.SetTable.as_slice.Goals as goal

pub returns-clause-sets : goal.returns-clause-sets
returns-clause-sets c = subst AreSets c.self.view_is c.self.invariant.1
