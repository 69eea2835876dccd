use Rattle.std.proofs.Common.{subst}
use Rattle.cert_tables.specs.PairKeys.{IsOnePerKey}
use Rattle.cert_tables.proofs.PairKeysLemmas.{HasPlaces-once}
use Rattle.cert_tables.proofs.pair_table.PairTable.as_slice.Goals as goal

pub returns-clause-once : goal.returns-clause-once
returns-clause-once c = subst IsOnePerKey c.self.view_is (HasPlaces-once c.self.inside.lines c.self.inside.places c.self.invariant)
