use Rattle.std.proofs.Common.{subst}
use Rattle.cert_tables.specs.PairKeys.{IsOnePerKey}
use Rattle.cert_tables.proofs.PairKeysLemmas.{HasPlaces-once, state-found, no-state}
use Rattle.cert_tables.proofs.pair_table.PairTable.state.Goals as goal

pub returns-in-Some-clause-found : goal.returns-in-Some-clause-found
returns-in-Some-clause-found c =
    state-found c.args.self.now c.args.space c.args.first c.args.second c.in-Some.line
    (subst IsOnePerKey c.self.view_is (HasPlaces-once c.self.inside.lines c.self.inside.places c.self.invariant)) c.in-Some.ensures.found

pub returns-in-None-clause-none : goal.returns-in-None-clause-none
returns-in-None-clause-none c = no-state c.args.self.now c.args.space c.args.first c.args.second c.in-None.ensures.none
