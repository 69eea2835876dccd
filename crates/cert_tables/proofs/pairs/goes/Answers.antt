use Rattle.std.proofs.Common.{map}
use Rattle.cert_tables.specs.PairKeys.{named_pair}
use Rattle.cert_tables.proofs.PairsLemmas.{goes-three}
use Rattle.cert_tables.proofs.pairs.goes.Goals as goal

pub returns-in-Some : goal.returns-in-Some
returns-in-Some c =
    goes-three (map named_pair c.args.pairs.now) c.args.space c.args.states.now c.in-Some.state c.in-len3.len_at_least c.in-len3.len_below
    c.in-Some.ensures.found
