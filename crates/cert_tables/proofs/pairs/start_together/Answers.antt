use Rattle.std.proofs.Common.{map}
use Rattle.cert_tables.specs.PairKeys.{named_pair}
use Rattle.cert_tables.proofs.PairsLemmas.{starts-by, starts-not}
use Rattle.cert_tables.proofs.pairs.start_together.Goals as goal

pub returns-in-Some : goal.returns-in-Some
returns-in-Some c nodes =
    starts-by (map named_pair c.args.pairs.now) c.args.space _ _ _ _ _ c.in-Some.state c.initial-in-Some.result c.in-Some.ensures.found
    c.initial.ensures c.initial-2.ensures c.initial-in-Some.ensures

pub returns-in-None : goal.returns-in-None
returns-in-None c nodes =
    starts-not (map named_pair c.args.pairs.now) c.args.space _ _ _ _ _ c.in-None.ensures.none c.initial.ensures c.initial-2.ensures
