use Rattle.std.proofs.Common.{rules, map, subst, ◌∙◌}
use Rattle.cert_tables.specs.PairKeys.{named_pair}
use Rattle.cert_tables.specs.Pairs.{Goes}
use Rattle.cert_tables.proofs.EveryLemmas.{every-more, every-whole}
use Rattle.cert_tables.proofs.pairs.all_go.Goals as goal

pub loop-list-preserved : goal.loop-list-preserved
loop-list-preserved c =
    let table = map named_pair c.args.pairs.now in
    every-more (Goes table c.args.space) c.args.lists.now c.loop-list.list-index c.list-item.result c.loop-list-test.true c.loop-list.invariant
    (subst (Goes table c.args.space) (c.as_slice.ensures ∙ c.list-item.is) (c.goes.ensures.0 (search rules)))

pub returns : goal.returns
returns c =
    every-whole (Goes (map named_pair c.args.pairs.now) c.args.space) c.args.lists.now c.loop-list.list-index c.loop-list-test.false
    c.loop-list.invariant
