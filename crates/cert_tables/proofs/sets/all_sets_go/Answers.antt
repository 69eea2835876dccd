use Rattle.std.proofs.Common.{map, subst, ◌∙◌}
use Rattle.cert_tables.specs.SetKeys.{named_set}
use Rattle.cert_tables.specs.Sets.{SetGoes}
use Rattle.cert_tables.proofs.EveryLemmas.{every-more, every-whole}
use Rattle.cert_tables.proofs.sets.all_sets_go.Goals as goal

pub loop-list-preserved : goal.loop-list-preserved
loop-list-preserved c =
    let table = map named_set c.args.sets.now in
    every-more (SetGoes table c.args.space) c.args.lists.now c.loop-list.list-index c.list-item.result c.loop-list-test.true c.loop-list.invariant
    (subst (SetGoes table c.args.space) (c.as_slice.ensures ∙ c.list-item.is) (c.in_ok-set_goes.ensures.0 c.if-not-branch.false))

pub returns : goal.returns
returns c =
    every-whole (SetGoes (map named_set c.args.sets.now) c.args.space) c.args.lists.now c.loop-list.list-index c.loop-list-test.false
    c.loop-list.invariant
