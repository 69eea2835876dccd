use Rattle.std.proofs.Common.{[]}
use Rattle.tree_formula.proofs.NamedLemmas.{flat-next}
use Rattle.tree_reached.specs.ByField.{gap_at, number}
use Rattle.tree_reached.proofs.gaps.gaps.Goals as goal

pub loop-gap-preserved : goal.loop-gap-preserved
loop-gap-preserved c =
    flat-next (gap_at c.args.l.now.types c.args.ways.now) number c.loop-gap.gap [] c.loop-gap.gaps.items c.push_gap.new.gaps.items
    c.loop-gap.invariant c.in_ok-push_gap.ensures
