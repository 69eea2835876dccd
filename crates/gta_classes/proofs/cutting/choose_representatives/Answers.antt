-- One state after the other.
use Rattle.std.proofs.Common.{◌∙◌}
use Rattle.gta_classes.proofs.MembersLemmas.{Covers-same}
use Rattle.gta_classes.proofs.cutting.choose_representatives.Goals as goal

pub loop-state-preserved : goal.loop-state-preserved
loop-state-preserved c =
    let before = c.loop-state.invariant in
    let chosen = c.in_ok-choose_larger.ensures in
    record {
      classes = chosen.classes;
      reached = chosen.reached ∙ before.reached;
      kept = chosen.kept ∙ before.kept;
      many = chosen.many ∙ before.many;
      covers = Covers-same c.loop-state.part c.choose_larger.new.part c.choose_larger.new.lists.items chosen.reached chosen.kept chosen.covers;
    }
