-- One child after the other.
use Rattle.gta_refine.proofs.FinerLemmas.{AreFiner-both}
use Rattle.gta_refine.proofs.cascade.cut_children.Goals as goal

pub returns-clause-finer : goal.returns-clause-finer
returns-clause-finer c =
    AreFiner-both c.args.spaces.now.items c.cut_by.new.spaces.items c.cut_by-2.new.spaces.items c.in_ok-cut_by.ensures.finer c.in_ok-cut_by-2.ensures.finer
