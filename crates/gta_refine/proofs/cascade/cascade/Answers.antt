-- One class more.
use Rattle.std.proofs.Common.{arith, rules}
use Rattle.gta_refine.proofs.FinerLemmas.{AreFiner-same, AreFiner-both}
use Rattle.gta_refine.proofs.cascade.cascade.Goals as goal

pub loop-init : goal.loop-init
loop-init c = record {
  partition = c.requires.partition;
  finer = AreFiner-same c.args.spaces.now.items;
  covers = search rules;
  ready = search rules;
  room = omega arith;
}

pub loop-preserved : goal.loop-preserved
loop-preserved c = record {
  partition = c.in_ok-cut_children.ensures.partition;
  finer = AreFiner-both c.args.spaces.now.items c.loop.spaces.items c.cut_children.new.spaces.items c.loop.invariant.finer
      c.in_ok-cut_children.ensures.finer;
  covers = c.in_ok-cut_children.ensures.covers;
  ready = c.in_ok-cut_children.ensures.ready;
  room = let a = c.loop.invariant.room in let b = c.in_ok-cut_children.ensures.room in omega arith;
}
