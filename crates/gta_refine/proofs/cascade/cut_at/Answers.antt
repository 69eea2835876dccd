-- The lists of the space that is cut.
use Rattle.gta_refine.proofs.CutLemmas.{AllCover-set}
use Rattle.gta_refine.proofs.ScratchLemmas.{long-set}
use Rattle.gta_refine.proofs.cascade.cut_at.Goals as goal

pub returns-clause-covers : goal.returns-clause-covers
returns-clause-covers c =
    AllCover-set c.args.spaces.now.items c.args.lists.now.items c.args.c c.cut.new.part c.cut.new.lists c.requires.covers c.requires.inside
    c.in_ok-cut.ensures.covers

pub returns-clause-ready : goal.returns-clause-ready
returns-clause-ready c = record {
  zero = c.in_ok-cut.ensures.zero;
  seen = c.requires.ready.seen;
  found = c.requires.ready.found;
  long = long-set c.args.spaces.now.items c.args.c c.cut.new.part c.index_mut-part.result.now c.args.scratch.now.ids.items c.cut.new.ids.items
      c.requires.inside c.index_mut-part.ensures.value c.in_ok-cut.ensures.reached c.in_ok-cut.ensures.long c.requires.ready.long;
}
