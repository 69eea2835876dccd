use Rattle.std.proofs.Common.{◌≤◌}
use Rattle.gta_core.specs.Auto.{states_of, guide_of}
use Rattle.gta_keep.proofs.PairsLemmas.{pairs_below}
use Rattle.gta_keep.proofs.pairs.pairs_of.Given as goal

abbrev pub invariant-loop-part : goal.invariant-loop-part
invariant-loop-part l = l.pairs ≤ pairs_below (guide_of l.a) (states_of l.a) l.part-index
