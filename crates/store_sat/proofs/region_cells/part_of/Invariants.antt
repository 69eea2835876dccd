use Rattle.store_sat.proofs.PartLemmas.{AreCovered}
use Rattle.store_sat.proofs.region_cells.part_of.Given as goal

abbrev pub invariant-loop-root : goal.invariant-loop-root
invariant-loop-root l = AreCovered l.store l.roots l.root-index l.count
