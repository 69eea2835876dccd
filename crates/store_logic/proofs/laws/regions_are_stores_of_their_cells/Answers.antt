use Rattle.store_logic.proofs.RegionLemmas.{Sat-on}
use Rattle.store_logic.proofs.laws.regions_are_stores_of_their_cells.Goals as goal

pub returns : goal.returns
returns c = Sat-on
