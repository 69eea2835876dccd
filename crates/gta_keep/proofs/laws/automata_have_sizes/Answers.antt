use Rattle.gta_keep.proofs.AutoSizesLemmas.{HaveSizes-shelf}
use Rattle.gta_keep.proofs.laws.automata_have_sizes.Goals as goal

pub returns : goal.returns
returns c = HaveSizes-shelf
