use Rattle.gta_core.proofs.SizeLemmas.{nodes-le, count-le, held-le}
use Rattle.gta_core.proofs.sizes.nodes_fit_in_sizes.Goals as goal

pub returns-clause-count : goal.returns-clause-count
returns-clause-count c = λ g shelf a count n is_shelf auto size. count-le g shelf is_shelf a auto n size count

pub returns-clause-listed : goal.returns-clause-listed
returns-clause-listed c = λ g shelf a nodes n is_shelf auto size. nodes-le g shelf is_shelf a auto n size nodes

pub returns-clause-held : goal.returns-clause-held
returns-clause-held c = λ g shelf autos count is_shelf sized tables. held-le g shelf is_shelf autos sized tables count
