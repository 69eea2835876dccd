use Rattle.routing_walks.proofs.PathLemmas.{HasOnePath-backbone}
use Rattle.routing_walks.proofs.paths.cells_have_one_path.Goals as goal

pub returns : goal.returns
returns c = λ types vars s c backbone live. HasOnePath-backbone types vars s backbone c live
