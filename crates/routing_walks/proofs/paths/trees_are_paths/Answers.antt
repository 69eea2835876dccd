use Rattle.routing_walks.proofs.PathLemmas.{HasPath-IsInTree, IsInTree-HasPath}
use Rattle.routing_walks.proofs.paths.trees_are_paths.Goals as goal

pub returns : goal.returns
returns c = λ types vars s v c. (IsInTree-HasPath types vars s v c, HasPath-IsInTree types vars s v c)
