use Rattle.routing_walks.proofs.PieceLemmas.{backbone_on}
use Rattle.routing_walks.proofs.pieces.pieces_of_backbones_are_backbones.Goals as goal

pub returns : goal.returns
returns c = λ types vars s cells whole backbone. backbone_on cells s types vars whole backbone
