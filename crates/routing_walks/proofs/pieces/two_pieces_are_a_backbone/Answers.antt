use Rattle.routing_walks.specs.Walks.{DataAlone}
use Rattle.routing_walks.proofs.RegionLemmas.{rest_apart}
use Rattle.routing_walks.proofs.PieceLemmas.{backbone_from_pieces}
use Rattle.routing_walks.proofs.pieces.two_pieces_are_a_backbone.Goals as goal

pub returns : goal.returns
returns c = λ types vars s cells rest is whole named one other.
    backbone_from_pieces types vars s cells rest is whole (rest_apart types DataAlone s cells rest is whole) named one other
