use Rattle.routing_walks.proofs.PieceForms.{well_formed_from_pieces}
use Rattle.routing_walks.proofs.pieces.two_pieces_are_well_formed.Goals as goal

pub returns : goal.returns
returns c = λ types vars s cells rest fits is whole named one other. well_formed_from_pieces types vars s fits cells rest is whole named one other
