use Rattle.routing_walks.proofs.PieceLemmas.{piece_on-IsOn}
use Rattle.routing_walks.proofs.pieces.pieces_have_their_cells.Goals as goal

pub returns : goal.returns
returns c = piece_on-IsOn
