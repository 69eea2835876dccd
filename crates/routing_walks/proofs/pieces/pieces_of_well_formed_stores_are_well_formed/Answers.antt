use Rattle.routing_walks.proofs.PieceForms.{well_formed_on}
use Rattle.routing_walks.proofs.pieces.pieces_of_well_formed_stores_are_well_formed.Goals as goal

pub returns : goal.returns
returns c = λ types vars s cells whole is. well_formed_on cells s types vars whole is
