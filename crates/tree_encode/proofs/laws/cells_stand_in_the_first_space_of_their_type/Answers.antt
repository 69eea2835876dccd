use Rattle.tree_encode.proofs.SpacesLemmas.{IsGuide-guide_of, first-apart}
use Rattle.tree_encode.specs.Spaces.{types_start}
use Rattle.tree_encode.proofs.PositionsLemmas.{placed-space}
use Rattle.tree_encode.proofs.laws.cells_stand_in_the_first_space_of_their_type.Goals as goal

pub returns : goal.returns
returns c = record {
  guide = IsGuide-guide_of;
  space = placed-space;
  apart = λ types vars spares ty known. first-apart types (types_start vars spares) ty known;
}
