use Rattle.graph_meaning.proofs.fields.AssignmentLemmas.{assignment}
use Rattle.graph_meaning.proofs.fields.backbones_have_their_assignments.Goals as goal

pub returns : goal.returns
returns c = assignment
