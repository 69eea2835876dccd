use Rattle.routing_walks.proofs.HangingLemmas.{backbone_hangs, sound_hangs, well_formed_hangs}
use Rattle.routing_walks.proofs.hanging.parts_hang_under_other_variables.Goals as goal

pub returns : goal.returns
returns c = record {
  backbone = λ types vars others s t cells on closed named backbone. backbone_hangs types vars s t cells on closed backbone others named;
  sound = sound_hangs;
  well_formed = well_formed_hangs;
}
