use Rattle.routing_walks.proofs.TogetherLemmas.{backbone_together, sound_together}
use Rattle.routing_walks.proofs.hanging.stores_are_put_together.Goals as goal

pub returns : goal.returns
returns c = record { backbone = backbone_together; sound = sound_together }
