use Rattle.gta_keep.proofs.RoomLemmas.{room-sum}
use Rattle.gta_keep.proofs.laws.held_automata_have_room.Goals as goal

pub returns : goal.returns
returns c = room-sum
