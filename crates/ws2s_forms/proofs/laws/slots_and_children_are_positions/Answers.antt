use Rattle.ws2s_forms.proofs.GoingLemmas.{WSat-go, WSat-slot}
use Rattle.ws2s_forms.proofs.laws.slots_and_children_are_positions.Goals as goal

pub returns : goal.returns
returns c = record {
  go = λ next n from to. WSat-go n next from to;
  child = λ next n from to. WSat-go n next from to;
  slot = WSat-slot;
}
