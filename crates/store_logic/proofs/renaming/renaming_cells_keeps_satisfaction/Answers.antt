use Rattle.routing_walks.specs.Pairing.{IsPair}
use Rattle.store_logic.proofs.RenamingLemmas.{PairsStore-from_ArePaired}
use Rattle.store_logic.proofs.RenamedLemmas.{Sat-renamed}
use Rattle.store_logic.proofs.renaming.renaming_cells_keeps_satisfaction.Goals as goal

pub returns : goal.returns
returns c = record {
  kept = λ types vars preds pairs. Sat-renamed types vars preds (IsPair pairs);
  paired = λ pairs. PairsStore-from_ArePaired (IsPair pairs);
}
