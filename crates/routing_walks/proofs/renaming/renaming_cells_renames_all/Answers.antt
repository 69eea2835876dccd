use Rattle.routing_walks.specs.Pairing.{IsPair}
use Rattle.routing_walks.proofs.PairLemmas.{JoinAlike-paired}
use Rattle.routing_walks.proofs.PairFaults.{FailAlike-paired, FormAlike-paired}
use Rattle.routing_walks.proofs.renaming.renaming_cells_renames_all.Goals as goal

pub returns : goal.returns
returns c = record {
  join = λ types pairs. JoinAlike-paired types (IsPair pairs);
  fail = λ types pairs. FailAlike-paired types (IsPair pairs);
  form = λ types pairs. FormAlike-paired types (IsPair pairs);
}
