use Rattle.graph_meaning.proofs.fields.ForkingLemmas.{field_formula-store, field_formula-means, store-of_fork}
use Rattle.graph_meaning.proofs.fields.forks_are_told.Goals as goal

pub returns : goal.returns
returns c = record {
  backbone = λ types vars s a f table fits backbone sets means finite. field_formula-store types vars a f table finite s fits backbone sets means;
  trees = λ types vars a f table finite. field_formula-means types vars a f table finite;
  store = λ types vars a f table finite. store-of_fork types vars a f table finite;
}
