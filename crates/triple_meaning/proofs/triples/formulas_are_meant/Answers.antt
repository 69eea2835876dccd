use Rattle.triple_meaning.proofs.triples.JoinLemmas.{assertions-meant, conditions-meant, claims-meant, cuts-meant}
use Rattle.triple_meaning.proofs.triples.formulas_are_meant.Goals as goal

pub returns : goal.returns
returns c = record {
  assertions = λ types vars. assertions-meant types vars;
  conditions = λ types vars. conditions-meant types vars;
  claims = λ types vars cut fits parted. claims-meant types vars cut fits parted;
  cuts = λ types vars t fits parted. cuts-meant types vars t fits parted;
}
