use Rattle.triple_meaning.proofs.sites.ReadingLemmas.{come-path, come-operand}
use Rattle.triple_meaning.proofs.sites.TruthsLemmas.{tells-path}
use Rattle.triple_meaning.proofs.sites.reads_mean_values.Goals as goal

pub returns : goal.returns
returns c = record {
  paths = λ types vars line reached s p ty fits. (come-path types vars line reached s p ty fits).reads;
  operands = λ types vars line reached s p ty fits. (come-operand types vars line reached s p ty fits).reads;
  truths = λ types vars line reached s p fits. tells-path types vars line reached s p fits;
}
