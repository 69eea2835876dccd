use Rattle.ws2s_theory.proofs.WorkedPeakLemmas.{HasProductSize-both, HasMinimalSize-within, HasSubsetSize-flag, HasMinimalSize-flag}
use Rattle.ws2s_theory.proofs.worked.sizes_of_a_root_within.Goals as goal

pub returns : goal.returns
returns c = record {
  product = HasProductSize-both;
  conjunction = HasMinimalSize-within;
  subset = HasSubsetSize-flag;
  result = HasMinimalSize-flag;
}
