use Rattle.ws2s_theory.proofs.SizesLemmas.{HasMinimalSize-exists, HasProductSize-exists, HasSubsetSize-exists}
use Rattle.ws2s_theory.proofs.SizesLemmas.{HasMinimalSize-unique, HasProductSize-unique, HasSubsetSize-unique}
use Rattle.ws2s_theory.proofs.forms.formulas_have_sizes.Goals as goal

pub returns : goal.returns
returns c = record {
  minimal = λ g f guide. HasMinimalSize-exists g guide f;
  product = λ g f h guide. HasProductSize-exists g guide f h;
  subset = λ g t f guide. HasSubsetSize-exists g guide t f;
  one_minimal = λ g f n m guide. HasMinimalSize-unique g guide f n m;
  one_product = λ g f h n m guide. HasProductSize-unique g guide f h n m;
  one_subset = λ g t f n m guide. HasSubsetSize-unique g guide t f n m;
}
