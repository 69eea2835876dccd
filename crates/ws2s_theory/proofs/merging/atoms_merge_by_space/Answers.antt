use Rattle.ws2s_theory.proofs.MergedAtomsLemmas.{IsMinimalOf-Sub, IsMinimalOf-Single, IsMinimalOf-Root}
use Rattle.ws2s_theory.proofs.MergedSuccessorsLemmas.{IsMinimalOf-Succ0, IsMinimalOf-Succ1}
use Rattle.ws2s_theory.proofs.merging.atoms_merge_by_space.Goals as goal

pub returns : goal.returns
returns c = record {
  sub = λ g is_child x y guide test differ. IsMinimalOf-Sub g guide is_child test x y differ;
  single = λ g is_child x guide test. IsMinimalOf-Single g guide is_child test x;
  succ0 = λ g is_child x y guide test differ. IsMinimalOf-Succ0 g guide is_child test x y differ;
  succ1 = λ g is_child x y guide test differ. IsMinimalOf-Succ1 g guide is_child test x y differ;
  root = λ g is_child x guide test. IsMinimalOf-Root g guide is_child test x;
}
