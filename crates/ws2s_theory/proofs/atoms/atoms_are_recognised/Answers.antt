use Rattle.ws2s_theory.proofs.AtomsLemmas.{Recognises-Sub, Recognises-Single, Recognises-Succ0, Recognises-Succ1, Recognises-Root}
use Rattle.ws2s_theory.proofs.atoms.atoms_are_recognised.Goals as goal

pub returns : goal.returns
returns c = record {
  sub = λ g x y guide. Recognises-Sub g guide x y;
  single = λ g x guide. Recognises-Single g guide x;
  succ0 = λ g x y guide. Recognises-Succ0 g guide x y;
  succ1 = λ g x y guide. Recognises-Succ1 g guide x y;
  root = λ g x guide. Recognises-Root g guide x;
}
