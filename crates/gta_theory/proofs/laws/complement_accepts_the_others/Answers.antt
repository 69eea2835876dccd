use Rattle.gta_theory.proofs.AutomataLemmas.{Accepts-complement}
use Rattle.gta_theory.proofs.laws.complement_accepts_the_others.Goals as goal

pub returns : goal.returns
returns c = record {
  stable = λ g A stable. record { at = stable.at };
  accepts = λ g A guide stable. Accepts-complement g guide A stable;
}
