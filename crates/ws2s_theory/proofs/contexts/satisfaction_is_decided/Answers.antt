use Rattle.ws2s_theory.specs.Worked.{plain}
use Rattle.ws2s_theory.proofs.ContextsLemmas.{WSat-decided, WSat-not_not}
use Rattle.ws2s_theory.proofs.FormsLemmas.{Formed-all}
use Rattle.ws2s_theory.proofs.WorkedLemmas.{plain-guide}
use Rattle.ws2s_theory.proofs.contexts.satisfaction_is_decided.Goals as goal

pub returns : goal.returns
returns c = record {
  decided = λ f a finite.
      let (M, count, k, of_M) = Formed-all plain plain-guide f in
      WSat-decided plain M f a plain-guide of_M.minimal.recognises finite;
  not_not = λ f a finite not_not.
      let (M, count, k, of_M) = Formed-all plain plain-guide f in
      WSat-not_not plain M f a plain-guide of_M.minimal.recognises finite not_not;
}
