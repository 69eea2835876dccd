use Rattle.ws2s_theory.proofs.ContextsLemmas.{WSat-entailed, WSat-unbound, IsRelevant-unbound}
use Rattle.ws2s_theory.proofs.contexts.relevant_conjuncts_hold_inside.Goals as goal

pub returns : goal.returns
returns x = record {
  entailed = λ context c a finite all entailed. WSat-entailed context a finite all c entailed;
  unbound = IsRelevant-unbound;
  inside = λ c t a set unbound. WSat-unbound c t.0 a set unbound;
}
