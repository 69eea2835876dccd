use Rattle.cert_check.proofs.ArmsLemmas.{has-automaton}
use Rattle.cert_check.proofs.nodes.add_quantified.Goals as goal

pub returns-clause-added : goal.returns-clause-added
returns-clause-added c =
    let a = c.automaton_of-a_negated.result in
    record {
      base = c.in_ok-base.base;
      is = record {
        a = a.0.now;
        a_negated = a.1;
        of_f = has-automaton c.as_slice.result.now c.as_slice-2.result.now c.args.board.now c.args.inner.0 a.0.now a.1 c.as_slice.ensures
            c.as_slice-2.ensures c.requires.inside c.requires.inner c.automaton_of-a_negated.ensures;
        reads = c.in_ok-base.ensures.found;
      };
      bases = c.in_ok-push_base.ensures.bases;
      parts = c.in_ok-push_base.ensures.parts;
    }
