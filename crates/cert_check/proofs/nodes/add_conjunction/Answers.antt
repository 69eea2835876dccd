use Rattle.cert_check.proofs.ArmsLemmas.{has-automaton}
use Rattle.cert_check.proofs.nodes.add_conjunction.Goals as goal

pub returns-clause-added : goal.returns-clause-added
returns-clause-added c =
    let bases = c.as_slice-bases.result.now in
    let parts = c.as_slice-parts.result.now in
    let board = c.args.board.now in
    let a = c.automaton_of-a_negated.result in
    let b = c.automaton_of-b_negated.result in
    record {
      base = c.in_ok-base.base;
      is = record {
        a = a.0.now;
        a_negated = a.1;
        b = b.0.now;
        b_negated = b.1;
        of_f = has-automaton bases parts board c.args.first.0 a.0.now a.1 c.as_slice-bases.ensures c.as_slice-parts.ensures c.requires.inside
            c.requires.first c.automaton_of-a_negated.ensures;
        of_h = has-automaton bases parts board c.args.second.0 b.0.now b.1 c.as_slice-bases.ensures c.as_slice-parts.ensures c.requires.inside
            c.requires.second c.automaton_of-b_negated.ensures;
        reads = c.in_ok-base.ensures.found;
      };
      bases = c.in_ok-push_base.ensures.bases;
      parts = c.in_ok-push_base.ensures.parts;
    }
