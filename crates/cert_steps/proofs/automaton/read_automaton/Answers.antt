use Rattle.cert_steps.proofs.AutomatonLemmas.{automaton-read}
use Rattle.cert_steps.proofs.automaton.read_automaton.Goals as goal

pub returns-clause-found : goal.returns-clause-found
returns-clause-found c =
    automaton-read c.args.g.now c.args.drawing.now.nodes.told c.read_tables.new.drawing.nodes c.args.lines.now c.in_ok-spaces.left.now
    c.in_ok-accepting.rest.now c.in_ok-spaces.spaces c.in_ok-spaces.states c.in_ok-accepting.accepting c.in_ok-spaces.ensures.found
    c.in_ok-accepting.ensures
