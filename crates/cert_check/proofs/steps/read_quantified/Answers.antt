use Rattle.std.proofs.Common.{sym, subst}
use Rattle.cert_theory.specs.Tables.{IsSettledList}
use Rattle.cert_tables.specs.Automata.{table_automaton}
use Rattle.cert_settled.proofs.LinesLemmas.{settling-settled}
use Rattle.cert_check.proofs.steps.read_quantified.Goals as goal

pub lead_to_quantified-requires-clause-starts : goal.lead_to_quantified-requires-clause-starts
lead_to_quantified-requires-clause-starts c =
    let g = c.args.g.now in
    let A = table_automaton c.read_automaton.new.drawing.nodes c.args.a.now in
    let reads = c.in_ok-settled.ensures in
    subst (IsSettledList g A c.args.track) (sym reads.states_are) (settling-settled g A c.args.track reads.starts reads.settles reads.fits)
