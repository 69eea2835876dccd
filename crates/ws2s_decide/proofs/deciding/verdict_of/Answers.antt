use Rattle.std.proofs.Common.{[]}
use Rattle.ws2s_decide.proofs.RestsLemmas.{Rests-release}
use Rattle.ws2s_decide.proofs.deciding.verdict_of.Goals as goal

pub returns-in-Ok-clause-rests : goal.returns-in-Ok-clause-rests
returns-in-Ok-clause-rests c =
    Rests-release c.args.g.now c.args.interner.now c.automaton_of.new.shelf c.verdict_by.new.shelf c.in-Ok.auto [] c.automaton_of.new.kept c.in-Ok.ensures.ok
    c.verdict_by.ensures.shelf c.verdict_by.ensures.dropped
