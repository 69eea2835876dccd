use Rattle.ws2s_decide.proofs.decider.Decider.used_once.Goals as goal

pub returns-clause-kept : goal.returns-clause-kept
returns-clause-kept c = λ shelf has.
    record { is_shelf = has.is_shelf; each = has.each; tables = has.tables; minimal = has.minimal; first = has.first }
