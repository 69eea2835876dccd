use Rattle.ws2s_decide.proofs.first_way.FirstWay.new.Goals as goal

pub returns : goal.returns
returns c = λ formulas. tt
