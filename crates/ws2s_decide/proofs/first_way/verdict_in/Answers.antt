use Rattle.ws2s_decide.proofs.first_way.verdict_in.Goals as goal

pub verdict_of-requires-clause-rests : goal.verdict_of-requires-clause-rests
verdict_of-requires-clause-rests c = rw c.in-Some.is at c.requires.ready
