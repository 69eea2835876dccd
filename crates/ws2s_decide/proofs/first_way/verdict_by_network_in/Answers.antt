use Rattle.ws2s_decide.proofs.first_way.verdict_by_network_in.Goals as goal

pub verdict_by_network-requires-clause-rests : goal.verdict_by_network-requires-clause-rests
verdict_by_network-requires-clause-rests c = rw c.in-Some.is at c.requires.ready
