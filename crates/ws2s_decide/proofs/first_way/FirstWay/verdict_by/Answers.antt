use Rattle.ws2s_decide.proofs.first_way.FirstWay.verdict_by.Goals as goal

pub verdict_by_network_in-requires-clause-ready : goal.verdict_by_network_in-requires-clause-ready
verdict_by_network_in-requires-clause-ready c = c.open.ensures c.args.interner.now c.requires.ready
