use Rattle.ws2s_decide.proofs.first_way.FirstWay.verdict.Goals as goal

pub verdict_in-requires-clause-ready : goal.verdict_in-requires-clause-ready
verdict_in-requires-clause-ready c = c.open.ensures c.args.interner.now c.requires.ready
