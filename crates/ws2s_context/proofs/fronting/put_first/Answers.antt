use Rattle.ws2s_context.proofs.fronting.put_first.Goals as goal

pub conjoined_to-requires-clause-there : goal.conjoined_to-requires-clause-there
conjoined_to-requires-clause-there c = c.in_ok-chain.ensures.there

pub returns-clause-same : goal.returns-clause-same
returns-clause-same c = c.in_ok-made.ensures.same _ c.in_ok-chain.ensures
