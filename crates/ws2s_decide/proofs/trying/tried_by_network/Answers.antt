use Rattle.ws2s_decide.proofs.OwnLemmas.{IsReady-extends}
use Rattle.ws2s_decide.proofs.trying.tried_by_network.Goals as goal

pub verdict_by-requires-clause-there : goal.verdict_by-requires-clause-there
verdict_by-requires-clause-there c =
    (c.requires.there.0, c.in_ok-network.ensures.value c.requires.there.0 c.requires.there.1)

pub verdict_by-requires-clause-ready : goal.verdict_by-requires-clause-ready
verdict_by-requires-clause-ready c =
    IsReady-extends c.args.interner.now c.network_at.new.interner c.args.first.now c.network_at.ensures.kept c.requires.ready

pub returns-in-Ok-None-clause-value : goal.returns-in-Ok-None-clause-value
returns-in-Ok-None-clause-value c = λ f e.
    rw c.in-Ok-None.field-0-is at c.in-Ok-None.ensures.value f (c.in_ok-network.ensures.value f e)

pub returns-in-Ok-Witness-clause-value : goal.returns-in-Ok-Witness-clause-value
returns-in-Ok-Witness-clause-value c = λ f e.
    rw c.in-Ok-Witness.field-0-is at c.in-Ok-Witness.ensures.value f (c.in_ok-network.ensures.value f e)
