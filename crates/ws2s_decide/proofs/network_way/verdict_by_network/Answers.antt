use Rattle.std.proofs.Common.{subst}
use Rattle.ws2s_decide.specs.Deciding.{IsVerdict}
use Rattle.ws2s_decide.proofs.BackLemmas.{IsUnsatisfiable-left, IsModelOfLeft-start}
use Rattle.ws2s_decide.proofs.network_way.verdict_by_network.Goals as goal

pub verdict_of-requires-clause-there : goal.verdict_of-requires-clause-there
verdict_of-requires-clause-there c = (c.requires.there.1.rest, c.requires.there.1.is_rest)

pub go_back-requires-clause-there : goal.go_back-requires-clause-there
go_back-requires-clause-there c = c.requires.there.1.buckets_there

pub returns-in-None-clause-value : goal.returns-in-None-clause-value
returns-in-None-clause-value c = λ f is.
    IsUnsatisfiable-left c.args.interner.now c.args.weigh.now f c.args.network.now is
    (subst (IsVerdict c.args.weigh.now is.rest) c.in-None.is (c.in_ok-verdict_of.ensures.value is.rest is.is_rest))

pub returns-in_ok-back-in-Witness-clause-value : goal.returns-in_ok-back-in-Witness-clause-value
returns-in_ok-back-in-Witness-clause-value c = λ f is.
    c.in_ok-back-in-Witness.ensures.value f is
    (IsModelOfLeft-start c.args.interner.now c.args.weigh.now f c.args.network.now is c.in-Witness.tree c.in-Witness.weight
    (subst (IsVerdict c.args.weigh.now is.rest) c.in-Witness.is (c.in_ok-verdict_of.ensures.value is.rest is.is_rest)))
