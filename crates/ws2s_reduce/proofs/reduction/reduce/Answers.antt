use Rattle.std.proofs.Common.{sym, subst}
use Rattle.ws2s_reduce.specs.Answer.{MeansText, MeansBroken}
use Rattle.ws2s_reduce.proofs.TextsLemmas.{WSat-holds, WSat-breaks}
use Rattle.ws2s_reduce.proofs.reduction.reduce.Goals as goal

pub returns-clause-holds : goal.returns-clause-holds
returns-clause-holds c =
    subst (MeansText c.args.text.now) (sym c.in_ok-reduced.ensures.value.holds) (λ a. WSat-holds c.args.text.now a c.build.ensures.checked)

pub returns-clause-breaks : goal.returns-clause-breaks
returns-clause-breaks c =
    subst (MeansBroken c.args.text.now) (sym c.in_ok-reduced.ensures.value.breaks) (λ a. WSat-breaks c.args.text.now a c.build.ensures.checked)
