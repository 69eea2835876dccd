use Rattle.std.proofs.Common.{subst}
use Rattle.ws2s_decide.proofs.WaysLemmas.{there-still}
use Rattle.ws2s_decide.proofs.trying.tried.Goals as goal

pub verdict-requires-clause-there : goal.verdict-requires-clause-there
verdict-requires-clause-there c =
    let f = c.requires.there.0 in
    (f, there-still c.args.interner.now c.tried_by_network.new.interner c.args.made.0 f c.tried_by_network.ensures.kept c.requires.there.1)

pub returns-clause-value : goal.returns-clause-value
returns-clause-value c = λ f e.
    c.in_ok-verdict.ensures.value f (there-still c.args.interner.now c.tried_by_network.new.interner c.args.made.0 f c.tried_by_network.ensures.kept e)
