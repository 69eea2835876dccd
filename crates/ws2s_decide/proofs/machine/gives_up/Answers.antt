use Rattle.std.proofs.Common.{arith}
use Rattle.ws2s_decide.proofs.CountingLemmas.{ArePast-below}
use Rattle.ws2s_decide.proofs.machine.gives_up.Goals as goal

pub returns-then-way : goal.returns-then-way
returns-then-way c = λ early.
    ArePast-below c.args.automata.now c.args.limit c.pairs.result
    (let many = c.if-pairs-limit.true in let same = c.from-limit.ensures in omega (arith, many, same)) c.pairs.ensures

pub returns-else-way : goal.returns-else-way
returns-else-way c = λ large.
    ArePast-below c.args.automata.now c.args.limit c.pairs.result
    (let many = c.if-pairs-limit.true in let same = c.from-limit.ensures in omega (arith, many, same)) c.pairs.ensures
