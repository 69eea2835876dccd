use Rattle.std.proofs.Common.{arith}
use Rattle.ws2s_core.proofs.SizesLemmas.{size-saturated}
use Rattle.ws2s_core.proofs.formula.Formula.size.Goals as goal

pub returns-in-None : goal.returns-in-None
returns-in-None c = size-saturated c.args.self.now (omega (arith, c.in-None.ensures.none))
