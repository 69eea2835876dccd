use Rattle.std.proofs.Common.{rules}
use Rattle.std.proofs.Math.Logic.{∥∥₁_map}
use Rattle.ws2s_pass.proofs.RewritingLemmas.{IsRewriting-mere}
use Rattle.ws2s_pass.proofs.pass.Pass.answer.Goals as goal

pub returns-clause-kept : goal.returns-clause-kept
returns-clause-kept g c =
    IsRewriting-mere _ _ (∥∥₁_map c.args.self.now.rewrites (λ all. all c.args.alloc c.args.formula c.in_ok-made.made
    (search (rules, c.in_ok-made.ensures))))
