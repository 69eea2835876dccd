use Rattle.std.proofs.Common.{sym, subst, All, List}
use Rattle.std.proofs.lemmas.List.Elements.{All-push}
use Rattle.ws2s_context.specs.declared.rewritings.Rewriting.{Rewriting}
use Rattle.ws2s_context.specs.Going.{IsRewriting}
use Rattle.ws2s_context.proofs.rewritings.Rewritings.add.Goals as goal

pub returns : goal.returns
returns c = λ formulas all same.
    subst (λ (made : List Rewriting). All (IsRewriting formulas) made) (sym c.in_ok-push.ensures.items)
    (All-push (IsRewriting formulas) c.args.self.now.made.items (record { place = c.args.place; to = c.args.to }) all same)
