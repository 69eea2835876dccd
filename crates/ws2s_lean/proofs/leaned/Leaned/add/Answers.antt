use Rattle.std.proofs.Common.{List, sym, subst}
use Rattle.std.proofs.lemmas.List.Elements.{All-push}
use Rattle.ws2s_lean.specs.declared.leaned.Leaning.{Leaning}
use Rattle.ws2s_lean.specs.Conjunctions.{IsLeaned, AreLeaned}
use Rattle.ws2s_lean.proofs.leaned.Leaned.add.Goals as goal

pub returns : goal.returns
returns c = λ formulas all leaned.
    subst (λ (made : List Leaning). AreLeaned formulas made) (sym c.in_ok-push.ensures.items)
    (All-push (λ (l : Leaning). IsLeaned formulas l.from l.to) c.args.self.now.made.items (record { from = c.args.from; to = c.args.to }) all leaned)
