use Rattle.std.proofs.Common.{sym, subst}
use Rattle.labels.specs.Labels.{Label}
use Rattle.bdd_walk.specs.Answers.{AnswersOnly}
use Rattle.bdd_walk.specs.Asked.{IsGiven}
use Rattle.bdd_walk.proofs.TurnLemmas.{AnswersOnly-none}
use Rattle.bdd_walk.specs.Stands.{Asking}
use Rattle.bdd_walk.specs.Under.{Exceeds}
use Rattle.bdd_walk.specs.Progress.{Progress}
use Rattle.bdd_walk.proofs.CallLemmas.{twice-asked}
use Rattle.bdd_walk.proofs.roots.join_dropped.Goals as goal

pub returns-clause-limit : goal.returns-clause-limit
returns-clause-limit g c = λ stopped given completes.
    subst (λ (asking : Asking). Exceeds c.args.shelf.now (λ (label : Label). given (asking label)))
    (sym (twice-asked c.args.shelf.now c.args.roots.now c.in_ok-all.all.items c.args.track c.in_ok-all.ensures))
    (c.join_kept.ensures.limit stopped given completes)

pub returns-clause-progress : goal.returns-clause-progress
returns-clause-progress g c =
    subst (λ (asking : Asking). Progress (record { shelf = c.args.shelf.now; answers = g.L.LeafRule.answers c.args.rule.now; whole = asking })
    c.join_kept.new.shelf (g.L.LeafRule.answers c.join_kept.new.rule))
    (sym (twice-asked c.args.shelf.now c.args.roots.now c.in_ok-all.all.items c.args.track c.in_ok-all.ensures)) c.join_kept.ensures.progress

pub returns-clause-only : goal.returns-clause-only
returns-clause-only g c =
    subst (λ (asking : Asking). AnswersOnly (IsGiven g.L.LeafRule.like asking) (g.L.LeafRule.answers c.args.rule.now) (g.L.LeafRule.answers
    c.join_kept.new.rule))
    (sym (twice-asked c.args.shelf.now c.args.roots.now c.in_ok-all.all.items c.args.track c.in_ok-all.ensures)) c.join_kept.ensures.only

pub returns-in_err-all-clause-only : goal.returns-in_err-all-clause-only
returns-in_err-all-clause-only g c = AnswersOnly-none _ _
