use Rattle.std.proofs.Common.{List, subst}
use Rattle.bdd_nodes.specs.declared.node_ref.NodeRef.{NodeRef}
use Rattle.labels.specs.Labels.{Label}
use Rattle.bdd_walk.specs.Answers.{AnswersOnly}
use Rattle.bdd_walk.specs.Asked.{leaves_of, IsGiven}
use Rattle.bdd_walk.proofs.TurnLemmas.{AnswersOnly-none}
use Rattle.bdd_walk.specs.Under.{Exceeds}
use Rattle.bdd_walk.proofs.roots.join_list.Goals as goal

pub returns-clause-limit : goal.returns-clause-limit
returns-clause-limit g c = λ stopped given completes.
    subst (λ (rs : List NodeRef). Exceeds c.args.shelf.now (λ (label : Label). given (leaves_of c.args.shelf.now rs label))) c.in_ok-all.ensures.items
    (c.join_kept.ensures.limit stopped given completes)

pub returns-clause-only : goal.returns-clause-only
returns-clause-only g c =
    subst (λ (rs : List NodeRef). AnswersOnly (IsGiven g.L.LeafRule.like (leaves_of c.args.shelf.now rs)) (g.L.LeafRule.answers c.args.rule.now)
    (g.L.LeafRule.answers c.join_kept.new.rule)) c.in_ok-all.ensures.items c.join_kept.ensures.only

pub returns-in_err-all-clause-only : goal.returns-in_err-all-clause-only
returns-in_err-all-clause-only g c = AnswersOnly-none _ _
