use Rattle.std.proofs.Common.{List, None, arith, sym, subst}
use Rattle.bdd_nodes.specs.declared.node_ref.NodeRef.{NodeRef}
use Rattle.labels.specs.Labels.{Label}
use Rattle.bdd_walk.specs.Answers.{AnswersOnly}
use Rattle.bdd_walk.specs.Asked.{leaves_of, IsGiven}
use Rattle.bdd_walk.specs.Under.{Exceeds}
use Rattle.bdd_walk.specs.Progress.{Progress}
use Rattle.bdd_walk.proofs.CallLemmas.{one-list, two-list}
use Rattle.bdd_walk.proofs.FitsLemmas.{Fits-kept, fits-one, fits-two, fits-many}
use Rattle.bdd_walk.proofs.roots.join_plain.Goals as goal

pub join_kept-requires-clause-may_ask : goal.join_kept-requires-clause-may_ask
join_kept-requires-clause-may_ask g c = λ label.
    subst (λ (rs : List NodeRef). g.L.LeafRule.may_ask c.args.rule.now (leaves_of c.args.shelf.now rs label))
    (sym (one-list c.args.roots.now (record { word = 0 }) (omega arith) (omega arith))) (c.requires.may_ask label)

pub join_kept-requires-in-len2-clause-may_ask : goal.join_kept-requires-in-len2-clause-may_ask
join_kept-requires-in-len2-clause-may_ask g c = λ label.
    subst (λ (rs : List NodeRef). g.L.LeafRule.may_ask c.args.rule.now (leaves_of c.args.shelf.now rs label))
    (sym (two-list c.args.roots.now (record { word = 0 }) (omega arith) (omega arith))) (c.requires.may_ask label)

pub returns-in-len1-clause-progress : goal.returns-in-len1-clause-progress
returns-in-len1-clause-progress g c =
    subst (λ (rs : List NodeRef). Progress
    (record {
      shelf = c.args.shelf.now;
      answers = g.L.LeafRule.answers c.args.rule.now;
      whole = leaves_of c.args.shelf.now rs;
    }) c.join_kept.new.shelf (g.L.LeafRule.answers c.join_kept.new.rule))
    (one-list c.args.roots.now (record { word = 0 }) (omega arith) (omega arith)) c.join_kept.ensures.progress

pub returns-in-len1-clause-limit : goal.returns-in-len1-clause-limit
returns-in-len1-clause-limit g c = λ stopped given completes.
    subst (λ (rs : List NodeRef). Exceeds c.args.shelf.now (λ (label : Label). given (leaves_of c.args.shelf.now rs label)))
    (one-list c.args.roots.now (record { word = 0 }) (omega arith) (omega arith)) (c.join_kept.ensures.limit stopped given completes)

pub returns-in-len2-clause-progress : goal.returns-in-len2-clause-progress
returns-in-len2-clause-progress g c =
    subst (λ (rs : List NodeRef). Progress
    (record {
      shelf = c.args.shelf.now;
      answers = g.L.LeafRule.answers c.args.rule.now;
      whole = leaves_of c.args.shelf.now rs;
    }) c.join_kept-in-len2.new.shelf
    (g.L.LeafRule.answers c.join_kept-in-len2.new.rule))
    (two-list c.args.roots.now (record { word = 0 }) (omega arith) (omega arith)) c.join_kept-in-len2.ensures.progress

pub returns-in-len2-clause-limit : goal.returns-in-len2-clause-limit
returns-in-len2-clause-limit g c = λ stopped given completes.
    subst (λ (rs : List NodeRef). Exceeds c.args.shelf.now (λ (label : Label). given (leaves_of c.args.shelf.now rs label)))
    (two-list c.args.roots.now (record { word = 0 }) (omega arith) (omega arith)) (c.join_kept-in-len2.ensures.limit stopped given completes)

pub returns-in-len1-clause-fits : goal.returns-in-len1-clause-fits
returns-in-len1-clause-fits g c =
    let progress = c.join_kept.ensures.progress in
    let answers = g.L.LeafRule.answers c.join_kept.new.rule in
    let kept = Fits-kept c.args.shelf.now c.join_kept.new.shelf (g.L.LeafRule.answers c.args.rule.now) answers
    progress.keeps progress.answers_kept c.args.joiner.now None c.requires.fits in
    fits-one c.args.joiner.now None c.join_kept.new.shelf answers kept c.join_kept.new.kept c.join_kept.result c.join_kept.ensures.fits

pub returns-in-len2-clause-fits : goal.returns-in-len2-clause-fits
returns-in-len2-clause-fits g c =
    let progress = c.join_kept-in-len2.ensures.progress in
    let answers = g.L.LeafRule.answers c.join_kept-in-len2.new.rule in
    let kept = Fits-kept c.args.shelf.now c.join_kept-in-len2.new.shelf (g.L.LeafRule.answers c.args.rule.now) answers
    progress.keeps progress.answers_kept c.args.joiner.now None c.requires.fits in
    fits-two c.args.joiner.now None c.join_kept-in-len2.new.shelf answers kept c.join_kept-in-len2.new.kept c.join_kept-in-len2.result
    c.join_kept-in-len2.ensures.fits

pub returns-in_default-clause-fits : goal.returns-in_default-clause-fits
returns-in_default-clause-fits g c =
    let progress = c.join_list.ensures.progress in
    let answers = g.L.LeafRule.answers c.join_list.new.rule in
    let kept = Fits-kept c.args.shelf.now c.join_list.new.shelf (g.L.LeafRule.answers c.args.rule.now) answers
    progress.keeps progress.answers_kept c.args.joiner.now None c.requires.fits in
    fits-many c.args.joiner.now None c.join_list.new.shelf answers kept c.join_list.new.kept c.join_list.result c.join_list.ensures.fits

pub returns-in-len1-clause-only : goal.returns-in-len1-clause-only
returns-in-len1-clause-only g c =
    subst (λ (rs : List NodeRef). AnswersOnly (IsGiven g.L.LeafRule.like (leaves_of c.args.shelf.now rs)) (g.L.LeafRule.answers c.args.rule.now)
    (g.L.LeafRule.answers c.join_kept.new.rule)) (one-list c.args.roots.now (record { word = 0 }) (omega arith) (omega arith)) c.join_kept.ensures.only

pub returns-in-len2-clause-only : goal.returns-in-len2-clause-only
returns-in-len2-clause-only g c =
    subst (λ (rs : List NodeRef). AnswersOnly (IsGiven g.L.LeafRule.like (leaves_of c.args.shelf.now rs)) (g.L.LeafRule.answers c.args.rule.now)
    (g.L.LeafRule.answers c.join_kept-in-len2.new.rule)) (two-list c.args.roots.now (record { word = 0 }) (omega arith) (omega arith))
    c.join_kept-in-len2.ensures.only
