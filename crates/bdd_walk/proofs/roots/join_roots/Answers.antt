use Rattle.std.proofs.Common.{ℕ, Option, OnOk, sym, subst}
use Rattle.labels.specs.Labels.{Label}
use Rattle.bdd_walk.specs.Answers.{AnswersOnly}
use Rattle.bdd_walk.specs.Asked.{asked_of, IsGiven}
use Rattle.bdd_walk.specs.Under.{Exceeds}
use Rattle.bdd_walk.specs.Fits.{FitsMany}
use Rattle.bdd_walk.specs.Progress.{Progress}
use Rattle.bdd_walk.proofs.FitsLemmas.{Fits-kept, fits-many}
use Rattle.bdd_walk.proofs.roots.join_roots.Goals as goal

pub join_dropped-requires-clause-may_ask : goal.join_dropped-requires-clause-may_ask
join_dropped-requires-clause-may_ask g c = λ label.
    subst (λ (dropped : Option ℕ). g.L.LeafRule.may_ask c.args.rule.now
    (asked_of c.args.shelf.now c.args.roots.now dropped label)) c.in-Some.is (c.requires.may_ask label)

pub join_plain-requires-clause-may_ask : goal.join_plain-requires-clause-may_ask
join_plain-requires-clause-may_ask g c = λ label.
    subst (λ (dropped : Option ℕ). g.L.LeafRule.may_ask c.args.rule.now
    (asked_of c.args.shelf.now c.args.roots.now dropped label)) c.in-None.is (c.requires.may_ask label)

pub returns-in-Some-clause-limit : goal.returns-in-Some-clause-limit
returns-in-Some-clause-limit g c = λ stopped given completes.
    subst (λ (dropped : Option ℕ).
    Exceeds c.args.shelf.now (λ (label : Label).
    given (asked_of c.args.shelf.now c.args.roots.now dropped label))) (sym c.in-Some.is)
    (c.join_dropped.ensures.limit stopped given completes)

pub returns-in-None-clause-limit : goal.returns-in-None-clause-limit
returns-in-None-clause-limit g c = λ stopped given completes.
    subst (λ (dropped : Option ℕ).
    Exceeds c.args.shelf.now (λ (label : Label).
    given (asked_of c.args.shelf.now c.args.roots.now dropped label))) (sym c.in-None.is)
    (c.join_plain.ensures.limit stopped given completes)

pub returns-in-Some-clause-fits : goal.returns-in-Some-clause-fits
returns-in-Some-clause-fits g c =
    let progress = c.join_dropped.ensures.progress in
    let answers = g.L.LeafRule.answers c.join_dropped.new.rule in
    let kept = Fits-kept c.args.shelf.now c.join_dropped.new.shelf (g.L.LeafRule.answers c.args.rule.now) answers
    progress.keeps progress.answers_kept c.args.joiner.now c.args.dropped c.requires.fits in
    let there = subst (λ (dropped : Option ℕ). OnOk c.join_dropped.result (FitsMany dropped c.join_dropped.new.shelf answers c.join_dropped.new.kept.memo))
    (sym c.in-Some.is) c.join_dropped.ensures.fits in
    fits-many c.args.joiner.now c.args.dropped c.join_dropped.new.shelf answers kept c.join_dropped.new.kept c.join_dropped.result there

pub returns-in-Some-clause-only : goal.returns-in-Some-clause-only
returns-in-Some-clause-only g c =
    subst (λ (dropped : Option ℕ). AnswersOnly (IsGiven g.L.LeafRule.like (asked_of c.args.shelf.now c.args.roots.now dropped))
    (g.L.LeafRule.answers c.args.rule.now) (g.L.LeafRule.answers c.join_dropped.new.rule)) (sym c.in-Some.is) c.join_dropped.ensures.only

pub returns-in-None-clause-only : goal.returns-in-None-clause-only
returns-in-None-clause-only g c =
    subst (λ (dropped : Option ℕ). AnswersOnly (IsGiven g.L.LeafRule.like (asked_of c.args.shelf.now c.args.roots.now dropped))
    (g.L.LeafRule.answers c.args.rule.now) (g.L.LeafRule.answers c.join_plain.new.rule)) (sym c.in-None.is) c.join_plain.ensures.only

pub returns-in-Some-clause-progress : goal.returns-in-Some-clause-progress
returns-in-Some-clause-progress g c =
    subst (λ (dropped : Option ℕ). Progress (record {
      shelf = c.args.shelf.now;
      answers = g.L.LeafRule.answers c.args.rule.now;
      whole = asked_of c.args.shelf.now c.args.roots.now dropped;
    }) c.join_dropped.new.shelf (g.L.LeafRule.answers c.join_dropped.new.rule)) (sym c.in-Some.is) c.join_dropped.ensures.progress
