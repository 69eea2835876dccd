use Rattle.std.proofs.Common.{List, sym, ◌∙◌, subst}
use Rattle.std.specs.List.{All}
use Rattle.bdd_nodes.specs.declared.node_ref.NodeRef.{NodeRef}
use Rattle.labels.specs.Labels.{Label}
use Rattle.bdd_nodes.specs.Shelf.{IsValid}
use Rattle.bdd_walk.specs.Answers.{AnswersOnly}
use Rattle.bdd_walk.specs.Asked.{asked_of, IsGiven}
use Rattle.bdd_walk.specs.Under.{Exceeds, Adds, AddsParts}
use Rattle.bdd_walk.proofs.calls.join.Goals as goal

pub join-requires-clause-valid : goal.join-requires-clause-valid
join-requires-clause-valid g c = subst (λ (rs : List NodeRef). All (IsValid c.args.shelf.now) rs) (sym c.as_slice.ensures) c.requires.valid

pub join-requires-clause-fits : goal.join-requires-clause-fits
join-requires-clause-fits g c = c.new-joiner.ensures c.args.dropped c.args.shelf.now (g.L.LeafRule.answers c.args.rule.now)

pub returns-in_err-made-clause-limit : goal.returns-in_err-made-clause-limit
returns-in_err-made-clause-limit g c = λ stopped given completes.
    subst (λ (rs : List NodeRef). Exceeds c.args.shelf.now (λ (label : Label). given (asked_of c.args.shelf.now rs c.args.dropped label))) c.as_slice.ensures
    (c.join.ensures.limit (let why = rw stopped at c.from_residual.ensures in c.in_err-made.was ∙ (let is = why.1 in cc)) given completes)

pub returns-in_err-made-clause-parts : goal.returns-in_err-made-clause-parts
returns-in_err-made-clause-parts g c = λ given completes.
    subst (λ (rs : List NodeRef). AddsParts c.args.shelf.now c.join.new.shelf
    (λ (label : Label). given (asked_of c.args.shelf.now rs c.args.dropped label))) c.as_slice.ensures
    (c.join.ensures.parts given completes)

pub returns-in_err-made-clause-adds : goal.returns-in_err-made-clause-adds
returns-in_err-made-clause-adds g c = λ given completes.
    subst (λ (rs : List NodeRef). Adds c.args.shelf.now c.join.new.shelf
    (λ (label : Label). given (asked_of c.args.shelf.now rs c.args.dropped label))) c.as_slice.ensures
    (c.join.ensures.adds given completes)

pub returns-in_err-made-clause-only : goal.returns-in_err-made-clause-only
returns-in_err-made-clause-only g c =
    subst (λ (rs : List NodeRef). AnswersOnly (IsGiven g.L.LeafRule.like (asked_of c.args.shelf.now rs c.args.dropped))
    (g.L.LeafRule.answers c.args.rule.now) (g.L.LeafRule.answers c.join.new.rule)) c.as_slice.ensures c.join.ensures.only

pub returns-clause-parts : goal.returns-clause-parts
returns-clause-parts g c = λ given completes.
    subst (λ (rs : List NodeRef). AddsParts c.args.shelf.now c.join.new.shelf
    (λ (label : Label). given (asked_of c.args.shelf.now rs c.args.dropped label))) c.as_slice.ensures
    (c.join.ensures.parts given completes)

pub returns-clause-adds : goal.returns-clause-adds
returns-clause-adds g c = λ given completes.
    subst (λ (rs : List NodeRef). Adds c.args.shelf.now c.join.new.shelf
    (λ (label : Label). given (asked_of c.args.shelf.now rs c.args.dropped label))) c.as_slice.ensures
    (c.join.ensures.adds given completes)

pub returns-clause-only : goal.returns-clause-only
returns-clause-only g c =
    subst (λ (rs : List NodeRef). AnswersOnly (IsGiven g.L.LeafRule.like (asked_of c.args.shelf.now rs c.args.dropped))
    (g.L.LeafRule.answers c.args.rule.now) (g.L.LeafRule.answers c.join.new.rule)) c.as_slice.ensures c.join.ensures.only
