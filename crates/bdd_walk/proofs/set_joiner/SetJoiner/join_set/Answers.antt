-- A set is found, or joined.
use Rattle.std.proofs.Common.{List, ◌∙◌, sym, IfOk, subst}
use Rattle.labels.specs.Labels.{Label}
use Rattle.bdd_nodes.specs.declared.node_ref.NodeRef.{NodeRef}
use Rattle.bdd_walk.specs.Answers.{AnswersOnly}
use Rattle.bdd_walk.specs.Asked.{IsGiven}
use Rattle.bdd_walk.specs.Sides.{IsSetOf}
use Rattle.bdd_walk.specs.Stands.{Asking, Stands}
use Rattle.bdd_walk.specs.Under.{Exceeds}
use Rattle.bdd_walk.specs.Progress.{Progress}
use Rattle.bdd_walk.proofs.CallLemmas.{valid-all}
use Rattle.bdd_walk.proofs.SetRootsLemmas.{set-valid, asked-set, asked-set_all}
use Rattle.bdd_walk.proofs.WaitsLemmas.{memo-stands}
use Rattle.bdd_walk.proofs.set_joiner.SetJoiner.join_set.Goals as goal

pub returns-in-Some-clause-stands : goal.returns-in-Some-clause-stands
returns-in-Some-clause-stands g c =
    subst (λ (asking : Asking). Stands c.args.shelf.now (g.L.LeafRule.answers c.args.rule.now) asking c.in-Some.made.now)
    (asked-set_all c.args.shelf.now c.args.dropped c.args.roots.now c.put_set.new.set.items c.in_ok-put_set.ensures)
    (memo-stands _ _ _ c.args.shelf.now _ _ c.put_set.new.set c.in-Some.made.now (sym c.in-Some.ensures.value) c.requires.fits)

pub join_kept-requires-clause-is_in : goal.join_kept-requires-clause-is_in
join_kept-requires-clause-is_in g c =
    let is = subst (λ (rs : List NodeRef). IsSetOf c.args.roots.now rs) (sym (c.in_ok-set.ensures.items ∙ c.as_slice.ensures.value)) c.in_ok-put_set.ensures in
    set-valid c.args.shelf.now c.args.roots.now c.in_ok-set.set.items is (valid-all c.args.shelf.now c.args.roots.now c.requires.valid)

pub join_kept-requires-clause-may_ask : goal.join_kept-requires-clause-may_ask
join_kept-requires-clause-may_ask g c = λ label.
    let is = subst (λ (rs : List NodeRef). IsSetOf c.args.roots.now rs) (sym (c.in_ok-set.ensures.items ∙ c.as_slice.ensures.value)) c.in_ok-put_set.ensures in
    subst (g.L.LeafRule.may_ask c.args.rule.now)
    (asked-set c.args.shelf.now c.args.dropped c.args.roots.now c.in_ok-set.set.items is label) (c.requires.may_ask label)

pub returns-clause-limit : goal.returns-clause-limit
returns-clause-limit g c = λ stopped given completes.
    let is = subst (λ (rs : List NodeRef). IsSetOf c.args.roots.now rs) (sym (c.in_ok-set.ensures.items ∙ c.as_slice.ensures.value)) c.in_ok-put_set.ensures in
    subst (λ (asking : Asking). Exceeds c.args.shelf.now (λ (label : Label). given (asking label)))
    (asked-set_all c.args.shelf.now c.args.dropped c.args.roots.now c.in_ok-set.set.items is)
    (c.join_kept.ensures.limit stopped given completes)

pub returns-clause-progress : goal.returns-clause-progress
returns-clause-progress g c =
    let is = subst (λ (rs : List NodeRef). IsSetOf c.args.roots.now rs) (sym (c.in_ok-set.ensures.items ∙ c.as_slice.ensures.value)) c.in_ok-put_set.ensures in
    subst (λ (asking : Asking). Progress (record { shelf = c.args.shelf.now; answers = g.L.LeafRule.answers c.args.rule.now; whole = asking })
    c.join_kept.new.shelf (g.L.LeafRule.answers c.join_kept.new.rule))
    (asked-set_all c.args.shelf.now c.args.dropped c.args.roots.now c.in_ok-set.set.items is) c.join_kept.ensures.progress

pub returns-clause-only : goal.returns-clause-only
returns-clause-only g c =
    let is = subst (λ (rs : List NodeRef). IsSetOf c.args.roots.now rs) (sym (c.in_ok-set.ensures.items ∙ c.as_slice.ensures.value)) c.in_ok-put_set.ensures in
    subst (λ (asking : Asking). AnswersOnly (IsGiven g.L.LeafRule.like asking) (g.L.LeafRule.answers c.args.rule.now) (g.L.LeafRule.answers
    c.join_kept.new.rule))
    (asked-set_all c.args.shelf.now c.args.dropped c.args.roots.now c.in_ok-set.set.items is) c.join_kept.ensures.only

pub returns-clause-stands : goal.returns-clause-stands
returns-clause-stands g c =
    let is = subst (λ (rs : List NodeRef). IsSetOf c.args.roots.now rs) (sym (c.in_ok-set.ensures.items ∙ c.as_slice.ensures.value)) c.in_ok-put_set.ensures in
    subst (λ (asking : Asking). IfOk c.join_kept.result (Stands c.join_kept.new.shelf (g.L.LeafRule.answers c.join_kept.new.rule) asking))
    (asked-set_all c.args.shelf.now c.args.dropped c.args.roots.now c.in_ok-set.set.items is) c.join_kept.ensures.stands
