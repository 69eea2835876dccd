use Rattle.std.proofs.Common.{◌≡◌, List, false, true, map, flat_map, sym, ◌∙◌, ap, subst}
use Rattle.bdd_nodes.specs.declared.node_ref.NodeRef.{NodeRef}
use Rattle.labels.specs.Labels.{Label}
use Rattle.bdd_nodes.specs.Shelf.{Contents}
use Rattle.bdd_walk.specs.Asked.{leaves_of}
use Rattle.bdd_walk.specs.Sides.{side_at, both_at, AskFirst, IsSetOf}
use Rattle.bdd_walk.specs.Sets.{set_of}
use Rattle.bdd_walk.proofs.SetRootsLemmas.{IsSplit-set, IsSkip-set, asked-leaves}
use Rattle.bdd_walk.proofs.set_roots.SetRootsWalk.step.Goals as goal

pub returns-in_default : goal.returns-in_default
returns-in_default c = λ before is_shelf keeps inside label.
    asked-leaves before c.args.self.now.dropped c.args.roots.now.items c.in_ok-states.states
    (subst (λ (rs : List NodeRef). (other : Contents) (label : Label) → leaves_of other rs label ≡ c.in_ok-states.states)
    c.as_slice-roots.ensures.value c.in_ok-states.ensures) label
    ∙ sym (c.from_vec.ensures ∙ c.in_ok-set.ensures ∙ ap set_of c.as_slice.ensures)

pub returns-then-track-self : goal.returns-then-track-self
returns-then-track-self c = λ before is_shelf keeps inside.
    let now = c.args.shelf.now in
    IsSkip-set c.args.self.now.dropped before now is_shelf keeps c.args.roots.now inside c.in-Some.track
    (subst (AskFirst now c.in-Some.track) c.as_slice-roots.ensures.value c.in-Some.ensures)
    c.in_ok-past_set.field-0 (sym c.if-track-self.true)
    (subst (λ (rs : List NodeRef). IsSetOf (flat_map (both_at now c.in-Some.track) rs) c.in_ok-past_set.field-0.items)
    c.as_slice-roots.ensures.value c.in_ok-past_set.ensures)

pub returns : goal.returns
returns c = λ before is_shelf keeps inside.
    let now = c.args.shelf.now in
    IsSplit-set c.args.self.now.dropped before now is_shelf keeps c.args.roots.now inside c.in-Some.track
    (subst (AskFirst now c.in-Some.track) c.as_slice-roots.ensures.value c.in-Some.ensures)
    c.in_ok-low.low c.in_ok-high.high (λ same. c.if-track-self.false (sym same))
    (subst (λ (rs : List NodeRef). IsSetOf (map (side_at now c.in-Some.track false) rs) c.in_ok-low.low.items)
    c.as_slice-roots.ensures.value c.in_ok-low.ensures)
    (subst (λ (rs : List NodeRef). IsSetOf (map (side_at now c.in-Some.track true) rs) c.in_ok-high.high.items)
    c.as_slice-roots.ensures.value c.in_ok-high.ensures)
