use Rattle.std.proofs.Common.{◌≡◌, List, Vec, Global, false, true, map, sym, ◌∙◌, ap, subst}
use Rattle.bdd_nodes.specs.declared.node_ref.NodeRef.{NodeRef}
use Rattle.labels.specs.Labels.{Label}
use Rattle.bdd_nodes.specs.Shelf.{Contents}
use Rattle.bdd_walk.specs.Asked.{leaves_of}
use Rattle.bdd_walk.specs.Sides.{side_at, half_of, AskFirst}
use Rattle.bdd_walk.proofs.ManyRootsLemmas.{past_of, IsSplit-halved, IsSkip-halved, asked_by-leaves}
use Rattle.bdd_walk.proofs.many_roots.ManyRootsWalk.step.Goals as goal

pub returns-in_default : goal.returns-in_default
returns-in_default c = λ before is_shelf keeps inside.
    asked_by-leaves before c.args.self.now.dropped (half_of c.args.roots.now.items) c.args.roots.now.items c.in_ok-states_of.field-0
    (subst (λ (rs : List NodeRef). (other : Contents) (label : Label) → leaves_of other rs label
    ≡ c.in_ok-states_of.field-0) c.as_slice-roots.ensures.value c.in_ok-states_of.ensures)

pub returns-then-drops : goal.returns-then-drops
returns-then-drops c = λ before is_shelf keeps inside.
    let now = c.args.shelf.now in
    IsSkip-halved (λ (v : Vec NodeRef Global). v.items) c.args.self.now.dropped before now is_shelf keeps c.args.roots.now inside c.in-Some.track
    (subst (AskFirst now c.in-Some.track) c.as_slice-roots.ensures.value c.in-Some.ensures)
    c.in_ok-past.field-0 (sym c.drops.ensures ∙ c.if-drops.true)
    (c.in_ok-past.ensures ∙ ap (λ (rs : List NodeRef). past_of now c.in-Some.track (half_of rs) rs) c.as_slice-roots.ensures.value)

pub returns : goal.returns
returns c = λ before is_shelf keeps inside.
    let now = c.args.shelf.now in
    IsSplit-halved (λ (v : Vec NodeRef Global). v.items) c.args.self.now.dropped before now
    is_shelf keeps c.args.roots.now inside c.in-Some.track
    (subst (AskFirst now c.in-Some.track) c.as_slice-roots.ensures.value c.in-Some.ensures)
    c.in_ok-low.low c.in_ok-high.high (sym c.drops.ensures ∙ c.if-drops.false)
    (c.in_ok-low.ensures ∙ ap (map (side_at now c.in-Some.track false)) c.as_slice-roots.ensures.value)
    (c.in_ok-high.ensures ∙ ap (map (side_at now c.in-Some.track true)) c.as_slice-roots.ensures.value)
