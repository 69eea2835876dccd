use Rattle.std.proofs.Common.{◌≡◌, ℕ, ◌<◌, List, length, sym, subst, arith}
use Rattle.gta_theory.specs.Guides.{left, right}
use Rattle.ws2s_core.specs.declared.track.Track.{Track}
use Rattle.ws2s_core.specs.Nodes.{AddsAtMost}
use Rattle.ws2s_theory.specs.Trees.{label_of}
use Rattle.gta_pinned.specs.declared.shapes.Shape.{Shape}
use Rattle.gta_pinned.specs.Shapes.{Tells, IsStateOf, IsShaped, shapes_in}
use Rattle.gta_pinned.proofs.RootsLemmas.{shapes-at}
use Rattle.gta_pinned.proofs.ListsLemmas.{AreShapes-more, KeepsShapes-more, now-there}
use Rattle.gta_pinned.proofs.states.state_of.Goals as goal

pub returns-clause-shapes : goal.returns-clause-shapes
returns-clause-shapes c =
    let g = c.args._g.now in
    let s = c.args.space in
    let lists = c.args.shapes.now.items in
    let old = c.args.shelf.now in
    let new = c.telling.new.shelf in
    let tracks = c.args.rising.now in
    let many = c.requires.shapes.many in
    let inside : s < length lists = (let i = c.requires.inside in omega arith) in
    let shape : Shape = record { left = c.child_state.result; right = c.child_state-2.result; test = c.in_ok-test.test } in
    let was : c.index_mut.result.now ≡ shapes_in lists s = shapes-at lists s c.index_mut.result.now inside c.index_mut.ensures.value in
    let adds : AddsAtMost (shapes_in lists s) shape c.state.new.self =
    subst (λ (xs : List Shape). AddsAtMost xs shape c.state.new.self) was c.in_ok-state.ensures.added in
    AreShapes-more g old new c.telling.ensures.makes.keeps tracks lists c.requires.shapes s c.requires.inside shape c.state.new.self adds
    c.in_ok-state.ensures.listed (record {
      known = label_of c.args.node.now.tracks;
      tells = subst (λ (ts : List Track). Tells new tracks (label_of ts) c.in_ok-test.test) c.as_slice.ensures c.in_ok-test.ensures.tells;
      left = subst (λ (q : ℕ). IsShaped lists (left g s) q) (sym c.child_state.ensures) c.requires.left;
      right = subst (λ (q : ℕ). IsShaped lists (right g s) q) (sym c.child_state-2.ensures) c.requires.right;
    })

pub returns-clause-kept : goal.returns-clause-kept
returns-clause-kept c =
    let g = c.args._g.now in
    let s = c.args.space in
    let lists = c.args.shapes.now.items in
    let many = c.requires.shapes.many in
    let inside : s < length lists = (let i = c.requires.inside in omega arith) in
    let shape : Shape = record { left = c.child_state.result; right = c.child_state-2.result; test = c.in_ok-test.test } in
    let was : c.index_mut.result.now ≡ shapes_in lists s = shapes-at lists s c.index_mut.result.now inside c.index_mut.ensures.value in
    let adds : AddsAtMost (shapes_in lists s) shape c.state.new.self =
    subst (λ (xs : List Shape). AddsAtMost xs shape c.state.new.self) was c.in_ok-state.ensures.added in
    KeepsShapes-more g c.args.shelf.now c.telling.new.shelf c.telling.ensures.makes.keeps c.args.rising.now lists c.requires.shapes s c.requires.inside shape
    c.state.new.self adds

pub returns-clause-state : goal.returns-clause-state
returns-clause-state c =
    let g = c.args._g.now in
    let s = c.args.space in
    let lists = c.args.shapes.now.items in
    let tracks = c.args.rising.now in
    let new = c.telling.new.shelf in
    let many = c.requires.shapes.many in
    let inside : s < length lists = (let i = c.requires.inside in omega arith) in
    let shape : Shape = record { left = c.child_state.result; right = c.child_state-2.result; test = c.in_ok-test.test } in
    let was : c.index_mut.result.now ≡ shapes_in lists s = shapes-at lists s c.index_mut.result.now inside c.index_mut.ensures.value in
    let adds : AddsAtMost (shapes_in lists s) shape c.state.new.self =
    subst (λ (xs : List Shape). AddsAtMost xs shape c.state.new.self) was c.in_ok-state.ensures.added in
    let now = now-there g c.args.shelf.now new c.telling.ensures.makes.keeps tracks lists c.requires.shapes s c.requires.inside shape c.state.new.self adds in
    record {
      shape = shape;
      is = subst (λ (xs : List Shape). IsStateOf xs shape c.in_ok-state.state) (sym now) c.in_ok-state.ensures.value;
      left = c.child_state.ensures;
      right = c.child_state-2.ensures;
      tells = subst (λ (ts : List Track). Tells new tracks (label_of ts) c.in_ok-test.test) c.as_slice.ensures c.in_ok-test.ensures.tells;
    }
