-- The roots are marked, and then what is under them.
use Rattle.std.proofs.Common.{◌≡◌, ℕ, Bool, false, true, List, length, sym, ◌∙◌, ap}
use Rattle.std.specs.Prelude.{replicate}
use Rattle.std.proofs.lemmas.List.{length-replicate}
use Rattle.gta_reach.specs.Form.{cell_in, root_in}
use Rattle.gta_classes.specs.Chosen.{is_marked}
use Rattle.gta_reach.proofs.SweepLemmas.{Sweeps-start, none-marked, IsTouched-grown, IsSwept-all}
use Rattle.gta_reach.proofs.sweep.sweep.Goals as goal

pub returns-clause-swept : goal.returns-clause-swept
returns-clause-swept c =
    let space = c.args.space.now in
    let lefts = c.args.lefts.now in
    let rights = c.args.rights.now in
    let before = c.args.states.now in
    let marks = c.in_ok-nodes.nodes.items in
    let are : marks ≡ replicate c.len.result false = c.in_ok-nodes.ensures.items_if_clones_equal (λ y h. h) in
    let many : length marks ≡ length space.listing.nodes = ap length are ∙ length-replicate c.len.result false ∙ c.len.ensures in
    let none : (i : ℕ) → is_marked marks i ≡ true → ⊥ = λ i marked. none-marked c.len.result i (sym (ap (λ (xs : List Bool). is_marked xs i) are) ∙ marked) in
    let start = Sweeps-start space lefts rights before marks many none in
    let sweeps = c.touch_sides.ensures.sweeps lefts rights before (c.touch_rows.ensures.sweeps before start) in
    IsSwept-all space lefts rights before c.touch_sides.new.nodes.items c.touch_sides.new.states c.touch_sides.new.is_more
    c.requires.ordered c.requires.roots c.requires.states sweeps c.touch_sides.ensures.sides
    (λ l r in_left in_right. IsTouched-grown c.touch_rows.new.nodes.items c.touch_rows.new.states c.touch_sides.new.nodes.items c.touch_sides.new.states
    (root_in space (cell_in space l r)) c.touch_sides.ensures.grown (c.touch_rows.ensures.touched l r in_left in_right))

pub returns-clause-unchanged : goal.returns-clause-unchanged
returns-clause-unchanged c = λ no_more.
    let space = c.args.space.now in
    let lefts = c.args.lefts.now in
    let rights = c.args.rights.now in
    let before = c.args.states.now in
    let marks = c.in_ok-nodes.nodes.items in
    let are : marks ≡ replicate c.len.result false = c.in_ok-nodes.ensures.items_if_clones_equal (λ y h. h) in
    let many : length marks ≡ length space.listing.nodes = ap length are ∙ length-replicate c.len.result false ∙ c.len.ensures in
    let none : (i : ℕ) → is_marked marks i ≡ true → ⊥ = λ i marked. none-marked c.len.result i (sym (ap (λ (xs : List Bool). is_marked xs i) are) ∙ marked) in
    let start = Sweeps-start space lefts rights before marks many none in
    (c.touch_sides.ensures.sweeps lefts rights before (c.touch_rows.ensures.sweeps before start)).unchanged no_more
