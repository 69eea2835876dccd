-- One more left state.
use Rattle.std.proofs.Common.{◌≡◌, ℕ, ◌<◌, Some, length, inl, inr, sym, ◌∙◌, ap, subst, arith}
use Rattle.std.specs.Prelude.{slice_get, slice_index}
use Rattle.std.proofs.lemmas.Bool.{cases_lt}
use Rattle.std.proofs.lemmas.Option.{slice_get_within, slice_get-get_or}
use Rattle.gta_reach.specs.Form.{cell_in, root_in}
use Rattle.gta_reach.specs.Reached.{IsTouched}
use Rattle.gta_reach.proofs.SweepLemmas.{IsTouched-grown}
use Rattle.gta_reach.proofs.sweep.touch_rows.Goals as goal

pub touch_row-requires : goal.touch_row-requires
touch_row-requires c = λ r in_right.
    let lefts = c.args.lefts.now in
    let i = c.loop-left.left-index in
    let inside : i < length lefts = (let t = c.loop-left-test.true in let e = c.loop-left.auto.left-index-end in omega arith) in
    c.requires (slice_index lefts i) r (record { place = i; there = slice_get-get_or lefts i 0 inside }) in_right

pub loop-left-preserved : goal.loop-left-preserved
loop-left-preserved c =
    let space = c.args.space.now in
    let lefts = c.args.lefts.now in
    let i = c.loop-left.left-index in
    let here = slice_index lefts i in
    let inside : i < length lefts = (let t = c.loop-left-test.true in let e = c.loop-left.auto.left-index-end in omega arith) in
    let at = slice_get-get_or lefts i 0 inside in
    let inv = c.loop-left.invariant in
    let nodes = c.touch_row.new.nodes.items in
    let states = c.touch_row.new.states in
    record {
      sweeps = λ before start. c.touch_row.ensures.sweeps lefts before (record { place = i; there = at }) (inv.sweeps before start);
      touched = λ k l r k_in there in_right. elim (cases_lt k i) [
        | inl earlier ↦ IsTouched-grown c.loop-left.nodes.items c.loop-left.states nodes states (root_in space (cell_in space l r))
            c.touch_row.ensures.grown (inv.touched k l r earlier there in_right)
        | inr last ↦
            let is : k ≡ i = omega arith in
            let e : Some here ≡ Some l = sym at ∙ ap (slice_get lefts) (sym is) ∙ there in
            let same : here ≡ l = cc in
            subst (λ (q : ℕ). IsTouched nodes states (root_in space (cell_in space q r))) same (c.touch_row.ensures.touched r in_right)
      ];
      fewer = let f = inv.fewer in let g = c.touch_row.ensures.fewer in omega arith;
    }

pub returns-clause-touched : goal.returns-clause-touched
returns-clause-touched c = λ l r in_left in_right.
    c.loop-left.invariant.touched in_left.place l r
    (let b = slice_get_within c.args.lefts.now in_left.place l in_left.there in
    let t = c.loop-left-test.false in let e = c.loop-left.auto.left-index-end in omega arith) in_left.there in_right
