-- One more right state.
use Rattle.std.proofs.Common.{◌<◌, length, sym, subst, arith}
use Rattle.std.specs.Prelude.{slice_index}
use Rattle.std.proofs.lemmas.Option.{slice_get_within, slice_get-get_or}
use Rattle.bdd_list.specs.declared.listing.Listed.{Listed}
use Rattle.bdd_list.specs.Listing.{function_of}
use Rattle.gta_reach.specs.Form.{cell_in, root_in}
use Rattle.gta_reach.specs.Reached.{IsGiven, IsTouched}
use Rattle.gta_reach.proofs.SweepLemmas.{Grown-trans, Grown-step, IsTouched-step, Sweeps-touch, given-root, touched-more}
use Rattle.gta_reach.proofs.sweep.touch_row.Goals as goal

pub listed-requires : goal.listed-requires
listed-requires c =
    let rights = c.args.rights.now in
    let i = c.loop-right.right-index in
    let inside : i < length rights = (let t = c.loop-right-test.true in let e = c.loop-right.auto.right-index-end in omega arith) in
    c.requires (slice_index rights i) (record { place = i; there = slice_get-get_or rights i 0 inside })

pub loop-right-preserved : goal.loop-right-preserved
loop-right-preserved c =
    let space = c.args.space.now in
    let left = c.args.left in
    let rights = c.args.rights.now in
    let i = c.loop-right.right-index in
    let here = slice_index rights i in
    let inside : i < length rights = (let t = c.loop-right-test.true in let e = c.loop-right.auto.right-index-end in omega arith) in
    let at = slice_get-get_or rights i 0 inside in
    let inv = c.loop-right.invariant in
    let nodes = c.loop-right.nodes.items in
    let states = c.loop-right.states in
    let new_nodes = c.touch.new.nodes.items in
    let new_states = c.touch.new.states in
    let listed = c.listed.result in
    let e = c.touch.ensures in
    let step = Grown-step nodes states new_nodes new_states listed e.nodes e.states in
    let touched : IsTouched new_nodes new_states (root_in space (cell_in space left here)) =
    subst (IsTouched new_nodes new_states) c.listed.ensures (IsTouched-step nodes states new_nodes new_states listed e.nodes e.states) in
    record {
      sweeps = λ lefts before in_left start.
          Sweeps-touch space lefts rights before nodes states new_nodes new_states c.loop-right.is_more c.touch.new.is_more listed e.nodes e.states e.unchanged
          (λ label. subst (λ (l : Listed). IsGiven space lefts rights (function_of space.listing l label)) (sym c.listed.ensures)
          (given-root space lefts rights before left here in_left (record { place = i; there = at }) label))
          (inv.sweeps lefts before in_left start);
      grown = Grown-trans _ _ nodes states new_nodes new_states inv.grown step;
      touched = touched-more space left rights nodes states new_nodes new_states i here at step touched inv.touched;
      fewer = let f = inv.fewer in let g = e.fewer in omega arith;
    }

pub returns-clause-touched : goal.returns-clause-touched
returns-clause-touched c = λ r in_right.
    c.loop-right.invariant.touched in_right.place r
    (let b = slice_get_within c.args.rights.now in_right.place r in_right.there in
    let t = c.loop-right-test.false in let e = c.loop-right.auto.right-index-end in omega arith) in_right.there
