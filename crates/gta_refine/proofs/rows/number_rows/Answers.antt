-- One more row.
use Rattle.std.proofs.Common.{◌≡◌, ℕ, ◌+◌, ◌<◌, List, length, sym, ◌∙◌, ap, subst, arith}
use Rattle.std.specs.Prelude.{slice_index, slice_set}
use Rattle.std.proofs.lemmas.Option.{slice_get-get_or}
use Rattle.gta_refine.specs.Firsts.{AreFirsts}
use Rattle.gta_refine.specs.Rows.{row_of}
use Rattle.gta_reach.specs.Sides.{kinds_in}
use Rattle.gta_refine.proofs.RowsLemmas.{IdsBelow, IdsBelow-none, IdsBelow-push, AreIds-all}
use Rattle.gta_refine.proofs.rows.number_rows.Goals as goal

pub loop-state-init : goal.loop-state-init
loop-state-init c =
    let space = c.args.space.now in
    let side = c.args.side in
    let firsts = c.in_ok-firsts.firsts in
    let rows = row_of space side c.args.numbers.now c.args.beside.now in
    IdsBelow-none space side c.args.numbers.now c.args.own.now c.args.beside.now c.in_ok-ids.ids.items firsts.states.items firsts.buckets.items
    firsts.chain.items
    (λ i.
    let a = c.above.ensures i in
    let l = c.in_ok-ids.ensures.len in
    let v = c.in_ok-ids.ids.ok.0 in
    let k = ap (λ (xs : List ℕ). slice_index xs i) c.kinds_of-kinds.ensures in
    omega arith)
    (c.in_ok-firsts.ensures.first rows)
    c.in_ok-firsts.ensures.none

pub bounds-kinds-state : goal.bounds-kinds-state
bounds-kinds-state c =
    let own = c.args.own.now in
    let i = c.loop-state.state-index in
    let inside : i < length own = (let t = c.loop-state-test.true in let e = c.loop-state.auto.state-index-end in omega arith) in
    let k = c.requires.kinds (slice_index own i) (record { place = i; there = slice_get-get_or own i 0 inside }) in
    let e = ap (λ (xs : List ℕ). length xs) c.kinds_of-kinds.ensures in
    omega arith

pub first_with-requires-clause-some : goal.first_with-requires-clause-some
first_with-requires-clause-some c =
    let own = c.args.own.now in
    let b = c.loop-state.invariant.are_firsts.buckets_many in
    let t = c.loop-state-test.true in
    omega arith

pub first_with-requires-clause-firsts : goal.first_with-requires-clause-firsts
first_with-requires-clause-firsts c =
    let rows = row_of c.args.space.now c.args.side c.args.numbers.now c.args.beside.now in
    let firsts = c.loop-state.firsts in
    subst (λ (n : ℕ). AreFirsts rows n firsts.states.items firsts.buckets.items firsts.chain.items)
    (sym c.loop-state.invariant.are_firsts.buckets_many) c.loop-state.invariant.are_firsts

pub first_with-requires-clause-roots : goal.first_with-requires-clause-roots
first_with-requires-clause-roots c = λ i other i_in among.
    c.requires.roots (slice_index c.loop-state.firsts.states.items i) other (c.loop-state.invariant.among i i_in) among

pub first_with-requires-clause-own : goal.first_with-requires-clause-own
first_with-requires-clause-own c = λ other among.
    let own = c.args.own.now in
    let i = c.loop-state.state-index in
    let inside : i < length own = (let t = c.loop-state-test.true in let e = c.loop-state.auto.state-index-end in omega arith) in
    c.requires.roots (slice_index own i) other (record { place = i; there = slice_get-get_or own i 0 inside }) among

pub loop-state-preserved : goal.loop-state-preserved
loop-state-preserved c =
    let space = c.args.space.now in
    let side = c.args.side in
    let numbers = c.args.numbers.now in
    let own = c.args.own.now in
    let beside = c.args.beside.now in
    let ids = c.loop-state.ids.items in
    let firsts = c.loop-state.firsts in
    let after = c.first_with.new.firsts in
    let i = c.loop-state.state-index in
    let inside : i < length own = (let t = c.loop-state-test.true in let e = c.loop-state.auto.state-index-end in omega arith) in
    let state = slice_index own i in
    let first = c.in_ok-first.first in
    let set : c.set_at.new.numbers.items ≡ slice_set ids (slice_index (kinds_in space side) state) first =
    c.set_at.ensures ∙ ap (λ (xs : List ℕ). slice_set ids (slice_index xs state) first) c.kinds_of-kinds.ensures in
    let firsts_after = subst (λ (n : ℕ). AreFirsts (row_of space side numbers beside) n after.states.items after.buckets.items after.chain.items)
    c.loop-state.invariant.are_firsts.buckets_many c.in_ok-first.ensures.firsts in
    subst (λ (xs : List ℕ). IdsBelow space side numbers own beside xs after.states.items after.buckets.items after.chain.items (i + 1)) (sym set)
    (IdsBelow-push space side numbers own beside ids firsts.states.items firsts.buckets.items firsts.chain.items i state c.loop-state.invariant
    (slice_get-get_or own i 0 inside) first after.states.items after.buckets.items after.chain.items c.in_ok-first.ensures.first
    c.in_ok-first.ensures.grow firsts_after)

pub returns : goal.returns
returns c =
    let own = c.args.own.now in
    let firsts = c.loop-state.firsts in
    let end : c.loop-state.state-index ≡ length own = (let t = c.loop-state-test.false in let e = c.loop-state.auto.state-index-end in omega arith) in
    AreIds-all c.args.space.now c.args.side c.args.numbers.now own c.args.beside.now c.loop-state.ids.items firsts.states.items firsts.buckets.items
    firsts.chain.items
    (subst (λ (n : ℕ). IdsBelow c.args.space.now c.args.side c.args.numbers.now own c.args.beside.now c.loop-state.ids.items firsts.states.items
    firsts.buckets.items firsts.chain.items n) end c.loop-state.invariant)
