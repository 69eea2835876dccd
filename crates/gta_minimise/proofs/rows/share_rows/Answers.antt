-- One class more.
use Rattle.std.proofs.Common.{◌≡◌, ℕ, ◌+◌, ◌<◌, List, [], length, sym, ◌∙◌, subst, arith}
use Rattle.std.specs.Prelude.{slice_index}
use Rattle.gta_classes.specs.Marks.{AreZero}
use Rattle.gta_classes.proofs.MarksLemmas.{AreZero-replicate}
use Rattle.gta_minimise.proofs.RowsLemmas.{SharesBelow, SharesBelow-none, SharesBelow-step, AreSharedRows-all}
use Rattle.gta_minimise.proofs.rows.share_rows.Goals as goal

pub loop-state-init : goal.loop-state-init
loop-state-init c =
    let kinds = c.args.kinds.now in
    let representatives = c.args.representatives.now in
    let links = c.in_ok-links.links.items in
    let zero = subst (λ (xs : List ℕ). AreZero xs) (sym (c.in_ok-links.ensures.items_if_clones_equal (λ y h. h))) (AreZero-replicate _) in
    let reaches : (i : ℕ) → slice_index kinds i < length links = λ i. let a = c.above.ensures i in
    let l = c.in_ok-links.ensures.len in let v = c.in_ok-links.links.ok.0 in omega arith in
    subst (λ (xs : List ℕ). SharesBelow kinds representatives xs c.from_vec-states.result links 0)
    (sym (c.from_vec-numbers.ensures ∙ c.in_ok-with_capacity.ensures.items))
    (subst (λ (xs : List ℕ). SharesBelow kinds representatives [] xs links 0)
    (sym (c.from_vec-states.ensures ∙ c.in_ok-with_capacity-2.ensures.items)) (SharesBelow-none kinds representatives links reaches zero))

pub row_of-requires-clause-inside : goal.row_of-requires-clause-inside
row_of-requires-clause-inside c = c.loop-state.invariant.reaches _

pub row_of-requires-clause-few : goal.row_of-requires-clause-few
row_of-requires-clause-few c =
    let f = c.loop-state.invariant.few in
    let t = c.loop-state-test.true in
    let r = c.requires.few in
    omega arith

pub loop-state-preserved : goal.loop-state-preserved
loop-state-preserved c =
    let kinds = c.args.kinds.now in
    let representatives = c.args.representatives.now in
    let longer = c.row_of.new.states in
    let after = c.row_of.new.links.items in
    let i = c.loop-state.state-index in
    subst (λ (xs : List ℕ). SharesBelow kinds representatives xs longer after (i + 1)) (sym c.in_ok-push.ensures.ok)
    (SharesBelow-step kinds representatives c.loop-state.numbers c.loop-state.states c.loop-state.links.items i c.loop-state.invariant after longer
    c.in_ok-row.row c.in_ok-row.ensures)

pub returns : goal.returns
returns c =
    let representatives = c.args.representatives.now in
    let end : c.loop-state.state-index ≡ length representatives = (let t = c.loop-state-test.false in
    let e = c.loop-state.auto.state-index-end in omega arith) in
    AreSharedRows-all c.args.kinds.now representatives c.loop-state.numbers c.loop-state.states c.loop-state.links.items
    (subst (λ (n : ℕ). SharesBelow c.args.kinds.now representatives c.loop-state.numbers c.loop-state.states c.loop-state.links.items n) end
    c.loop-state.invariant)
