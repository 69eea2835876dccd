use Rattle.std.proofs.Common.{ℕ, ◌∙◌, ◌++◌, ◌∷◌, [], map, ap, arith}
use Rattle.std.specs.List.{range_with_len}
use Rattle.store_core.specs.declared.value.Value.{Value}
use Rattle.hoare_split.specs.Picking.{numbered}
use Rattle.whole_run.specs.Handing.{value_after}
use Rattle.whole_handing.proofs.ReturnLemmas.{numbered_more}
use Rattle.whole_handing.proofs.returning.values_after.Goals as goal

pub loop-index-preserved : goal.loop-index-preserved
loop-index-preserved c =
    let f = value_after c.args.vars.now c.args.call.now c.args.results.now c.args.rest.now c.args.exited.now in
    let now = c.loop-index.values in
    numbered_more f c.loop-index.index now c.push.new.self c.loop-index.invariant
    (c.in_ok-push.ensures.ok ∙ ap (λ (x : Value). now ++ x ∷ []) c.in_ok-value_after.ensures)

pub returns : goal.returns
returns c =
    let f = value_after c.args.vars.now c.args.call.now c.args.results.now c.args.rest.now c.args.exited.now in
    c.loop-index.invariant
    ∙ ap (λ (n : ℕ). map f (numbered (range_with_len 0 n))) (omega (arith, c.loop-index-test.false, c.vars-index-end.ensures.value))
