use Rattle.std.proofs.Common.{◌≡◌, IfOk, ◌∙◌, subst}
use Rattle.store_logic.specs.declared.assertion.Assertion.{Assertion}
use Rattle.hoare_split.proofs.CallLemmas.{pre_of-there}
use Rattle.hoare_split.proofs.calls.pre_of.Goals as goal

pub returns : goal.returns
returns c = subst (λ (a : Assertion). IfOk c.fill.result (λ made. made ≡ a))
    (pre_of-there _ c.args.call.now c.in-Some.callee.now c.in-Some.ensures c.new-puts.result c.pair_actuals.new.puts _ _ _ _ _
    c.new-puts.ensures c.as_slice.ensures c.as_slice-2.ensures c.in_ok-pair_actuals.ensures
    c.as_slice-3.ensures c.as_slice-4.ensures (c.as_slice-5.ensures ∙ c.in_ok-pair_actuals-2.ensures))
    c.fill.ensures
