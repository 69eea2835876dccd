use Rattle.std.proofs.Common.{◌≡◌, [], drop, refl, sym, rules, arith}
use Rattle.std.proofs.lemmas.Grind.{common_steps}
use Rattle.ws2s_pass.proofs.RewritingLemmas.{IsRewriting-is, IsRewriting-trans}
use Rattle.ws2s_pass.proofs.ApplyingLemmas.{LeadsTo-from, LeadsTo-next, LeadsTo-end}
use Rattle.ws2s_pass.proofs.passes.apply.Goals as goal

pub loop-pass-init : goal.loop-pass-init
loop-pass-init g c = (IsRewriting-is _ _ (sym c.in_ok-made.ensures), LeadsTo-from _ _ _ _ (sym c.in_ok-made.ensures))

pub loop-pass-preserved : goal.loop-pass-preserved
loop-pass-preserved g c = (
  IsRewriting-trans _ _ _ c.loop-pass.invariant.0 c.in_ok-made-2.ensures.kept,
  LeadsTo-next _ _ c.loop-pass.pass-index _ _ c.pass-item.result _ _ _ c.loop-pass-test.true (omega arith) c.pass-item.is
      (_, c.in_ok-made-2.ensures.answer, refl) c.loop-pass.invariant.1,
)

pub returns-clause-kept : goal.returns-clause-kept
returns-clause-kept g c = c.loop-pass.invariant.0

pub returns-clause-order : goal.returns-clause-order
returns-clause-order g c =
    let none : drop c.loop-pass.pass-index c.as_slice-pass-items.result.now ≡ [] = first_of (search rules, grind (arith, common_steps)) in
    LeadsTo-end _ _ _ c.loop-pass.pass-index _ _ c.as_slice-pass-items.ensures.value none c.loop-pass.invariant.1
