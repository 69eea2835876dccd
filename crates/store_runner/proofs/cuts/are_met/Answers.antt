use Rattle.std.proofs.Common.{All, List, arith, subst, refl}
use Rattle.std.proofs.lemmas.List.{take_all}
use Rattle.std.proofs.lemmas.List.Elements.{All-more}
use Rattle.store_exec.specs.declared.triple.Claim.{Claim}
use Rattle.store_exec.specs.Cuts.{IsMet}
use Rattle.store_runner.proofs.cuts.are_met.Goals as goal

pub loop-claim-preserved : goal.loop-claim-preserved
loop-claim-preserved c = All-more (IsMet c.args.types.now c.args.vars.now c.args.store.now) c.args.claims.now c.loop-claim.claim-index c.claim-item.result
    (omega (arith, c.loop-claim-test.true)) c.loop-claim.invariant
    (subst (IsMet c.args.types.now c.args.vars.now c.args.store.now) c.claim-item.is (c.in_ok-holds.ensures.0 c.if-not-branch.false))

pub returns : goal.returns
returns c = (
  (λ e. subst (λ (xs : List Claim). All (IsMet c.args.types.now c.args.vars.now c.args.store.now) xs)
      (take_all c.loop-claim.claim-index c.args.claims.now (omega (arith, c.loop-claim-test.false))) c.loop-claim.invariant),
  (λ h. refl),
)
