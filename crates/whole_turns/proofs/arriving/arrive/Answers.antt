use Rattle.std.proofs.Common.{◌∙◌, Option, Some, None, refl, sym, ap, subst}
use Rattle.store_core.specs.Stores.{StoreMap, Fits}
use Rattle.store_exec.specs.declared.cause.Cause.{Cause}
use Rattle.store_exec.specs.Cuts.{AtCut}
use Rattle.store_exec.specs.Restricted.{restricted}
use Rattle.whole_handing.proofs.RestrictingLemmas.{vars_length}
use Rattle.whole_turns.proofs.arriving.arrive.Goals as goal

-- a store that was settled is the same
pub returns-in-Some : goal.returns-in-Some
returns-in-Some c = (
  subst (λ (s : StoreMap). AtCut c.args.types.now c.args.vars.now c.args.cut.now s (Some c.in-Some.cause)) c.settle.ensures
      (subst (λ (o : Option Cause). AtCut c.args.types.now c.args.vars.now c.args.cut.now c.settle.new.self o) c.in-Some.is c.in_ok-cause.ensures),
  refl,
  c.settle.ensures,
)

pub restricted-requires : goal.restricted-requires
restricted-requires c =
    let fits = subst (Fits c.args.types.now c.args.vars.now) (sym c.settle.ensures) c.requires.fits in
    vars_length c.settle.new.self c.args.vars.now (c.settle.new.self).vars fits.values

pub returns-in_ok-restricted-in-None : goal.returns-in_ok-restricted-in-None
returns-in_ok-restricted-in-None c = (
  subst (λ (s : StoreMap). AtCut c.args.types.now c.args.vars.now c.args.cut.now s None) c.settle.ensures
      (subst (λ (o : Option Cause). AtCut c.args.types.now c.args.vars.now c.args.cut.now c.settle.new.self o) c.in-None.is c.in_ok-cause.ensures),
  c.in_ok-restricted-in-None.ensures ∙ ap restricted c.settle.ensures,
)
