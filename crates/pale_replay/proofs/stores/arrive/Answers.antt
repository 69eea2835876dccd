use Rattle.std.proofs.Common.{Option, inr, sym, refl, subst}
use Rattle.store_exec.specs.declared.cause.Cause.{Cause}
use Rattle.store_exec.specs.Cuts.{AtCut}
use Rattle.store_exec.specs.Fits.{CutFits}
use Rattle.pale_replay.specs.Replays.{fails, ends}
use Rattle.pale_replay.proofs.ArrivalLemmas.{by_recursion_there}
use Rattle.pale_replay.proofs.stores.arrive.Goals as goal

pub at_cut-requires-clause-cut : goal.at_cut-requires-clause-cut
at_cut-requires-clause-cut c =
    by_recursion_there (CutFits c.args.types.now c.args.vars.now) (c.args.triple.now).cuts c.args.place c.in-Some.cut.now
    (c.requires.triple.fits).cuts (sym c.in-Some.ensures.value)

pub returns-in-Some-2 : goal.returns-in-Some-2
returns-in-Some-2 c = λ s meets runs.
    let cut = c.in-Some.cut.now in
    let store = c.args.store.now in
    fails c.in-Some-2.cause cut.line meets (inr (record {
      place = c.args.place;
      cut = cut;
      store = store;
      ends = runs;
      there = sym c.in-Some.ensures.value;
      first = subst (λ (o : Option Cause). AtCut c.args.types.now c.args.vars.now cut store o) c.in-Some-2.is c.in_ok-cause.ensures;
      at_line = refl;
    }))

pub returns-in-None : goal.returns-in-None
returns-in-None c = λ s meets runs.
    let cut = c.in-Some.cut.now in
    let store = c.args.store.now in
    ends cut.line meets (record {
      place = c.args.place;
      cut = cut;
      store = store;
      ends = runs;
      there = sym c.in-Some.ensures.value;
      sound = subst (λ (o : Option Cause). AtCut c.args.types.now c.args.vars.now cut store o) c.in-None.is c.in_ok-cause.ensures;
      at_line = refl;
    })
