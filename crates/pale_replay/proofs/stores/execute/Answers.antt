use Rattle.std.proofs.Common.{length, inl, subst}
use Rattle.store_exec.specs.Runs.{RunsCode}
use Rattle.pale_replay.specs.Replays.{fails}
use Rattle.pale_replay.proofs.ArrivalLemmas.{ends-below}
use Rattle.pale_replay.proofs.stores.execute.Goals as goal

pub arrive-requires-clause-place : goal.arrive-requires-clause-place
arrive-requires-clause-place c =
    let code = (c.args.triple.now).code in
    ends-below c.args.types.now (length (c.args.triple.now).cuts) code c.args.store c.in-End.after c.in-End.place c.requires.triple.tails
    (subst (RunsCode c.args.types.now code c.args.store) c.in-End.is c.in_ok-cause.ensures)

pub arrive-requires-clause-store : goal.arrive-requires-clause-store
arrive-requires-clause-store c =
    let types = c.args.types.now in
    let vars = c.args.vars.now in
    let code = (c.args.triple.now).code in
    (c.codes_keep_stores_fitting.ensures types vars code c.args.store c.in-End.after c.in-End.place (c.requires.meets.well_formed).fits
    (c.well_formed_stores_are_fresh.ensures types vars c.args.store c.requires.meets.well_formed).1 (c.requires.triple.fits).code
    (subst (RunsCode types code c.args.store) c.in-End.is c.in_ok-cause.ensures)).0

pub returns-in-Fail : goal.returns-in-Fail
returns-in-Fail c =
    let code = (c.args.triple.now).code in
    fails c.in-Fail.cause c.in-Fail.line c.requires.meets
    (inl (subst (RunsCode c.args.types.now code c.args.store) c.in-Fail.is c.in_ok-cause.ensures))
