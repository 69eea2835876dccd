use Rattle.std.proofs.Common.{[]}
use Rattle.store_exec.proofs.GoingLemmas.{CanRun-ready}
use Rattle.store_runner.proofs.single.execute.Goals as goal

pub do_act-requires-clause-ready : goal.do_act-requires-clause-ready
do_act-requires-clause-ready c = CanRun-ready c.args.types.now c.args.store.now c.args.line c.args.act.now [] c.requires
