use Rattle.store_runner.proofs.RecordingLemmas.{silent, off-by}
use Rattle.store_runner.proofs.items.show_act.Goals as goal

pub returns-then-not-is_on : goal.returns-then-not-is_on
returns-then-not-is_on c = silent c.args.types.now c.args.line c.args.act.now c.args.store.now c.do_act.new.store c.args.recorder.now c.do_act.result
    (off-by c.is_on.result c.args.recorder.now c.is_on.ensures c.if-not-is_on.true) c.do_act.ensures
