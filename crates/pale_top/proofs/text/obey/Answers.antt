use Rattle.pale_judging.specs.Generating.{Gens}
use Rattle.pale_top.specs.Output.{Output, generated}
use Rattle.pale_status.proofs.WrittenLemmas.{begun-weaker, whole-weaker}
use Rattle.pale_top.proofs.text.obey.Goals as goal

pub returns-in-Gen-clause-ok : goal.returns-in-Gen-clause-ok
returns-in-Gen-clause-ok g c =
    whole-weaker (Gens c.args.settings.limit c.args.settings.seed) (Output c.args.settings c.args.text.now) (generated c.in-Gen.is)
    (g.K.Sink.written c.args.sink.now) (g.K.Sink.written c.gen_text.new.sink) c.gen_text.result c.gen_text.ensures.ok

pub returns-in-Gen-clause-err : goal.returns-in-Gen-clause-err
returns-in-Gen-clause-err g c =
    begun-weaker (Gens c.args.settings.limit c.args.settings.seed) (Output c.args.settings c.args.text.now) (generated c.in-Gen.is)
    (g.K.Sink.written c.args.sink.now) (g.K.Sink.written c.gen_text.new.sink) c.gen_text.result c.gen_text.ensures.err
