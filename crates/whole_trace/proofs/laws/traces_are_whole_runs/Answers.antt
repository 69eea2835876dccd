use Rattle.whole_trace.proofs.Exiting.{exit-stands}
use Rattle.whole_trace.proofs.OneTrace.{trace-one}
use Rattle.whole_trace.proofs.TraceLaws.{trace-answers, run-traced}
use Rattle.whole_trace.proofs.laws.traces_are_whole_runs.Goals as goal

pub returns : goal.returns
returns c = record {
  answers = λ program number s n shown stand answer h. trace-answers program number s n shown stand answer h;
  traces = λ program number s n answer h. run-traced program number s n answer h;
  one = λ program number s n shown other stand also answer reply h k. trace-one program number s n shown other stand also answer reply h k;
  exits = λ program number s n shown stand t h. exit-stands program number s n shown stand t h;
}
