use Rattle.store_trace.proofs.TracedRuns.{code-runs}
use Rattle.store_trace.proofs.RunsTraced.{code-traced}
use Rattle.store_trace.proofs.OneTrace.{code-one}
use Rattle.store_trace.proofs.laws.traces_are_runs.Goals as goal

pub returns : goal.returns
returns c = record {
  outcomes = λ types code s t shown end h. code-runs types code s shown t end h;
  traces = λ types code s out h. code-traced types code s out h;
  one = λ types code s t u shown other end also h k. code-one types code s t u shown other end also h k;
}
