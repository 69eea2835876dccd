use Rattle.store_exec.proofs.FrameRuns.{code-leaves}
use Rattle.store_exec.proofs.frames.runs_leave_the_rest.Goals as goal

pub returns : goal.returns
returns c = λ types code s t place above runs. (code-leaves types code s t place above runs).leave
