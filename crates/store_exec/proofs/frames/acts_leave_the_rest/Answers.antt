use Rattle.store_exec.proofs.FrameSteps.{Step-goes}
use Rattle.store_exec.proofs.frames.acts_leave_the_rest.Goals as goal

pub returns : goal.returns
returns c = λ types s t a above step. (Step-goes types s above a t step).leave
