use Rattle.store_exec.proofs.RenamedSteps.{Step-renamed}
use Rattle.store_exec.proofs.renaming.renaming_cells_keeps_steps.Goals as goal

pub returns : goal.returns
returns c = λ types pairs s t h a r step. Step-renamed types pairs s t h a r step
