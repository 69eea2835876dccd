use Rattle.store_exec.proofs.RenamedRuns.{code-renamed}
use Rattle.store_exec.proofs.renaming.renaming_cells_keeps_runs.Goals as goal

pub returns : goal.returns
returns c = λ types pairs s t h code out runs. code-renamed types code pairs s t h out runs
