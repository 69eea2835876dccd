use Rattle.store_exec.proofs.RenamedFailing.{Fails-to, swapped, swapped-renamed}
use Rattle.store_exec.proofs.renaming.renaming_cells_keeps_failing.Goals as goal

pub returns : goal.returns
returns c = λ types vars pairs s t h triple why line.
    (Fails-to types vars pairs s t h triple why line, Fails-to types vars (swapped pairs) t s (swapped-renamed pairs s t h) triple why line)
