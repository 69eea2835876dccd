use Rattle.ws2s_core.specs.Examples.{track}
use Rattle.ws2s_theory.proofs.WorkedLemmas.{HasMinimalSize-single, HasMinimalSize-root, HasMinimalSize-sub}
use Rattle.ws2s_theory.proofs.worked.sizes_of_atoms.Goals as goal

pub returns : goal.returns
returns c = record { single = λ t. HasMinimalSize-single (track t); root = HasMinimalSize-root; sub = HasMinimalSize-sub }
