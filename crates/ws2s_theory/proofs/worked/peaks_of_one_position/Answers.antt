use Rattle.ws2s_core.specs.Examples.{track}
use Rattle.ws2s_theory.proofs.WorkedSureLemmas.{HasPeak-Some, HasPeak-each}
use Rattle.ws2s_theory.proofs.worked.peaks_of_one_position.Goals as goal

pub returns : goal.returns
returns c = record { one = λ t. HasPeak-Some (track t); several = HasPeak-each }
