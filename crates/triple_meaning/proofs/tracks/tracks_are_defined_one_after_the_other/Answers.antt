use Rattle.triple_meaning.proofs.tracks.TripleLemmas.{walked-kept}
use Rattle.triple_meaning.proofs.tracks.tracks_are_defined_one_after_the_other.Goals as goal

pub returns : goal.returns
returns c = λ types vars t fits. (walked-kept types vars t fits).made
