use Rattle.tree_encode.specs.Tracks.{track_count}
use Rattle.site_list.specs.Triples.{walked}
use Rattle.triple_meaning.proofs.tracks.TripleLemmas.{walked-kept}
use Rattle.triple_meaning.proofs.tracks.BindingLemmas.{bound-means}
use Rattle.triple_meaning.proofs.tracks.bound_formulas_hold_with_values_of_made_tracks.Goals as goal

pub returns : goal.returns
returns c = λ types vars t f a next fits finite room.
    bound-means next (walked types vars t).defined (track_count types vars) (walked-kept types vars t fits).made room f a finite
