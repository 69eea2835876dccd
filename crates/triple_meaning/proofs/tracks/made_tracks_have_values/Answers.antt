use Rattle.tree_encode.specs.Tracks.{track_count}
use Rattle.site_list.specs.Triples.{walked}
use Rattle.triple_meaning.proofs.tracks.TripleLemmas.{walked-kept}
use Rattle.triple_meaning.proofs.tracks.BindingLemmas.{values-there}
use Rattle.triple_meaning.proofs.tracks.made_tracks_have_values.Goals as goal

pub returns : goal.returns
returns c = λ types vars t a next fits finite room.
    values-there next (walked types vars t).defined (track_count types vars) (walked-kept types vars t fits).made room a finite
