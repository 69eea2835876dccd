use Rattle.tree_encode.proofs.TracksLemmas.{length-tracks_of, track-variant, track-bool, track-var}
use Rattle.tree_encode.proofs.laws.tracks_stand_in_their_places.Goals as goal

pub returns : goal.returns
returns c = record { count = length-tracks_of; variant = track-variant; bool = track-bool; var = track-var }
