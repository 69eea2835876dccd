-- Assignments with the same sets on some tracks.
use Rattle.std.specs.Prelude.{◌≡◌, List, Contains}
use Rattle.gta_theory.specs.Assignments.{Position, Assignment}
use Rattle.ws2s_core.specs.declared.track.Track.{Track}

-- the two assignments have the same set on each of the tracks
abbrev pub AreAlikeOn : List Track → Assignment → Assignment → Type 0
AreAlikeOn tracks a b = (track : Track) (p : Position) → Contains tracks track → a track.0 p ≡ b track.0 p
