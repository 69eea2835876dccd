-- A tree that satisfies the formula of a site of a triple, and is no heavier than any that satisfies that of one.
use Rattle.std.specs.Prelude.{List, length}
use Rattle.ws2s_core.specs.declared.track.Track.{Track}
use Rattle.store_core.specs.Tables.{TypeEntry, VarEntry}
use Rattle.store_exec.specs.declared.triple.Triple.{Triple}
use Rattle.routing_walks.specs.Gathering.{HasAll}
use Rattle.field_judge.specs.Weighed.{IsVariantTrack}
use Rattle.site_list.specs.Sites.{sites_of}
use Rattle.site_list.specs.Triples.{site_formula}
use Rattle.triple_judge.specs.declared.searching.Found.{Found}
use Rattle.triple_judge.specs.Searching.{IsLightest}

-- with the tracks of the variants weighed, it is the lightest tree of the sites, of the first one that has one as light
pub record IsLightestFailure (types : List TypeEntry) (vars : List VarEntry) (t : Triple) (found : Found) : Type 0 where
  pub tracks : List Track
  pub all : HasAll tracks (IsVariantTrack types)
  pub lightest : IsLightest (site_formula types vars t) tracks (length (sites_of types t)) found
