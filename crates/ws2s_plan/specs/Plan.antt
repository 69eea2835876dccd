-- A formula's network by numbers of formulas: which tracks were eliminated, by which buckets, and what is left. (Dechter 1999, Bucket
-- elimination: a unifying framework for reasoning.)
use Rattle.std.specs.Prelude.{◌≡◌, ℕ, ◌==◌, Bool, List, [], ◌∷◌, map, All, Contains, Some, slice_get}
use Rattle.std.specs.List.{list_any}
use Rattle.ws2s_core.specs.declared.track.Track.{Track}
use Rattle.ws2s_core.specs.declared.formula.Formula.{Formula}
use Rattle.ws2s_core.specs.Tracks.{IsFree}
use Rattle.ws2s_facts.specs.Conjuncts.{IsThere, formula_of}
use Rattle.ws2s_context.specs.Opening.{AreOf}
use Rattle.ws2s_network.specs.Network.{AreEliminated}
use Rattle.ws2s_plan.specs.declared.network.Elimination.{Elimination}
use Rattle.ws2s_plan.specs.declared.network.Network.{Network}

-- the tracks that were eliminated, with the formulas of their buckets
abbrev pub gone_at : List Formula → List Elimination → List (ℕ × Formula)
gone_at formulas eliminations = map (λ one. (one.track.0, formula_of formulas one.bucket)) eliminations

-- whether the track was eliminated
abbrev pub is_gone : List Elimination → Track → Bool
is_gone eliminations t = list_any (λ one. one.track.0 == t.0) eliminations

-- the tracks are all that are free in the formula, and those that are weighed
pub record AreAllTracks (weigh : List Track) (f : Formula) (tracks : List Track) : Type 0 where
  pub free : (t : Track) → IsFree t.0 f → Contains tracks t
  pub weighed : (t : Track) → Contains weigh t → Contains tracks t

-- the formula of what is left has that number, and the buckets' numbers are those of formulas; by these the tracks were eliminated from the
-- formula
pub record IsNetworkOf (formulas : List Formula) (weigh : List Track) (f : Formula) (network : Network) : Type 0 where
  pub rest : Formula
  pub is_rest : slice_get formulas network.rest.0 ≡ Some rest
  pub buckets_there : All (λ one. IsThere formulas one.bucket) network.eliminations
  pub eliminated : (weighed : List ℕ) → AreOf weigh weighed → AreEliminated weighed (gone_at formulas network.eliminations) (f ∷ []) (rest ∷ [])
  pub all_tracks : AreAllTracks weigh f network.tracks
