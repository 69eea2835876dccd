-- Assignments with other values of made tracks, and what the first state sees on them.
use Rattle.std.proofs.Common.{◌≡◌, ℕ, IsTrue, List, sym, subst}
use Rattle.gta_theory.specs.Assignments.{PositionSet, Assignment}
use Rattle.store_core.specs.Tables.{TypeEntry, VarEntry}
use Rattle.store_core.specs.Stores.{StoreMap}
use Rattle.tree_encode.specs.Tracks.{track_count}
use Rattle.tree_store.proofs.TablesLemmas.{track-few}
use Rattle.graph_view.specs.After.{Standing}
use Rattle.graph_meaning.specs.Walks.Wells.{ShowsWell}
use Rattle.site_list.specs.States.{State}
use Rattle.triple_meaning.specs.Sites.Seeing.{IsOver, Sees}
use Rattle.triple_meaning.proofs.sites.LookingLemmas.{layout_of, shows_well}
use Rattle.triple_meaning.specs.Claims.Stating.{view_of}
use Rattle.triple_meaning.specs.Tracks.Defining.{IsWithOthers}

-- the tree is the same
pub over-others : (types : List TypeEntry) (vars : List VarEntry) (a b : Assignment) (s : StoreMap) (count : ℕ) → IsOver types vars a s →
    IsWithOthers (track_count types vars) count a b → IsOver types vars b s
over-others types vars a b s count over others = record {
  finite = others.finite;
  table = over.table;
  well = over.well;
  tree = record {
    tracks = λ what t p is.
        let same : b t.0 ≡ a t.0 = others.before t.0 (track-few types vars what t is) in
        let on = over.tree.tracks what t p is in (
          (λ h. on.0 (subst (λ (set : PositionSet). IsTrue (set p)) same h)),
          (λ h. subst (λ (set : PositionSet). IsTrue (set p)) (sym same) (on.1 h)),
        );
  };
}

-- what a state sees of the whole store, whatever track the view has for its next quantifier
pub wells : (types : List TypeEntry) (vars : List VarEntry) (next : ℕ) (a : Assignment) (first : StoreMap) (s : State) (t : StoreMap) (at : Standing) →
    Sees types vars next a first s t at → ShowsWell (layout_of types vars) (view_of types vars s) a first t t at next
wells types vars next a first s t at sees =
    let known = shows_well types vars next a first s t at sees in
    let shows = known.shows in
    record {
      table = known.table;
      well = known.well;
      shows = record {
        owners = shows.owners;
        fits = shows.fits;
        backbone = shows.backbone;
        assignment = shows.assignment;
        seen = shows.seen;
        read = shows.read;
        free = record { layout = shows.free.layout; vars = shows.free.vars; events = shows.free.events; region = shows.free.region };
      };
    }
