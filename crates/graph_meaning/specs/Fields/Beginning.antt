-- The view of a store before all events: what stands for its variables are their own tracks.
use Rattle.std.specs.Prelude.{ℕ, List, [], map, None}
use Rattle.store_core.specs.Tables.{TypeEntry, VarEntry}
use Rattle.tree_encode.specs.Tracks.{var_track}
use Rattle.tree_formula.specs.WellEncoded.{vars_in, track_or_first}
use Rattle.graph_view.specs.declared.view.Sym.{Sym}
use Rattle.graph_view.specs.declared.view.Sym.TheVariants.{At}
use Rattle.graph_view.specs.declared.view.View.{View}

-- the track of each variable, in order
abbrev pub own_tracks : List TypeEntry → List VarEntry → List Sym
own_tracks types vars = map (λ v. At (track_or_first (var_track types vars v))) (vars_in vars)

-- nothing has happened, all cells are read, and from this track on none is in use
abbrev pub first_view : List TypeEntry → List VarEntry → ℕ → View
first_view types vars next = record { vars = own_tracks types vars; events = []; region = None; next = next }
