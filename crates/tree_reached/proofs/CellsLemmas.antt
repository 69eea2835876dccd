-- Before all events, and on all cells, live cells are those on the tracks.
use Rattle.std.proofs.Common.{◌≡◌, ℕ, Bool, List, [], Option, None, reverse, ap₂}
use Rattle.ws2s_core.specs.declared.track.Track.{Track}
use Rattle.store_core.specs.declared.ids.TypeId.{TypeId}
use Rattle.store_core.specs.declared.ids.FieldId.{FieldId}
use Rattle.store_core.specs.Tables.{TypeEntry, VarEntry}
use Rattle.tree_formula.specs.WellEncoded as encoded
use Rattle.graph_view.specs.declared.view.Event.{Event}
use Rattle.graph_view.specs.declared.view.View.{View}
use Rattle.graph_view.specs.Sights.{var_slots, sight_of}
use Rattle.graph_view.specs.Live as live

module _ (types : List TypeEntry) (vars : List VarEntry) (view : View) (none : view.events ≡ []) (all : view.region ≡ None) (next : ℕ) where
  pub lives_in-first : (ty : TypeId) (a : ℕ) → live.lives_in types (sight_of vars view) next ty a ≡ encoded.is_live next types ty a
  lives_in-first ty a =
      ap₂ (λ (events : List Event) (region : Option (Track × Bool)).
      live.lives_in types (record { slots = var_slots vars; events = reverse events; region = region }) next ty a) none all

  pub has-first : (f : FieldId) (a : ℕ) → live.has types (sight_of vars view) next f a ≡ encoded.has next types f a
  has-first f a =
      ap₂ (λ (events : List Event) (region : Option (Track × Bool)).
      live.has types (record { slots = var_slots vars; events = reverse events; region = region }) next f a) none all
