-- Which views fit a layout, and which tracks are free beside them.
use Rattle.std.specs.Prelude.{◌≡◌, ◌≤◌, ℕ, Bool, IsTrue, List, length, All, IsSome, IsSomeAnd}
use Rattle.store_core.specs.declared.ids.FieldId.{FieldId}
use Rattle.store_core.specs.declared.kind.FieldKind.{FieldKind}
use Rattle.store_core.specs.Tables.{TypeEntry, KnowsVariant, field_at}
use Rattle.tree_encode.specs.Layouts.{LaidOut}
use Rattle.tree_encode.specs.Tracks.{track_count}
use Rattle.graph_view.specs.declared.view.Event.{Event}
use Rattle.graph_view.specs.declared.view.Event.TheVariants.{New, Write, Free}
use Rattle.graph_view.specs.declared.view.View.{View}
use Rattle.graph_view.specs.After.{IsSymBelow, IsEventBelow, IsRegionBelow}

-- the field is the types', of a kind of which this is so
abbrev pub KnowsField : List TypeEntry → (FieldKind → Bool) → FieldId → Type 0
KnowsField types is f = IsSomeAnd (field_at types f) (λ entry. IsTrue (is entry.kind))

-- the variant or field of the event is the types'
abbrev pub EventFits : List TypeEntry → Event → Type 0
EventFits types (New g k v) = KnowsVariant types v
EventFits types (Write g u f x) = IsSome (field_at types f)
EventFits types (Free g u) = Unit {0}

-- the view has one value for each variable of the layout, and its events variants and fields of the types
pub record ViewFits (l : LaidOut) (view : View) : Type 0 where
  pub count : length view.vars ≡ length l.vars
  pub events : All (EventFits l.types) view.events

-- from this track on none is in use: by the layout, by values, by events or by the region
pub record AreFree (l : LaidOut) (view : View) (next : ℕ) : Type 0 where
  pub layout : track_count l.types l.vars ≤ next
  pub vars : All (IsSymBelow next) view.vars
  pub events : All (IsEventBelow next) view.events
  pub region : IsRegionBelow next view.region
