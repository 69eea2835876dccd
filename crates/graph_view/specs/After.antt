-- What a view stands for: the store after the events that are taken, where its cells stand in the tree of the store before
-- them, and what its variables hold. (Klarlund and Schwartzbach 1993; Møller and Schwartzbach, PLDI 2001.) Events stand with
-- the last one first.
use Rattle.std.specs.Prelude.{◌≡◌, ◌↔◌, ℕ, ◌+◌, ◌<◌, Bool, true, false, IsTrue, List, [], ◌∷◌, length, slice_get, Contains, Option, Some, None, IsSome}
use Rattle.std.specs.Prelude.{IsSomeAnd, IfSome}
use Rattle.gta_theory.specs.Assignments.{Position, Assignment, IsOnly}
use Rattle.ws2s_core.specs.declared.track.Track.{Track}
use Rattle.ws2s_forms.specs.Places.{slot_of}
use Rattle.store_core.specs.declared.ids.CellId.{CellId}
use Rattle.store_core.specs.declared.ids.FieldId.{FieldId}
use Rattle.store_core.specs.declared.ids.VarId.{VarId}
use Rattle.store_core.specs.declared.ids.VariantId.{VariantId}
use Rattle.store_core.specs.declared.value.Value.{Value}
use Rattle.store_core.specs.declared.value.Value.TheVariants as value
use Rattle.store_core.specs.Tables.{TypeEntry, VarEntry, KnowsVariant, field_at}
use Rattle.store_core.specs.Stores.{StoreMap, IsLive, FieldFits, Fits, field_value, var_value, put_cell, set_field, remove_cell}
use Rattle.routing_walks.specs.Regions.{IsClosedUnderFields, IsRest, store_on}
use Rattle.tree_encode.specs.Positions.{IsPlaced}
use Rattle.graph_view.specs.declared.view.Sym.{Sym}
use Rattle.graph_view.specs.declared.view.Sym.TheVariants.{Null, At}
use Rattle.graph_view.specs.declared.view.Event.{Event}
use Rattle.graph_view.specs.declared.view.Event.TheVariants.{New, Write, Free}
use Rattle.graph_view.specs.Sights.{var_slots}

-- ---- where cells stand

-- cells, live or dead, with the positions where they stand
abbrev pub Standing : Type 0
Standing = List (CellId × Position)

abbrev pub IsAt : Standing → CellId → Position → Type 0
IsAt at c p = Contains at (c, p)

-- the list has the cells of the store, each at its position, and no other
abbrev pub AreStanding : List TypeEntry → List VarEntry → StoreMap → Standing → Type 0
AreStanding types vars s at = (c : CellId) (p : Position) → IsAt at c p ↔ IsPlaced types vars s c p

-- ---- values

-- what stands for it is null or this cell
abbrev pub StandsForCell : Assignment → Standing → Sym → Option CellId → Type 0
StandsForCell a at Null None = Unit {0}
StandsForCell a at Null (Some c) = ⊥
StandsForCell a at (At x) None = (p : Position) → a x.0 p ≡ false
StandsForCell a at (At x) (Some c) = (p : Position) × IsOnly (a x.0) p × IsAt at c p

-- the truth value: the root alone or nothing
abbrev pub StandsForTruth : Assignment → Sym → Bool → Type 0
StandsForTruth a Null truth = ⊥
StandsForTruth a (At x) true = IsOnly (a x.0) []
StandsForTruth a (At x) false = (p : Position) → a x.0 p ≡ false

-- the cells of a set
pub record StandsForCells (a : Assignment) (at : Standing) (x : Track) (cells : List CellId) : Type 0 where
  pub each : (p : Position) → IsTrue (a x.0 p) ↔ ((c : CellId) × Contains cells c × IsAt at c p)
  pub all : (c : CellId) → Contains cells c → (p : Position) × IsAt at c p

-- the value of a variable or a field
abbrev pub StandsFor : Assignment → Standing → Sym → Value → Type 0
StandsFor a at u (value.Bool truth) = StandsForTruth a u truth
StandsFor a at u (value.Cell c) = StandsForCell a at u c
StandsFor a at Null (value.Cells cells) = ⊥
StandsFor a at (At x) (value.Cells cells) = StandsForCells a at x cells

-- ---- events

-- the event is taken: it has no guard, or the root is on its guard's track
abbrev pub IsTaken : Assignment → Option Track → Type 0
IsTaken a None = Unit {0}
IsTaken a (Some h) = IsTrue (a h.0 [])

-- a guard is the root or nothing
abbrev pub IsGuard : Assignment → Option Track → Type 0
IsGuard a None = Unit {0}
IsGuard a (Some h) = (p : Position) → IsTrue (a h.0 p) → p ≡ []

abbrev pub guard_of : Event → Option Track
guard_of (New g k v) = g
guard_of (Write g u f x) = g
guard_of (Free g u) = g

-- a store, and where its cells stand and stood
pub record Stood : Type 0 where
  pub store : StoreMap
  pub at : Standing

abbrev pub new_cell : StoreMap → CellId
new_cell s = record { 0 = s.next }

-- a new cell stands in its slot, which no cell had; so many slots of data variables stand first
pub record Makes (types : List TypeEntry) (slots : ℕ) (k : ℕ) (v : VariantId) (before after : Stood) : Type 0 where
  pub known : KnowsVariant types v
  pub empty : (c : CellId) → IsAt before.at c (slot_of (slots + k)) → ⊥
  pub store : after.store ≡ put_cell before.store types v
  pub at : after.at ≡ (new_cell before.store, slot_of (slots + k)) ∷ before.at

-- the value of a field that a live cell has is another, which fits the field
pub record Writes (types : List TypeEntry) (a : Assignment) (u : Sym) (f : FieldId) (x : Sym) (before after : Stood) : Type 0 where
  pub cell : CellId
  pub names : StandsForCell a before.at u (Some cell)
  pub has : IsSome (field_value before.store cell f)
  pub value : Value
  pub fits : IsSomeAnd (field_at types f) (λ entry. FieldFits before.store entry.kind value)
  pub stands : StandsFor a before.at x value
  pub store : after.store ≡ set_field before.store cell f value
  pub at : after.at ≡ before.at

-- a live cell is dead, and stands where it stood
pub record Frees (a : Assignment) (u : Sym) (before after : Stood) : Type 0 where
  pub cell : CellId
  pub names : StandsForCell a before.at u (Some cell)
  pub live : IsLive before.store cell
  pub store : after.store ≡ remove_cell before.store cell
  pub at : after.at ≡ before.at

-- what an event that is taken makes of a store
abbrev pub Leads : List TypeEntry → ℕ → Assignment → Event → Stood → Stood → Type 0
Leads types slots a (New g k v) before after = Makes types slots k v before after
Leads types slots a (Write g u f x) before after = Writes types a u f x before after
Leads types slots a (Free g u) before after = Frees a u before after

-- an event that is taken leads from the one to the other; one that isn't is bound by nothing but its guard, and changes nothing
pub record Happens (types : List TypeEntry) (slots : ℕ) (a : Assignment) (e : Event) (before after : Stood) : Type 0 where
  pub guard : IsGuard a (guard_of e)
  pub taken : IsTaken a (guard_of e) → Leads types slots a e before after
  pub passed : (IsTaken a (guard_of e) → ⊥) → after ≡ before

-- the events lead from the first to this one, in their order
abbrev pub LeadTo : List TypeEntry → ℕ → Assignment → Stood → List Event → Stood → Type 0
LeadTo types slots a first [] x = x ≡ first
LeadTo types slots a first (e ∷ earlier) x = (before : Stood) × LeadTo types slots a first earlier before × Happens types slots a e before x

-- ---- views

-- the store seen by the view from the tree of the first one: it has the cells to which the events lead, where they stand, it
-- fits its tables, and its variables hold what the symbols stand for
pub record IsSeen (types : List TypeEntry) (vars : List VarEntry) (syms : List Sym) (events : List Event) (a : Assignment)
    (first s : StoreMap) (at : Standing) : Type 0 where
  pub start : Standing
  pub stand : AreStanding types vars first start
  pub ends : StoreMap
  pub lead : LeadTo types (var_slots vars) a (record { store = first; at = start }) events (record { store = ends; at = at })
  pub cells : s.cells ≡ ends.cells
  pub next : s.next ≡ ends.next
  pub fits : Fits types vars s
  pub count : length s.vars ≡ length syms
  pub values : (v : VarId) → IfSome (slice_get syms v.0) (λ u. IfSome (var_value s v) (StandsFor a at u))

-- the track has the cells of the region: these live cells, where they stand, a set that is closed under data fields
pub record IsRegion (types : List TypeEntry) (a : Assignment) (at : Standing) (x : Track) (s : StoreMap) (cells : List CellId) : Type 0 where
  pub live : (c : CellId) → Contains cells c → IsLive s c
  pub each : (p : Position) → IsTrue (a x.0 p) ↔ ((c : CellId) × Contains cells c × IsAt at c p)
  pub closed : IsClosedUnderFields types s cells

-- what is read of the store: all of it, or the cells of the region alone, or the rest of them
abbrev pub IsRead : List TypeEntry → Assignment → Standing → Option (Track × Bool) → StoreMap → StoreMap → Type 0
IsRead types a at None s t = t ≡ s
IsRead types a at (Some (x, true)) s t = (cells : List CellId) × IsRegion types a at x s cells × (t ≡ store_on s cells)
IsRead types a at (Some (x, false)) s t =
    (cells : List CellId) × (rest : List CellId) × IsRegion types a at x s cells × IsRest s cells rest × (t ≡ store_on s rest)

-- ---- tracks in use

abbrev pub IsSymBelow : ℕ → Sym → Type 0
IsSymBelow n Null = Unit {0}
IsSymBelow n (At x) = x.0 < n

abbrev pub IsGuardBelow : ℕ → Option Track → Type 0
IsGuardBelow n None = Unit {0}
IsGuardBelow n (Some h) = h.0 < n

abbrev pub IsEventBelow : ℕ → Event → Type 0
IsEventBelow n (New g k v) = IsGuardBelow n g
IsEventBelow n (Write g u f x) = IsGuardBelow n g × IsSymBelow n u × IsSymBelow n x
IsEventBelow n (Free g u) = IsGuardBelow n g × IsSymBelow n u

-- the tracks of the events have numbers below this one
abbrev pub AreEventsBelow : ℕ → List Event → Type 0
AreEventsBelow n [] = Unit {0}
AreEventsBelow n (e ∷ earlier) = IsEventBelow n e × AreEventsBelow n earlier

abbrev pub IsRegionBelow : ℕ → Option (Track × Bool) → Type 0
IsRegionBelow n None = Unit {0}
IsRegionBelow n (Some (x, here)) = x.0 < n
