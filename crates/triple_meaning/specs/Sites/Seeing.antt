-- What a state of the walk over code sees: a store that heap events lead to from the one of the tree that the formulas are read on.
-- (Møller and Schwartzbach, PLDI 2001.)
use Rattle.std.specs.Prelude.{ℕ, ◌+◌, ◌≤◌, List, ◌++◌, length, All}
use Rattle.gta_theory.specs.Assignments.{Assignment, IsFinite}
use Rattle.ws2s_core.specs.Satisfaction.{WSat}
use Rattle.store_core.specs.Tables.{TypeEntry, VarEntry, IsTypeTable}
use Rattle.store_core.specs.declared.ids.CellId.{CellId}
use Rattle.store_core.specs.Stores.{StoreMap, IsFresh}
use Rattle.routing_walks.specs.WellFormed.{IsWellFormed}
use Rattle.tree_encode.specs.Tracks.{track_count}
use Rattle.tree_store.specs.Encoding.{IsAssignmentOf}
use Rattle.ws2s_forms.specs.Places.{slot_of}
use Rattle.graph_view.specs.Sights.{var_slots}
use Rattle.graph_view.specs.After.{Standing, IsAt, IsSeen, IsGuard, IsSymBelow, IsGuardBelow, AreEventsBelow}
use Rattle.site_list.specs.States.{Text, Check, State}

-- the assignment is of finite sets, those of the tree of a well-formed store
pub record IsOver (types : List TypeEntry) (vars : List VarEntry) (a : Assignment) (first : StoreMap) : Type 0 where
  pub finite : IsFinite a
  pub table : IsTypeTable types
  pub well : IsWellFormed types vars first
  pub tree : IsAssignmentOf types vars first a

-- the tracks of the layout and those that were made have numbers below this one
abbrev pub HasRoom : List TypeEntry → List VarEntry → ℕ → State → Type 0
HasRoom types vars next s = track_count types vars + length s.defined ≤ next

-- and so have all tracks that the state uses
pub record IsBelow (types : List TypeEntry) (vars : List VarEntry) (s : State) (next : ℕ) : Type 0 where
  pub made : HasRoom types vars next s
  pub guard : IsGuardBelow next s.guard
  pub values : All (IsSymBelow next) s.values
  pub events : AreEventsBelow next s.events

-- the assignment has on each track that was made what defines it
abbrev pub AreDefined : ℕ → Assignment → State → Type 0
AreDefined next a s = All (λ (text : Text). WSat (text next) a) s.defined

-- no cell stands in the slots of cells that are still to be made
abbrev pub AreSpare : List VarEntry → State → Standing → Type 0
AreSpare vars s at = (k : ℕ) → s.news ≤ k → (c : CellId) → IsAt at c (slot_of (var_slots vars + k)) → ⊥

-- the state sees the store, whose cells stand there, from the tree of the first one; quantifiers bind tracks from `next` on
pub record Sees (types : List TypeEntry) (vars : List VarEntry) (next : ℕ) (a : Assignment) (first : StoreMap) (s : State) (t : StoreMap)
    (at : Standing) : Type 0 where
  pub over : IsOver types vars a first
  pub below : IsBelow types vars s next
  pub guarded : IsGuard a s.guard
  pub seen : IsSeen types vars s.values s.events a first t at
  pub fresh : IsFresh t
  pub spare : AreSpare vars s at

-- the state with these tracks made and these places passed since
abbrev pub with_more : List Text → List Check → State → State
with_more made added s = record s { defined = s.defined ++ made; checks = s.checks ++ added }
