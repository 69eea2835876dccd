-- Where the cells of a store stand in its tree. (Klarlund and Schwartzbach 1993: a backbone as a tree.)
use Rattle.std.specs.Prelude.{◌≡◌, List, [], ◌∷◌, unwrap_or}
use Rattle.gta_theory.specs.Assignments.{Position}
use Rattle.ws2s_forms.specs.Places.{child_of, slot_of}
use Rattle.store_core.specs.declared.ids.FieldId.{FieldId}
use Rattle.store_core.specs.declared.ids.VarId.{VarId}
use Rattle.store_core.specs.declared.ids.CellId.{CellId}
use Rattle.store_core.specs.Tables.{TypeEntry, VarEntry}
use Rattle.store_core.specs.Stores.{StoreMap}
use Rattle.routing_walks.specs.Paths.{StandsAt}
use Rattle.tree_encode.specs.Tracks.{slot_of_var, child_number}

-- the position below u to which these data fields lead one after the other: each to the child with its number
abbrev pub below : List TypeEntry → Position → List FieldId → Position
below types u [] = u
below types u (f ∷ fields) = below types (child_of (unwrap_or (child_number types f) 0) u) fields

-- the position at the end of a path: the slot of its variable, and then its fields
abbrev pub path_position : List TypeEntry → List VarEntry → VarId → List FieldId → Position
path_position types vars v fields = below types (slot_of (unwrap_or (slot_of_var vars v) 0)) fields

-- the cell stands at the position, at the end of its path
pub record IsPlaced (types : List TypeEntry) (vars : List VarEntry) (s : StoreMap) (c : CellId) (p : Position) : Type 0 where
  pub var : VarId
  pub fields : List FieldId
  pub at : StandsAt types vars s var fields c
  pub position : p ≡ path_position types vars var fields

-- the cell stands at one position and at no other
pub record HasOnePosition (types : List TypeEntry) (vars : List VarEntry) (s : StoreMap) (c : CellId) : Type 0 where
  pub position : Position
  pub placed : IsPlaced types vars s c position
  pub only : (p : Position) → IsPlaced types vars s c p → p ≡ position
