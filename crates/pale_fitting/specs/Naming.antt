-- When the names that routes use are those of a type table.
use Rattle.std.specs.Prelude.{ℕ, IsTrue, List, IfSome}
use Rattle.store_core.specs.declared.ids.TypeId.{TypeId}
use Rattle.store_core.specs.Tables.{TypeEntry, KnowsType, KnowsVariant}
use Rattle.routing_walks.specs.Walks.{DataAndPointers, IsFollowed}
use Rattle.store_logic.specs.Fits.{HasFieldNamed, IsBoolField}
use Rattle.pale_tables.specs.declared.type_names.TypeNames.{TypeNames}
use Rattle.pale_tables.specs.declared.type_names.Followed.TheVariants as followed
use Rattle.pale_tables.specs.Routes.{type_named, variant_named, is_among, is_followed}

-- a named type or variant is there, and some type has a field of each name that is followed or tested
pub record AreNamesOf (types : List TypeEntry) (names : TypeNames) : Type 0 where
  pub type : (name : List ℕ) → IfSome (type_named names name) (KnowsType types)
  pub variant : (ty : TypeId) (name : List ℕ) → IfSome (variant_named names ty name) (KnowsVariant types)
  pub followed : (name : List ℕ) → IsTrue (is_followed names followed.DataAndPointers name) → HasFieldNamed types (IsFollowed DataAndPointers) name
  pub bool : (name : List ℕ) → IsTrue (is_among names.bool_fields name) → HasFieldNamed types IsBoolField name
