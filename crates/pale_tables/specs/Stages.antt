-- The stages in which a type table is made: names, variants, fields. A field may name a type or a variant that comes later.
use Rattle.std.specs.Prelude.{ℕ, Option, Some, None, []}
use Rattle.store_core.specs.declared.ids.TypeId.{TypeId}
use Rattle.store_core.specs.declared.kind.Owner.{Owner}
use Rattle.store_core.specs.declared.kind.Owner.TheVariants as owner
use Rattle.store_core.specs.Tables.{TypeEntry}

-- the type with its name alone
abbrev pub named : TypeEntry → TypeEntry
named t = record { name = t.name; variants = []; fields = [] }

-- the type without its fields
abbrev pub bare : TypeEntry → TypeEntry
bare t = record t { fields = [] }

-- the whole type, or the one variant of it
abbrev pub owner_in : TypeId → Option ℕ → Owner
owner_in ty None = owner.Common ty
owner_in ty (Some index) = owner.Variant (record { ty = ty; index = index })
