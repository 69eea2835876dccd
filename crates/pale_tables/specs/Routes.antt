-- Routes: what they may name, what they stand for, and their faults. (Klarlund and Schwartzbach, POPL 1993, "routing expressions".)
use Rattle.std.specs.Prelude.{ℕ, nat_le, Bool, ◌||◌, List, fold, Option, None, option_map, is_some, slice_get, unwrap_or}
use Rattle.std.specs.Option.{option_and_then}
use Rattle.pale_text.specs.declared.place.Pos.{Pos}
use Rattle.pale_text.specs.declared.refusal.RefusalKind.TheVariants as kind
use Rattle.pale_syntax.specs.declared.tree.names.Name.{Name}
use Rattle.pale_syntax.specs.declared.tree.route.Route.{Route}
use Rattle.pale_syntax.specs.declared.tree.route.Route.TheOpen.{Route-F}
use Rattle.pale_syntax.specs.declared.tree.route.Route.TheFolds.{fold-Route}
use Rattle.store_core.specs.declared.ids.TypeId.{TypeId}
use Rattle.store_core.specs.declared.ids.VariantId.{VariantId}
use Rattle.store_core.specs.declared.kind.Route as along
use Rattle.store_core.specs.declared.kind.Route.TheVariants as route
use Rattle.store_core.specs.Tables.{place_of}
use Rattle.pale_tables.specs.declared.type_names.TypeNames.{TypeNames}
use Rattle.pale_tables.specs.declared.type_names.Followed.{Followed}
use Rattle.pale_tables.specs.declared.type_names.Followed.TheVariants as followed
use Rattle.pale_tables.specs.declared.routes.Chain.{Chain}
use Rattle.pale_tables.specs.declared.routes.Chain.TheVariants as chain
use Rattle.pale_tables.specs.Faults.{Fault, need, ◌>>◌, first_of}
use Rattle.pale_tables.specs.Sizes.{route_size}

-- ---- names

abbrev pub is_among : List (List ℕ) → List ℕ → Bool
is_among names name = is_some (place_of name names)

-- the type of this name
abbrev pub type_named : TypeNames → List ℕ → Option TypeId
type_named names name = option_map (λ i. record { 0 = i }) (place_of name names.types)

-- the named variant of a type
abbrev pub variant_named : TypeNames → TypeId → List ℕ → Option VariantId
variant_named names ty name =
    option_map (λ i. record { ty = ty; index = i }) (option_and_then (place_of name) (slice_get names.variants ty.0))

-- an unknown type, which is refused, counts as the first, and an unknown variant as the first of its type
abbrev pub type_or_first : TypeNames → Name → TypeId
type_or_first names name = unwrap_or (type_named names name.bytes) (record { 0 = 0 })

abbrev pub variant_or_first : TypeNames → TypeId → Name → VariantId
variant_or_first names ty name = unwrap_or (variant_named names ty name.bytes) (record { ty = ty; index = 0 })

-- ---- what a route stands for

-- one after the other, or either
abbrev pub joined : Chain → along.Route → along.Route → along.Route
joined chain.Then first second = route.Then first second
joined chain.Or first second = route.Or first second

-- a chain groups to the left
abbrev pub chained : Chain → along.Route → List along.Route → along.Route
chained chain first others = fold (joined chain) first others

-- one star more for each
abbrev pub starred : along.Route → List Pos → along.Route
starred round stars = fold (λ before star. route.Star before) round stars

abbrev pub route_node : TypeNames → Route-F along.Route → along.Route
route_node names (Route-F.Down f) = route.Down f.bytes
route_node names (Route-F.Up f) = route.Up f.bytes
route_node names Route-F.UpAny = route.UpAny
route_node names Route-F.Root = route.Root
route_node names Route-F.Leaf = route.Leaf
route_node names (Route-F.IsType ty) = route.IsType (type_or_first names ty)
route_node names (Route-F.IsVariant ty v) = route.IsVariant (variant_or_first names (type_or_first names ty) v)
route_node names (Route-F.IsBool f truth) = route.IsBool f.bytes truth
route_node names (Route-F.Then first others) = chained chain.Then first others
route_node names (Route-F.Or first others) = chained chain.Or first others
route_node names (Route-F.Star round stars) = starred round stars

-- the route with its names looked up
unfoldable pub route_of : TypeNames → Route → along.Route
route_of names = fold-Route along.Route (route_node names)

-- ---- faults

-- some type has a field of this name, whatever it holds
abbrev pub is_field : TypeNames → List ℕ → Bool
is_field names name = is_among names.bool_fields name || (is_among names.data_fields name || is_among names.pointer_fields name)

-- a field that is followed: in a declared route data fields alone, in an assertion pointer fields too
abbrev pub is_followed : TypeNames → Followed → List ℕ → Bool
is_followed names followed.Data name = is_among names.data_fields name
is_followed names followed.DataAndPointers name = is_among names.data_fields name || is_among names.pointer_fields name

-- `f` and `^f`: some type has a field of the name, and one that is followed
unfoldable pub followed_fault : TypeNames → Followed → Name → Fault
followed_fault names follows f = need (is_field names f.bytes) kind.Unknown f.place >> need (is_followed names follows f.bytes) kind.Kind f.place

-- `?f` and `!f`: some type has a field of the name, and a bool one
unfoldable pub bool_fault : TypeNames → Name → Fault
bool_fault names f = need (is_field names f.bytes) kind.Unknown f.place >> need (is_among names.bool_fields f.bytes) kind.Kind f.place

-- `@T`: there is a type of the name
unfoldable pub type_fault : TypeNames → Name → Fault
type_fault names ty = need (is_some (type_named names ty.bytes)) kind.Unknown ty.place

-- `@T:v`: and the type has a variant of the name
unfoldable pub variant_fault : TypeNames → Name → Name → Fault
variant_fault names ty v =
    type_fault names ty >> need (is_some (variant_named names (type_or_first names ty) v.bytes)) kind.Unknown v.place

-- a form each; parts from the left
abbrev pub route_rules : TypeNames → Followed → Route-F Fault → Fault
route_rules names follows (Route-F.Down f) = followed_fault names follows f
route_rules names follows (Route-F.Up f) = followed_fault names follows f
route_rules names follows Route-F.UpAny = None
route_rules names follows Route-F.Root = None
route_rules names follows Route-F.Leaf = None
route_rules names follows (Route-F.IsType ty) = type_fault names ty
route_rules names follows (Route-F.IsVariant ty v) = variant_fault names ty v
route_rules names follows (Route-F.IsBool f truth) = bool_fault names f
route_rules names follows (Route-F.Then first others) = first >> first_of (λ next. next) others
route_rules names follows (Route-F.Or first others) = first >> first_of (λ next. next) others
route_rules names follows (Route-F.Star round stars) = round

-- the first fault of a route's names
unfoldable pub route_fault : TypeNames → Followed → Route → Fault
route_fault names follows = fold-Route Fault (route_rules names follows)

-- the first fault of a route whose `[` or `<` stands at this place: it has more than 1,024 nodes, whatever it names, or those of its
-- names
unfoldable pub whole_route_fault : TypeNames → Followed → Pos → Route → Fault
whole_route_fault names follows place r = need (nat_le (route_size r) 1024) kind.BigRoute place >> route_fault names follows r
