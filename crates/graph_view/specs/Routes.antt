-- Walks of routes after heap events, as formulas, and what cell fields name. (Klarlund and Schwartzbach 1993: routing
-- expressions as formulas, and a pointer field is where its route leads.)
use Rattle.std.specs.Prelude.{ℕ, suc, Bool, true, false, List, [], ◌∷◌, map}
use Rattle.std.specs.Option.{option_map_or}
use Rattle.store_core.specs.declared.ids.TypeId.{TypeId}
use Rattle.store_core.specs.declared.ids.FieldId.{FieldId}
use Rattle.store_core.specs.declared.kind.FieldKind.{FieldKind}
use Rattle.store_core.specs.declared.kind.FieldKind.TheVariants as field
use Rattle.store_core.specs.declared.kind.Route.{Route}
use Rattle.store_core.specs.declared.kind.Route.TheOpen.{Route-F}
use Rattle.store_core.specs.declared.kind.Route.TheFolds.{fold-Route}
use Rattle.store_core.specs.Tables.{TypeEntry, field_at}
use Rattle.ws2s_core.specs.declared.formula.Formula.{Formula}
use Rattle.ws2s_core.specs.declared.formula.Formula.TheVariants.{Sub, And, Not}
use Rattle.ws2s_forms.specs.Forms.{track, or, or_list, and_list, imp, ex1, all2, equal, false_at}
use Rattle.graph_view.specs.Syms.{is_in}
use Rattle.graph_view.specs.Sights.{Sight, at_first}
use Rattle.graph_view.specs.Live.{lives, lives_in, has, is_live}
use Rattle.graph_view.specs.Fields.{after, is_true, data_names, fields_named, fields_of_kind, is_data, is_bool, is_reference}

-- what a field of the cell on one track names on the other: next, field, from, to
abbrev pub Naming : Type 0
Naming = ℕ → FieldId → ℕ → ℕ → Formula

-- a relation of two tracks: next, from, to
abbrev pub Joining : Type 0
Joining = ℕ → ℕ → ℕ → Formula

-- ---- data fields

abbrev pub data_names_in : List TypeEntry → Sight → ℕ → FieldId → ℕ → ℕ → FieldKind → Formula
data_names_in types sight next f a b field.Bool = false_at next
data_names_in types sight next f a b (field.Data target) = data_names types sight next f target a b
data_names_in types sight next f a b (field.Pointer target along) = false_at next

-- the data field of the cell on track a names the cell on track b
abbrev pub names_by_data : List TypeEntry → Sight → Naming
names_by_data types sight next f a b = option_map_or (λ entry. data_names_in types sight next f a b entry.kind) (field_at types f) (false_at next)

-- some data field of a names b
abbrev pub edge : List TypeEntry → Sight → Joining
edge types sight next a b =
    and_list next (is_live types sight next a ∷ is_live types sight next b
    ∷ or_list next (map (λ f. names_by_data types sight next f a b) (fields_of_kind types is_data)) ∷ [])

-- ---- a form of route each

-- some field of the name, of a kind that is followed
abbrev pub down : List TypeEntry → Sight → Naming → (FieldKind → Bool) → List ℕ → Joining
down types sight names followed name next a b =
    and_list next (is_live types sight next a ∷ is_live types sight next b
    ∷ or_list next (map (λ f. names next f a b) (fields_named types name followed)) ∷ [])

-- a cell to itself, to which no data field leads
abbrev pub stays_at_root : List TypeEntry → Sight → Joining
stays_at_root types sight next a b = and_list next (is_live types sight next a ∷ equal a b ∷ Not (ex1 next (edge types sight (suc next) next a)) ∷ [])

-- a cell to itself, whose data fields lead nowhere
abbrev pub stays_at_leaf : List TypeEntry → Sight → Joining
stays_at_leaf types sight next a b = and_list next (is_live types sight next a ∷ equal a b ∷ Not (ex1 next (edge types sight (suc next) a next)) ∷ [])

-- the bool field of the cell has the truth value
abbrev pub has_truth : List TypeEntry → Sight → Bool → ℕ → ℕ → FieldId → Formula
has_truth types sight true next a f = And (has types sight next f a) (is_true types sight next f a)
has_truth types sight false next a f = And (has types sight next f a) (Not (is_true types sight next f a))

-- a cell to itself, of which a bool field of the name has the truth value
abbrev pub stays_at_truth : List TypeEntry → Sight → List ℕ → Bool → Joining
stays_at_truth types sight name value next a b =
    And (equal a b) (or_list next (map (has_truth types sight value next a) (fields_named types name is_bool)))

-- the set on track x, from a cell of which the relation leads to one that isn't in it
abbrev pub is_left : Joining → ℕ → ℕ → Formula
is_left joins next x =
    ex1 next (ex1 (suc next) (and_list (suc (suc next)) (Sub (track next) (track x) ∷ joins (suc (suc next)) next (suc next)
    ∷ Not (Sub (track (suc next)) (track x)) ∷ [])))

-- b is in each set that has a and that the relation doesn't leave
abbrev pub star : List TypeEntry → Sight → Joining → Joining
star types sight joins next a b =
    and_list next (is_live types sight next a ∷ is_live types sight next b
    ∷ all2 next (imp (And (Sub (track a) (track next)) (Not (is_left joins (suc next) next))) (Sub (track b) (track next))) ∷ [])

abbrev pub walk_rules : List TypeEntry → Sight → Naming → (FieldKind → Bool) → Route-F Joining → Joining
walk_rules types sight names followed (Route-F.Down name) next a b = down types sight names followed name next a b
walk_rules types sight names followed (Route-F.Up name) next a b = down types sight names followed name next b a
walk_rules types sight names followed Route-F.UpAny next a b = edge types sight next b a
walk_rules types sight names followed Route-F.Root next a b = stays_at_root types sight next a b
walk_rules types sight names followed Route-F.Leaf next a b = stays_at_leaf types sight next a b
walk_rules types sight names followed (Route-F.IsType ty) next a b = And (lives_in types sight next ty a) (equal a b)
walk_rules types sight names followed (Route-F.IsVariant v) next a b = And (lives types sight next v a) (equal a b)
walk_rules types sight names followed (Route-F.IsBool name value) next a b = stays_at_truth types sight name value next a b
walk_rules types sight names followed (Route-F.Then first second) next a b = ex1 next (And (first (suc next) a next) (second (suc next) next b))
walk_rules types sight names followed (Route-F.Or one other) next a b = or (one next a b) (other next a b)
walk_rules types sight names followed (Route-F.Star round) next a b = star types sight round next a b

-- the route leads from a to b, over the fields that are followed
abbrev pub walk_by : List TypeEntry → Sight → Naming → (FieldKind → Bool) → Route → Joining
walk_by types sight names followed = fold-Route Joining (walk_rules types sight names followed)

-- ---- all cell fields

-- a walk over data fields
abbrev pub data_walk : List TypeEntry → Sight → Route → Joining
data_walk types sight along = walk_by types sight (names_by_data types sight) is_data along

-- b is a destination of a for the pointer field
abbrev pub destination : List TypeEntry → Sight → ℕ → FieldId → TypeId → Route → ℕ → ℕ → Formula
destination types sight next f target along a b =
    and_list next (has types sight next f a ∷ data_walk types sight along next a b ∷ lives_in types sight next target b ∷ [])

-- before all events a pointer field names its destinations
abbrev pub names_in : List TypeEntry → Sight → ℕ → FieldId → ℕ → ℕ → FieldKind → Formula
names_in types sight next f a b field.Bool = false_at next
names_in types sight next f a b (field.Data target) = data_names types sight next f target a b
names_in types sight next f a b (field.Pointer target along) =
    after next f a (is_in next b) (destination types (at_first sight.slots) next f target along a b) sight.events

-- the field of the cell on track a names the cell on track b
abbrev pub names : List TypeEntry → Sight → Naming
names types sight next f a b = option_map_or (λ entry. names_in types sight next f a b entry.kind) (field_at types f) (false_at next)

-- a walk over data and pointer fields
abbrev pub walk : List TypeEntry → Sight → Route → Joining
walk types sight along = walk_by types sight (names types sight) is_reference along

-- the same, or over data fields alone
abbrev pub walk_over : List TypeEntry → Sight → Bool → Route → Joining
walk_over types sight true along = walk types sight along
walk_over types sight false along = data_walk types sight along
