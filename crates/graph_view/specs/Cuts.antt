-- What is wrong with a store at a cut after heap events, and where a cell has two destinations, as formulas. (Møller and
-- Schwartzbach, PLDI 2001.)
use Rattle.std.specs.Prelude.{ℕ, suc, List, [], ◌∷◌, ◌++◌, map, flat_map}
use Rattle.std.specs.Option.{option_map_or}
use Rattle.store_core.specs.declared.ids.TypeId.{TypeId}
use Rattle.store_core.specs.declared.ids.FieldId.{FieldId}
use Rattle.store_core.specs.declared.kind.FieldKind.{FieldKind}
use Rattle.store_core.specs.declared.kind.FieldKind.TheVariants as field
use Rattle.store_core.specs.declared.kind.Route.{Route}
use Rattle.store_core.specs.declared.kind.VarKind.{VarKind}
use Rattle.store_core.specs.declared.kind.VarKind.TheVariants as var
use Rattle.store_core.specs.Tables.{TypeEntry, VarEntry, field_at}
use Rattle.tree_encode.specs.Tracks.{track_count}
use Rattle.tree_formula.specs.WellEncoded.{types_in, well_encoded}
use Rattle.ws2s_core.specs.declared.formula.Formula.{Formula}
use Rattle.ws2s_core.specs.declared.formula.Formula.TheVariants.{Sub, And, Not, Ex2}
use Rattle.ws2s_forms.specs.Forms.{track, or_list, and_list, iff, ex1, equal, false_at}
use Rattle.graph_view.specs.declared.view.Sym.{Sym}
use Rattle.graph_view.specs.declared.view.Sym.TheVariants.{Null, At}
use Rattle.graph_view.specs.declared.view.CutCheck.{CutCheck}
use Rattle.graph_view.specs.declared.view.CutCheck.TheVariants as check
use Rattle.graph_view.specs.Syms.{is_in}
use Rattle.graph_view.specs.Sights.{Sight, var_slots, at_first}
use Rattle.graph_view.specs.Live.{lives_in, has, is_live, is_dead}
use Rattle.graph_view.specs.Fields.{fields_of_kind, fields_in_where, has_kind, is_data, is_reference}
use Rattle.graph_view.specs.Routes.{edge, names, names_by_data, destination, is_left}

-- ---- variables

-- the values of data and pointer variables, and of data variables alone
abbrev pub cell_value : VarKind → Sym → List Sym
cell_value (var.Data ty) u = u ∷ []
cell_value (var.Pointer ty) u = u ∷ []
cell_value _ u = []

abbrev pub data_value : VarKind → Sym → List Sym
data_value (var.Data ty) u = u ∷ []
data_value _ u = []

-- of all variables in order
abbrev pub values_by : (VarKind → Sym → List Sym) → List VarEntry → List Sym → List Sym
values_by value [] values = []
values_by value (v ∷ vars) [] = []
values_by value (v ∷ vars) (u ∷ values) = value v.kind u ++ values_by value vars values

-- each with each later one, in order
abbrev pub pairs : {X Y : Type 0} → (X → X → Y) → List X → List Y
pairs pair [] = []
pairs pair (x ∷ xs) = map (pair x) xs ++ pairs pair xs

-- ---- `dangling-ref`

-- the field of some live cell names a dead cell
abbrev pub field_dangles : List TypeEntry → Sight → ℕ → FieldId → Formula
field_dangles types sight next f =
    ex1 next (ex1 (suc next) (and_list (suc (suc next)) (lives_in types sight (suc (suc next)) f.ty next
    ∷ names types sight (suc (suc next)) f next (suc next) ∷ Not (is_live types sight (suc (suc next)) (suc next)) ∷ [])))

-- one of these values is a dead cell, or a field names one
abbrev pub dangles : List TypeEntry → Sight → List Sym → ℕ → Formula
dangles types sight cells next = or_list next (map (is_dead types sight next) cells ++ map (field_dangles types sight next) (fields_of_kind types is_reference))

-- ---- `shared`

-- both values are the cell on track c
abbrev pub both_name : ℕ → ℕ → Sym → Sym → Formula
both_name next c v w = And (is_in next c v) (is_in next c w)

-- some data field of a cell names c
abbrev pub is_below : List TypeEntry → Sight → ℕ → ℕ → Formula
is_below types sight next c = ex1 next (edge types sight (suc next) next c)

-- two cells name c
abbrev pub two_above : List TypeEntry → Sight → ℕ → ℕ → Formula
two_above types sight next c =
    ex1 next (ex1 (suc next) (and_list (suc (suc next)) (Not (equal next (suc next))
    ∷ edge types sight (suc (suc next)) next c ∷ edge types sight (suc (suc next)) (suc next) c ∷ [])))

-- two data fields of one cell name c
abbrev pub two_fields : List TypeEntry → Sight → ℕ → ℕ → FieldId → FieldId → Formula
two_fields types sight next c f g =
    ex1 next (and_list (suc next) (is_live types sight (suc next) next ∷ names_by_data types sight (suc next) f next c ∷ names_by_data types sight
    (suc next) g next c ∷ []))

-- those of one type
abbrev pub field_pairs : List TypeEntry → Sight → ℕ → ℕ → TypeId → List Formula
field_pairs types sight next c ty = pairs (two_fields types sight next c) (fields_in_where types (has_kind is_data) ty)

-- the cell on track c is named twice, by variables, by a variable and a cell, by two cells, or by two fields of one cell
abbrev pub named_twice : List TypeEntry → Sight → List Sym → ℕ → ℕ → List Formula
named_twice types sight values next c =
    pairs (both_name next c) values
    ++ And (or_list next (map (is_in next c) values)) (is_below types sight next c)
    ∷ two_above types sight next c
    ∷ flat_map (field_pairs types sight next c) (types_in types)

-- some live cell is named twice
abbrev pub shares : List TypeEntry → Sight → List Sym → ℕ → Formula
shares types sight values next = ex1 next (And (is_live types sight (suc next) next) (or_list (suc next) (named_twice types sight values (suc next) next)))

-- ---- `leak`

-- the set on track x has what the variable names, where it isn't null
abbrev pub has_value : ℕ → Sym → List Formula
has_value x Null = []
has_value x (At v) = Sub v (track x) ∷ []

-- the set has these values and all that data fields reach from it
abbrev pub closes : List TypeEntry → Sight → List Sym → ℕ → ℕ → Formula
closes types sight values next x = and_list next (flat_map (has_value x) values ++ Not (is_left (edge types sight) next x) ∷ [])

-- some live cell is outside such a set
abbrev pub leaks : List TypeEntry → Sight → List Sym → ℕ → Formula
leaks types sight values next =
    Ex2 (track next) (And (closes types sight values (suc next) next)
    (ex1 (suc next) (And (is_live types sight (suc (suc next)) (suc next)) (Not (Sub (track (suc next)) (track next))))))

-- ---- `field`

-- the pointer field of some cell names a cell that is no destination, or doesn't name one that is
abbrev pub is_wrong : List TypeEntry → Sight → ℕ → FieldId → TypeId → Route → Formula
is_wrong types sight next f target along =
    ex1 next (And (has types sight (suc next) f next)
    (ex1 (suc next) (Not (iff (names types sight (suc (suc next)) f next (suc next))
    (destination types sight (suc (suc next)) f target along next (suc next))))))

abbrev pub wrong_in : List TypeEntry → Sight → ℕ → FieldId → FieldKind → List Formula
wrong_in types sight next f field.Bool = []
wrong_in types sight next f (field.Data target) = []
wrong_in types sight next f (field.Pointer target along) = is_wrong types sight next f target along ∷ []

abbrev pub wrong_parts : List TypeEntry → Sight → ℕ → FieldId → List Formula
wrong_parts types sight next f = option_map_or (λ entry. wrong_in types sight next f entry.kind) (field_at types f) []

-- some pointer field is wrong
abbrev pub fields_are_wrong : List TypeEntry → Sight → ℕ → Formula
fields_are_wrong types sight next = or_list next (flat_map (wrong_parts types sight next) (fields_of_kind types is_reference))

-- ---- all four

abbrev pub cut_formula : List TypeEntry → Sight → List VarEntry → List Sym → CutCheck → ℕ → Formula
cut_formula types sight vars values check.DanglingRef next = dangles types sight (values_by cell_value vars values) next
cut_formula types sight vars values check.Shared next = shares types sight (values_by data_value vars values) next
cut_formula types sight vars values check.Leak next = leaks types sight (values_by data_value vars values) next
cut_formula types sight vars values check.Field next = fields_are_wrong types sight next

-- ---- two destinations

-- some cell has two destinations for the pointer field
abbrev pub forks : List TypeEntry → Sight → ℕ → FieldId → TypeId → Route → Formula
forks types sight next f target along =
    ex1 next (ex1 (suc next) (ex1 (suc (suc next)) (and_list (suc (suc (suc next)))
    (destination types sight (suc (suc (suc next))) f target along next (suc next)
    ∷ destination types sight (suc (suc (suc next))) f target along next (suc (suc next))
    ∷ Not (Sub (track (suc next)) (track (suc (suc next)))) ∷ []))))

abbrev pub forks_in : List TypeEntry → Sight → ℕ → FieldId → FieldKind → Formula
forks_in types sight next f field.Bool = false_at next
forks_in types sight next f (field.Data target) = false_at next
forks_in types sight next f (field.Pointer target along) = forks types sight next f target along

abbrev pub field_forks : List TypeEntry → Sight → ℕ → FieldId → Formula
field_forks types sight next f = option_map_or (λ entry. forks_in types sight next f entry.kind) (field_at types f) (false_at next)

-- the tree is that of a backbone, and some cell of it has two destinations
abbrev pub field_formula : List TypeEntry → List VarEntry → FieldId → Formula
field_formula types vars f =
    And (well_encoded (track_count types vars) types vars) (field_forks types (at_first (var_slots vars)) (track_count types vars) f)
