-- Reading of fields: where it can fail, and what stands for what is read.
use Rattle.std.specs.Prelude.{ℕ, suc, List, [], ◌∷◌}
use Rattle.std.specs.Option.{option_map_or}
use Rattle.store_core.specs.declared.ids.VariantId.{VariantId}
use Rattle.store_core.specs.declared.ids.FieldId.{FieldId}
use Rattle.store_core.specs.Tables.{TypeEntry, VarEntry}
use Rattle.store_logic.specs.declared.path.Path.{Path}
use Rattle.store_logic.specs.declared.path.Operand.{Operand}
use Rattle.store_logic.specs.declared.path.Operand.TheVariants as operand
use Rattle.store_exec.specs.declared.cause.Cause.TheVariants as cause
use Rattle.ws2s_core.specs.declared.formula.Formula.TheVariants.{Sub, And, Not}
use Rattle.ws2s_forms.specs.Forms.{track, and_list, iff, ex1, all1}
use Rattle.tree_formula.specs.WellEncoded.{owner}
use Rattle.graph_view.specs.declared.view.Sym.{Sym}
use Rattle.graph_view.specs.declared.view.Sym.TheVariants.{Null}
use Rattle.graph_view.specs.Syms.{is_in, is_null, truth}
use Rattle.graph_view.specs.Sights.{Sight}
use Rattle.graph_view.specs.Live.{has, is_live, is_dead, lives}
use Rattle.graph_view.specs.Fields.{is_true}
use Rattle.graph_view.specs.Routes.{names}
use Rattle.site_list.specs.States.{Text, State, Got, check, make, sight, value_of}

-- ---- conditions of places

-- a live cell of the value hasn't the field
abbrev pub lacks : List TypeEntry → Sight → FieldId → Sym → Text
lacks types sight f u next =
    ex1 next (and_list (suc next) (is_in (suc next) next u ∷ is_live types sight (suc next) next ∷ Not (has types sight (suc next) f next) ∷ []))

-- the value is null, or a dead cell
abbrev pub check_cell : List TypeEntry → List VarEntry → ℕ → Text → Sym → State → State
check_cell types vars line reached u s =
    check line reached cause.Dangling (λ next. is_dead types (sight vars s) next u)
    (check line reached cause.Null (λ next. is_null next u) s)

-- and for a field that isn't common, the cell hasn't it
abbrev pub check_access : List TypeEntry → List VarEntry → ℕ → Text → FieldId → Sym → State → State
check_access types vars line reached f u s =
    option_map_or (λ (v : VariantId). check line reached cause.Variant (lacks types (sight vars s) f u) (check_cell types vars line reached u s))
    (owner types f) (check_cell types vars line reached u s)

-- ---- what is read

-- the track has the cells that the field names at those of the value
abbrev pub is_read : List TypeEntry → Sight → FieldId → Sym → ℕ → Text
is_read types sight f u t next =
    all1 next (iff (Sub (track next) (track t))
    (ex1 (suc next) (And (is_in (suc (suc next)) (suc next) u) (names types sight (suc (suc next)) f (suc next) next))))

-- a cell field is read
abbrev pub read : List TypeEntry → List VarEntry → ℕ → Text → FieldId → Got → Got
read types vars line reached f got =
    make types vars (is_read types (sight vars (got.1)) f (got.0)) (check_access types vars line reached f (got.0) (got.1))

-- cell fields one after the other
abbrev pub read_along : List TypeEntry → List VarEntry → ℕ → Text → List FieldId → Got → Got
read_along types vars line reached [] got = got
read_along types vars line reached (f ∷ fields) got = read_along types vars line reached fields (read types vars line reached f got)

-- what stands at a path to a cell
abbrev pub path_value : List TypeEntry → List VarEntry → ℕ → Text → Path → State → Got
path_value types vars line reached p s = read_along types vars line reached p.fields (value_of s.values p.var, s)

abbrev pub operand_value : List TypeEntry → List VarEntry → ℕ → Text → Operand → State → Got
operand_value types vars line reached operand.Null s = (Null, s)
operand_value types vars line reached (operand.Path p) s = path_value types vars line reached p s

-- ---- truth values

-- a truth value as a formula, and how far the walk has come then
abbrev pub Told : Type 0
Told = Text × State

-- the bool field is true at a cell of the value
abbrev pub is_true_of : List TypeEntry → Sight → FieldId → Sym → Text
is_true_of types sight f u next = ex1 next (And (is_in (suc next) next u) (is_true types sight (suc next) f next))

-- a bool field is read, and cell fields before it
abbrev pub truth_along : List TypeEntry → List VarEntry → ℕ → Text → FieldId → List FieldId → Got → Told
truth_along types vars line reached f [] got =
    (is_true_of types (sight vars (got.1)) f (got.0), check_access types vars line reached f (got.0) (got.1))
truth_along types vars line reached f (g ∷ fields) got = truth_along types vars line reached g fields (read types vars line reached f got)

-- what stands at a path to a truth value: a variable, or a bool field
abbrev pub truth_at : List TypeEntry → List VarEntry → ℕ → Text → List FieldId → Got → Told
truth_at types vars line reached [] got = (λ next. truth next (got.0), got.1)
truth_at types vars line reached (f ∷ fields) got = truth_along types vars line reached f fields got

abbrev pub path_truth : List TypeEntry → List VarEntry → ℕ → Text → Path → State → Told
path_truth types vars line reached p s = truth_at types vars line reached p.fields (value_of s.values p.var, s)

-- the value is a cell of the variant
abbrev pub is_of_variant : List TypeEntry → Sight → VariantId → Sym → Text
is_of_variant types sight v u next = ex1 next (And (is_in (suc next) next u) (lives types sight (suc next) v next))
