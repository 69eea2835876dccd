-- The lines that are written of a store that isn't executed, and of an execution that fails. Each ends with LF.
use Rattle.std.specs.Prelude.{ℕ, List, [], ◌++◌, codes}
use Rattle.std.specs.Option.{option_map_or}
use Rattle.std.specs.Fmt.{decimal}
use Rattle.store_core.specs.declared.ids.VarId.{VarId}
use Rattle.store_core.specs.declared.ids.CellId.{CellId}
use Rattle.store_core.specs.declared.ids.FieldId.{FieldId}
use Rattle.store_core.specs.Tables.{TypeEntry, VarEntry, var_at}
use Rattle.routing_walks.specs.declared.fault.Place.{Place}
use Rattle.routing_walks.specs.declared.fault.Place.TheVariants as place
use Rattle.routing_walks.specs.declared.fault.WfFault.{WfFault}
use Rattle.routing_walks.specs.declared.fault.WfFault.TheVariants as fault
use Rattle.store_exec.specs.declared.cause.Cause.{Cause}
use Rattle.store_text.specs.declared.fault.StoreKind.{StoreKind}
use Rattle.store_text.specs.Faults.{word_of}
use Rattle.store_words.specs.Words.{word_of_cause, field_name}

-- ---- faults of a store

abbrev pub var_name : List VarEntry → VarId → List ℕ
var_name vars v = option_map_or (λ e. e.name) (var_at vars v) []

-- `cell N`
abbrev pub cell_text : CellId → List ℕ
cell_text c = codes "cell " ++ decimal c.0

-- `cell N F`
abbrev pub field_text : List TypeEntry → CellId → FieldId → List ℕ
field_text types c f = cell_text c ++ codes " " ++ field_name types f

-- `var X` or `cell N F`
abbrev pub place_text : List TypeEntry → List VarEntry → Place → List ℕ
place_text types vars (place.Var v) = codes "var " ++ var_name vars v
place_text types vars (place.Field c f) = field_text types c f

-- what is wrong with a store
abbrev pub fault_text : List TypeEntry → List VarEntry → WfFault → List ℕ
fault_text types vars (fault.Dangling p) = codes "dangling " ++ place_text types vars p
fault_text types vars (fault.Shared c) = codes "shared " ++ cell_text c
fault_text types vars (fault.Leak c) = codes "leak " ++ cell_text c
fault_text types vars (fault.Field c f) = codes "field " ++ field_text types c f

-- ---- lines

-- `store refused N KIND`
abbrev pub store_refused_line : ℕ → StoreKind → List ℕ
store_refused_line line kind = codes "store refused " ++ decimal line ++ codes " " ++ word_of kind ++ codes "\n"

-- `not-well-formed FAULT`
abbrev pub not_well_formed_line : List TypeEntry → List VarEntry → WfFault → List ℕ
not_well_formed_line types vars wrong = codes "not-well-formed " ++ fault_text types vars wrong ++ codes "\n"

-- `start condition false`
abbrev pub start_false_line : List ℕ
start_false_line = codes "start condition false\n"

-- `fail CAUSE line M`
abbrev pub fail_line : Cause → ℕ → List ℕ
fail_line why line = codes "fail " ++ word_of_cause why ++ codes " line " ++ decimal line ++ codes "\n"
