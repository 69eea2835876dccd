-- What a call hands over, and what stands after it. (Møller and Schwartzbach, PLDI 2001: procedure calls.)
use Rattle.std.specs.Prelude.{◌==◌, not, List, ◌++◌, length, map, if◌then◌else◌}
use Rattle.std.specs.Option.{option_map_or}
use Rattle.std.specs.List.{find, zip, range_with_len}
use Rattle.std.specs.FinMap.{entries, from_entries, retain_keys}
use Rattle.store_core.specs.declared.ids.VarId.{VarId}
use Rattle.store_core.specs.declared.ids.CellId.{CellId}
use Rattle.store_core.specs.declared.value.Value.{Value}
use Rattle.store_core.specs.declared.value.Value.TheVariants as value
use Rattle.store_core.specs.Tables.{VarEntry, var_at}
use Rattle.store_core.specs.Stores.{StoreMap, var_class, blank}
use Rattle.routing_walks.specs.Regions.{has_number}
use Rattle.routing_walks.specs.Pieces.{value_on}
use Rattle.store_logic.specs.Terms.{null}
use Rattle.store_exec.specs.Steps.{variable}
use Rattle.store_exec.specs.Restricted.{restricted}
use Rattle.pale_calls.specs.declared.actual.Actual.{Actual}
use Rattle.pale_calls.specs.declared.actual.Actual.TheVariants as actual
use Rattle.pale_typed.specs.declared.typed.CallParts.{CallParts}
use Rattle.pale_typed.specs.declared.typed.ProcEntry.{ProcEntry}
use Rattle.hoare_split.specs.Picking.{class_at, numbered, is_spent}

-- ---- before the callee runs

-- what is handed over, on these cells: a logic set is restricted to them
abbrev pub handed_value : StoreMap → List CellId → Actual → Value
handed_value s cells (actual.Var v) = value_on cells (variable s v)
handed_value s cells actual.Null = null
handed_value s cells (actual.Truth truth) = value.Bool truth

-- false or null, as what the variable holds
abbrev pub blank_at : List VarEntry → VarId → Value
blank_at vars v = option_map_or (λ entry. blank (var_class entry.kind)) (var_at vars v) null

-- the callee's variables, in their order: arguments, results and locals null or false, and logic arguments
abbrev pub handed_vars : ProcEntry → CallParts → StoreMap → List CellId → List Value
handed_vars callee call s cells =
    map (handed_value s cells) call.args ++ map (blank_at callee.vars) callee.proc.results ++ map (blank_at callee.vars) callee.proc.locals
    ++ map (handed_value s cells) call.logics

-- the store that is handed to the callee: these cells alone, with the caller's next number
abbrev pub handed_store : ProcEntry → CallParts → StoreMap → List CellId → StoreMap
handed_store callee call s cells =
    record { cells = retain_keys s.cells (has_number cells); vars = handed_vars callee call s cells; next = s.next }

-- what stays behind: the store without these cells
abbrev pub rest_store : StoreMap → List CellId → StoreMap
rest_store s cells = record s { cells = retain_keys s.cells (λ number. not (has_number cells number)) }

-- ---- after the callee's exit

-- a variable of the caller: a result is assigned, a data or pointer argument that is no result is null, and any other stays
abbrev pub value_after : List VarEntry → CallParts → List VarId → StoreMap → StoreMap → VarId → Value
value_after vars call results rest t v =
    option_map_or (λ pair. variable t pair.1) (find (λ pair. pair.0.0 == v.0) (zip call.results results))
    (if is_spent call (class_at vars v) v then null else variable rest v)

-- the callee's cells stand beside the rest, with the callee's next number
abbrev pub beside_rest : List VarEntry → CallParts → List VarId → StoreMap → StoreMap → StoreMap
beside_rest vars call results rest t = record {
  cells = from_entries (entries t.cells ++ entries rest.cells);
  vars = map (value_after vars call results rest t) (numbered (range_with_len 0 (length vars)));
  next = t.next;
}

-- the caller's store after the callee exited with the store t: its logic sets are restricted to the live cells
abbrev pub returned_store : List VarEntry → CallParts → List VarId → StoreMap → StoreMap → StoreMap
returned_store vars call results rest t = restricted (beside_rest vars call results rest t)
