-- The lines that are written of a trace. Each ends with LF.
use Rattle.std.specs.Prelude.{ℕ, Bool, List, [], ◌∷◌, ◌++◌, codes, slice_get, if◌then◌else◌}
use Rattle.std.specs.Option.{option_map_or}
use Rattle.std.specs.List.{flat_map}
use Rattle.std.specs.Fmt.{decimal}
use Rattle.store_core.specs.declared.ids.VarId.{VarId}
use Rattle.store_core.specs.declared.ids.FieldId.{FieldId}
use Rattle.store_core.specs.Tables.{TypeEntry, VarEntry, var_at}
use Rattle.store_core.specs.Stores.{StoreMap}
use Rattle.store_logic.specs.declared.path.Path.{Path}
use Rattle.store_text.specs.StoreText.{value_text, variant_text, store_text_of}
use Rattle.store_words.specs.Words.{field_name}
use Rattle.pale_typed.specs.TypedPrograms.{TypedProgram}
use Rattle.store_trace.specs.declared.event.Event.{Event}
use Rattle.store_trace.specs.declared.event.Event.TheVariants as event
use Rattle.trace_text.specs.declared.nesting.Call.{Call}
use Rattle.trace_text.specs.declared.nesting.Nesting.{Nesting}
use Rattle.trace_text.specs.Nesting.{after}

-- ---- procedures

-- the variables of the procedure of this number, and its name; nothing of an unknown one
abbrev pub vars_of : TypedProgram → ℕ → List VarEntry
vars_of program number = option_map_or (λ e. e.vars) (slice_get program.procs number) []

abbrev pub name_of : TypedProgram → ℕ → List ℕ
name_of program number = option_map_or (λ e. e.proc.name) (slice_get program.procs number) []

-- ---- places

abbrev pub var_name : List VarEntry → VarId → List ℕ
var_name vars v = option_map_or (λ e. e.name) (var_at vars v) []

-- `.F` for each field
abbrev pub fields_text : List TypeEntry → List FieldId → List ℕ
fields_text types fields = flat_map (λ f. codes "." ++ field_name types f) fields

-- `x.F.G`
abbrev pub path_text : List TypeEntry → List VarEntry → Path → List ℕ
path_text types vars p = var_name vars p.var ++ fields_text types p.fields

-- ---- lines

-- `line L `, then this, and LF
abbrev pub line_with : ℕ → List ℕ → List ℕ
line_with line said = codes "line " ++ decimal line ++ codes " " ++ said ++ codes "\n"

abbrev pub truth_text : Bool → List ℕ
truth_text truth = if truth then codes "true" else codes "false"

-- `line L return PROC`, of the procedure that runs, at the line of the last call that waits
abbrev pub return_line : TypedProgram → ℕ → List Call → List ℕ
return_line program proc [] = []
return_line program proc (call ∷ calls) = line_with call.line (codes "return " ++ name_of program proc)

-- `line L PLACE = VALUE`, `line L new N T`, `line L free N`, `line L true`, `line L cut`, `line L call PROC` or `line L return PROC`
abbrev pub line_of : TypedProgram → Nesting → Event → List ℕ
line_of program n (event.Assign line p x) = line_with line (path_text program.types (vars_of program n.proc) p ++ codes " = " ++ value_text x)
line_of program n (event.New line c v) = line_with line (codes "new " ++ decimal c.0 ++ codes " " ++ variant_text program.types v)
line_of program n (event.Free line c) = line_with line (codes "free " ++ decimal c.0)
line_of program n (event.Truth line truth) = line_with line (truth_text truth)
line_of program n (event.Cut line) = line_with line (codes "cut")
line_of program n (event.Call line callee) = line_with line (codes "call " ++ name_of program callee)
line_of program n event.Return = return_line program n.proc n.calls

-- those of all events
abbrev pub lines_from : TypedProgram → Nesting → List Event → List ℕ
lines_from program n [] = []
lines_from program n (event ∷ events) = line_of program n event ++ lines_from program (after n event) events

-- those of a run that starts in this procedure
abbrev pub trace_lines : TypedProgram → ℕ → List Event → List ℕ
trace_lines program proc events = lines_from program (record { proc = proc; calls = [] }) events

-- ---- where a run stands

-- `at`, and the store text over the variables of this procedure
abbrev pub stand_text : TypedProgram → ℕ → StoreMap → List ℕ
stand_text program proc s = codes "at\n" ++ store_text_of program.types (vars_of program proc) s
