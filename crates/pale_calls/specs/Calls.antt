-- Calls but for their `keep`: what they are typed as, and their faults, in order: results, the procedure, arguments, logic
-- arguments. (Møller and Schwartzbach, PLDI 2001: procedure calls.)
use Rattle.std.specs.Prelude.{ℕ, ◌==◌, ◌&&◌, Bool, true, false, not, List, [], ◌∷◌, ◌++◌, length, map, flat_map, fold, slice_get}
use Rattle.std.specs.Prelude.{Option, None, Some, option_map, is_some, unwrap_or, if◌then◌else◌}
use Rattle.std.specs.Option.{option_map_or, option_and_then}
use Rattle.pale_text.specs.declared.refusal.RefusalKind.TheVariants as kind
use Rattle.pale_syntax.specs.declared.tree.names.Name.{Name}
use Rattle.pale_syntax.specs.declared.tree.statement.Call.{Call}
use Rattle.pale_syntax.specs.declared.tree.statement.Argument.{Argument}
use Rattle.pale_syntax.specs.declared.tree.statement.Argument.TheVariants as argument
use Rattle.store_core.specs.declared.ids.VarId.{VarId}
use Rattle.store_core.specs.declared.kind.VarKind.{VarKind}
use Rattle.store_core.specs.declared.kind.VarKind.TheVariants as var
use Rattle.store_core.specs.Tables.{VarEntry, var_at, var_named}
use Rattle.pale_tables.specs.Faults.{Fault, need, ◌>>◌}
use Rattle.pale_tables.specs.Names.{is_new, with_name}
use Rattle.pale_terms.specs.Visibles.{Entry}
use Rattle.pale_terms.specs.Scopes.{allowed}
use Rattle.pale_calls.specs.declared.class.VarClass.{VarClass}
use Rattle.pale_calls.specs.declared.signature.Formal.{Formal}
use Rattle.pale_calls.specs.declared.signature.Signature.{Signature}
use Rattle.pale_calls.specs.declared.actual.Actual.{Actual}
use Rattle.pale_calls.specs.declared.actual.Actual.TheVariants as actual
use Rattle.pale_calls.specs.declared.calls.CallHead.{CallHead}
use Rattle.pale_calls.specs.Classes.{class_of, type_in, is_same_class, holds_cell, holds_truth, is_logic}
use Rattle.pale_calls.specs.Signatures.{Named, number_of}

-- ---- variables of the caller; one that isn't there, which is refused, counts as the first, and as a truth value

abbrev pub kind_named : List VarEntry → List ℕ → Option VarKind
kind_named vars name = option_and_then (λ v. option_map (λ e. e.kind) (var_at vars v)) (var_named vars name)

unfoldable pub kind_of : List VarEntry → Name → VarKind
kind_of vars x = unwrap_or (kind_named vars x.bytes) var.Bool

unfoldable pub variable_of : List VarEntry → Name → VarId
variable_of vars x = unwrap_or (var_named vars x.bytes) (record { 0 = 0 })

unfoldable pub variable_fault : List VarEntry → Name → Fault
variable_fault vars x = need (is_some (kind_named vars x.bytes)) kind.Unknown x.place

-- ---- a variable beside what is declared

abbrev pub is_of_class : Formal → VarKind → Bool
is_of_class formal k = is_same_class (class_of k) formal.class

-- both have cells of one type, or the variable is a truth value; a type that isn't there differs from every type
abbrev pub is_of_type : Formal → VarKind → Bool
is_of_type formal k = option_map_or (λ ty. option_map_or (λ u. ty.0 == u.0) formal.ty false) (type_in k) true

-- a variable of the class, and then of the type
unfoldable pub beside_fault : List VarEntry → Formal → Name → Fault
beside_fault vars formal x =
    variable_fault vars x
    >> need (is_of_class formal (kind_of vars x)) kind.Kind x.place >> need (is_of_type formal (kind_of vars x)) kind.Type x.place

-- ---- results

-- where the procedure is unknown, no logic variable
unfoldable pub stray_fault : List VarEntry → Name → Fault
stray_fault vars x = variable_fault vars x >> need (not (is_logic (class_of (kind_of vars x)))) kind.Kind x.place

-- the result in this place, counted from 0: beside that of the procedure, where it has so many
abbrev pub result_fault : List VarEntry → Option Signature → ℕ → Name → Fault
result_fault vars None place x = stray_fault vars x
result_fault vars (Some callee) place x = option_map_or (λ formal. beside_fault vars formal x) (slice_get callee.results place) (variable_fault vars x)

-- results after those with these names, in order: each as its place needs, and then no variable twice
abbrev pub results_fault : List VarEntry → Option Signature → List (List ℕ) → List Name → Fault
results_fault vars callee before [] = None
results_fault vars callee before (x ∷ xs) =
    result_fault vars callee (length before) x
    >> need (is_new before x.bytes) kind.Duplicate x.place >> results_fault vars callee (before ++ x.bytes ∷ []) xs

-- ---- arguments

-- a data or pointer variable is handed over once
unfoldable pub may_be_handed : VarClass → Bool → Bool
may_be_handed of is_new = if holds_cell of then is_new else true

-- a variable after those with these names
unfoldable pub named_argument_fault : List VarEntry → List (List ℕ) → Formal → Name → Fault
named_argument_fault vars before formal x =
    beside_fault vars formal x >> need (may_be_handed formal.class (is_new before x.bytes)) kind.Duplicate x.place

-- after those with these names: `null` stands for a cell, `true` and `false` for a truth value
abbrev pub argument_fault : List VarEntry → List (List ℕ) → Formal → Argument → Fault
argument_fault vars before formal (argument.Name x) = named_argument_fault vars before formal x
argument_fault vars before formal (argument.Null place) = need (holds_cell formal.class) kind.Kind place
argument_fault vars before formal (argument.Truth place truth) = need (holds_truth formal.class) kind.Kind place

abbrev pub with_argument : List (List ℕ) → Argument → List (List ℕ)
with_argument before (argument.Name x) = with_name before x.bytes
with_argument before (argument.Null place) = before
with_argument before (argument.Truth place truth) = before

-- one argument for each that is declared, in order
abbrev pub arguments_fault : List VarEntry → List (List ℕ) → List Formal → List Argument → Fault
arguments_fault vars before [] arguments = None
arguments_fault vars before (formal ∷ formals) [] = None
arguments_fault vars before (formal ∷ formals) (x ∷ arguments) =
    argument_fault vars before formal x >> arguments_fault vars (with_argument before x) formals arguments

abbrev pub actual_of : List VarEntry → Argument → Actual
actual_of vars (argument.Name x) = actual.Var (variable_of vars x)
actual_of vars (argument.Null place) = actual.Null
actual_of vars (argument.Truth place truth) = actual.Truth truth

-- ---- calls

-- the procedure that is called, where it is there
abbrev pub callee_named : List Named → List ℕ → Option Signature
callee_named procedures name = option_and_then (λ n. option_map (λ p. p.signature) (slice_get procedures n)) (number_of procedures name)

-- as many results, arguments and logic arguments as are declared
abbrev pub has_counts : Signature → Call → Bool
has_counts callee call =
    length call.results == length callee.results
    && (length call.arguments == length callee.params && length call.logics == length callee.logics)

-- the counts, the arguments, and then the logic arguments
unfoldable pub handed_fault : List VarEntry → Signature → Call → Fault
handed_fault vars callee call =
    need (has_counts callee call) kind.Arity call.callee.place
    >> arguments_fault vars [] callee.params call.arguments >> arguments_fault vars [] callee.logics call.logics

-- the results, the name, and then what is handed to the procedure
unfoldable pub call_fault : List Named → List VarEntry → Call → Fault
call_fault procedures vars call =
    results_fault vars (callee_named procedures call.callee.bytes) [] call.results
    >> option_map_or (λ callee. handed_fault vars callee call) (callee_named procedures call.callee.bytes) (need false kind.Unknown call.callee.place)

unfoldable pub call_of : List Named → List VarEntry → Call → CallHead
call_of procedures vars call = record {
  callee = unwrap_or (number_of procedures call.callee.bytes) 0;
  results = map (variable_of vars) call.results;
  args = map (actual_of vars) call.arguments;
  logics = map (actual_of vars) call.logics;
}

-- ---- what a call touches

-- a data or pointer variable among the arguments
abbrev pub cell_name : List VarEntry → Argument → List (List ℕ)
cell_name vars (argument.Name x) = if holds_cell (class_of (kind_of vars x)) then x.bytes ∷ [] else []
cell_name vars (argument.Null place) = []
cell_name vars (argument.Truth place truth) = []

-- the results, and the data and pointer variables among the arguments
abbrev pub touched : List VarEntry → Call → List (List ℕ)
touched vars call = map (λ x. x.bytes) call.results ++ flat_map (cell_name vars) call.arguments

-- the scope where each of these names has this permission
abbrev pub allowed_each : Bool → List Entry → List (List ℕ) → List Entry
allowed_each may scope names = fold (λ s name. allowed name may s) scope names
