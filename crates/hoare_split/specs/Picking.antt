-- Variables of a procedure that a cut point lists, in order of the variable table. (Møller and Schwartzbach, PLDI 2001: calls.)
use Rattle.std.specs.Prelude.{ℕ, ◌==◌, ◌&&◌, ◌||◌, Bool, true, false, not, List, length, map, filter}
use Rattle.std.specs.Option.{option_map_or}
use Rattle.std.specs.List.{list_any, range_with_len}
use Rattle.store_core.specs.declared.ids.VarId.{VarId}
use Rattle.store_core.specs.Tables.{VarEntry, var_at}
use Rattle.pale_calls.specs.declared.class.VarClass.{VarClass}
use Rattle.pale_calls.specs.declared.class.VarClass.TheVariants as class
use Rattle.pale_calls.specs.declared.actual.Actual.{Actual}
use Rattle.pale_calls.specs.declared.actual.Actual.TheVariants as actual
use Rattle.pale_calls.specs.Classes.{class_of, holds_cell}
use Rattle.pale_typed.specs.declared.typed.CallParts.{CallParts}
use Rattle.pale_typed.specs.declared.typed.TypedProc.{TypedProc}
use Rattle.hoare_split.specs.declared.picking.Pick.{Pick}
use Rattle.hoare_split.specs.declared.picking.Pick.TheVariants as pick

-- ---- classes and lists

-- the class of a variable; one that isn't there counts as a truth value
abbrev pub class_at : List VarEntry → VarId → VarClass
class_at vars v = option_map_or (λ e. class_of e.kind) (var_at vars v) class.Bool

abbrev pub is_data : VarClass → Bool
is_data class.Data = true
is_data class.Bool = false
is_data class.Pointer = false
is_data class.LogicSet = false
is_data class.LogicBool = false

abbrev pub is_pointer : VarClass → Bool
is_pointer class.Pointer = true
is_pointer class.Bool = false
is_pointer class.Data = false
is_pointer class.LogicSet = false
is_pointer class.LogicBool = false

-- the variable is one of these
abbrev pub is_listed : List VarId → VarId → Bool
is_listed vars v = list_any (λ u. u.0 == v.0) vars

-- what is handed over is the variable
abbrev pub is_handed : VarId → Actual → Bool
is_handed v (actual.Var u) = u.0 == v.0
is_handed v actual.Null = false
is_handed v (actual.Truth truth) = false

-- the variable is among the arguments
abbrev pub is_argument : List Actual → VarId → Bool
is_argument args v = list_any (is_handed v) args

-- ---- in order of the table

-- the variables with these numbers
abbrev pub numbered : List ℕ → List VarId
numbered numbers = map (λ n. record { 0 = n }) numbers

-- the variables for which the test holds
abbrev pub those : (VarClass → VarId → Bool) → List VarEntry → List VarId
those is vars = filter (λ v. is (class_at vars v) v) (numbered (range_with_len 0 (length vars)))

-- ---- the tests

-- null or false at the entry: results and locals
abbrev pub is_fresh : TypedProc → VarClass → VarId → Bool
is_fresh p of v = is_listed p.results v || is_listed p.locals v

-- set to null at the exit: data and pointer variables that are no results
abbrev pub is_left : TypedProc → VarClass → VarId → Bool
is_left p of v = holds_cell of && not (is_listed p.results v)

-- set to null or false before a call: results that aren't among the arguments
abbrev pub is_awaited : CallParts → VarClass → VarId → Bool
is_awaited call of v = is_listed call.results v && not (is_argument call.args v)

-- pointer variables among the arguments
abbrev pub is_lent : CallParts → VarClass → VarId → Bool
is_lent call of v = is_pointer of && is_argument call.args v

-- null after a call: data and pointer arguments that are no results
abbrev pub is_spent : CallParts → VarClass → VarId → Bool
is_spent call of v = (holds_cell of && is_argument call.args v) && not (is_listed call.results v)

-- pointer variables among the results
abbrev pub is_gained : CallParts → VarClass → VarId → Bool
is_gained call of v = is_pointer of && is_listed call.results v

-- which test the code's name for it means
abbrev pub test_of : Pick → VarClass → VarId → Bool
test_of (pick.Fresh p) = is_fresh p.now
test_of (pick.Left p) = is_left p.now
test_of (pick.Awaited call) = is_awaited call.now
test_of (pick.Lent call) = is_lent call.now
test_of (pick.Spent call) = is_spent call.now
test_of (pick.Gained call) = is_gained call.now
