-- What one act of code does to a store, and which cause stops it. (Møller and Schwartzbach, PLDI 2001; the order in which a
-- statement reads and writes is this project's.)
use Rattle.std.specs.Prelude.{◌≡◌, ◌==◌, ◌&&◌, Bool, true, false, not, List, [], ◌∷◌, Option, Some, None, unwrap_or, is_some, if◌then◌else◌}
use Rattle.std.specs.Prelude.{Result, Ok, Err}
use Rattle.std.specs.Option.{ok_or, option_map_or}
use Rattle.store_core.specs.declared.ids.VariantId.{VariantId}
use Rattle.store_core.specs.declared.ids.FieldId.{FieldId}
use Rattle.store_core.specs.declared.ids.VarId.{VarId}
use Rattle.store_core.specs.declared.ids.CellId.{CellId}
use Rattle.store_core.specs.declared.value.Value.{Value}
use Rattle.store_core.specs.declared.value.Value.TheVariants as value
use Rattle.store_core.specs.Tables.{TypeEntry}
use Rattle.store_core.specs.Stores.{StoreMap, cell_of, field_value, var_value, put_cell, set_field, set_var, remove_cell}
use Rattle.store_logic.specs.declared.path.Path.{Path}
use Rattle.store_logic.specs.declared.path.Operand.{Operand}
use Rattle.store_logic.specs.declared.path.Operand.TheVariants as operand
use Rattle.store_logic.specs.declared.cond.Cond.{Cond}
use Rattle.store_logic.specs.declared.cond.Cond.TheOpen.{Cond-F}
use Rattle.store_logic.specs.declared.cond.Cond.TheFolds.{fold-Cond}
use Rattle.store_logic.specs.declared.act.Rhs.{Rhs}
use Rattle.store_logic.specs.declared.act.Rhs.TheVariants as rhs
use Rattle.store_logic.specs.declared.act.Act.{Act}
use Rattle.store_logic.specs.declared.act.Act.TheVariants as act
use Rattle.store_logic.specs.declared.assertion.Assertion.{Assertion}
use Rattle.store_logic.specs.Terms.{null, cell_in, truth_in, outside}
use Rattle.store_logic.specs.Satisfaction.{SatAll}
use Rattle.store_exec.specs.declared.cause.Cause.{Cause}
use Rattle.store_exec.specs.declared.cause.Cause.TheVariants as cause

-- ---- one thing after another

-- what comes next is done with the first's value; where the first is stopped, all is
abbrev pub and_then : {X Y : Type 0} → (X → Result Y Cause) → Result X Cause → Result Y Cause
and_then next (Ok x) = next x
and_then next (Err why) = Err why

-- the same where what comes next is never stopped
abbrev pub made_of : {X Y : Type 0} → (X → Y) → Result X Cause → Result Y Cause
made_of make (Ok x) = Ok (make x)
made_of make (Err why) = Err why

-- ---- reading

-- the live cell through which something is read or written: null has none, and a dead cell dangles
abbrev pub cell_through : StoreMap → Value → Result CellId Cause
cell_through s (value.Cell (Some c)) = if is_some (cell_of s c) then Ok c else Err cause.Dangling
cell_through s _ = Err cause.Null

-- the value of a field of a live cell that has it
abbrev pub field_read : StoreMap → FieldId → CellId → Result Value Cause
field_read s f c = ok_or (field_value s c f) cause.Variant

-- the value of a field of what a value is
abbrev pub read : StoreMap → Value → FieldId → Result Value Cause
read s x f = and_then (field_read s f) (cell_through s x)

-- the values of the fields, one after the other
abbrev pub read_along : StoreMap → Value → List FieldId → Result Value Cause
read_along s x [] = Ok x
read_along s x (f ∷ fields) = and_then (λ y. read_along s y fields) (read s x f)

-- the value of a variable
abbrev pub variable : StoreMap → VarId → Value
variable s v = unwrap_or (var_value s v) null

-- what stands at a path
abbrev pub path_value : StoreMap → Path → Result Value Cause
path_value s p = read_along s (variable s p.var) p.fields

abbrev pub operand_value : StoreMap → Operand → Result Value Cause
operand_value s operand.Null = Ok null
operand_value s (operand.Path p) = path_value s p

-- ---- conditions

-- both are null, or both are one cell
abbrev pub is_same : Option CellId → Option CellId → Bool
is_same None None = true
is_same (Some c) (Some d) = c.0 == d.0
is_same _ _ = false

-- the two are one variant
abbrev pub is_variant : VariantId → VariantId → Bool
is_variant v w = (v.ty.0 == w.ty.0) && (v.index == w.index)

-- whether the live cell is of the variant
abbrev pub is_of : StoreMap → VariantId → CellId → Bool
is_of s v c = option_map_or (λ cell. is_variant cell.variant v) (cell_of s c) false

-- the truth of one form of condition, by that of its parts: it is read from the left, and `&&` and `||` stop early
abbrev pub truth_node : StoreMap → Cond-F (Result Bool Cause) → Result Bool Cause
truth_node s Cond-F.True = Ok true
truth_node s Cond-F.False = Ok false
truth_node s (Cond-F.Bool p) = made_of truth_in (path_value s p)
truth_node s (Cond-F.Is p v) = made_of (is_of s v) (and_then (cell_through s) (path_value s p))
truth_node s (Cond-F.Same p q) =
    and_then (λ x. made_of (λ y. is_same (cell_in x) (cell_in y)) (operand_value s q)) (operand_value s p)
truth_node s (Cond-F.Not c) = made_of not c
truth_node s (Cond-F.And c d) = and_then (λ truth. if truth then d else Ok false) c
truth_node s (Cond-F.Or c d) = and_then (λ truth. if truth then Ok true else d) c

-- the truth of a condition
abbrev pub truth_of : StoreMap → Cond → Result Bool Cause
truth_of s = fold-Cond (Result Bool Cause) (truth_node s)

-- ---- writing

-- the store where the value of what is assigned is known, and that value: a new cell is there already
abbrev pub evaluated : List TypeEntry → StoreMap → Rhs → Result (StoreMap × Value) Cause
evaluated types s (rhs.Cell p) = made_of (λ x. (s, x)) (operand_value s p)
evaluated types s (rhs.New v) = Ok (put_cell s types v, value.Cell (Some (record { 0 = s.next })))
evaluated types s (rhs.Truth c) = made_of (λ truth. (s, value.Bool truth)) (truth_of s c)

-- the store with the value in a field of a live cell that has it
abbrev pub field_written : StoreMap → FieldId → Value → CellId → Result StoreMap Cause
field_written s f y c = if is_some (field_value s c f) then Ok (set_field s c f y) else Err cause.Variant

-- the store with the value in a field of what a value is
abbrev pub written : StoreMap → Value → FieldId → Value → Result StoreMap Cause
written s x f y = and_then (field_written s f y) (cell_through s x)

-- the last step of a place: what is written through, and the field. The steps before it are read
abbrev pub last_step : StoreMap → Value → FieldId → List FieldId → Result (Value × FieldId) Cause
last_step s x f [] = Ok (x, f)
last_step s x f (g ∷ fields) = and_then (λ y. last_step s y g fields) (read s x f)

-- the store after an assignment: the cells of the place but the last step are read, then what is assigned, and then the place
-- is written
abbrev pub assigned : List TypeEntry → StoreMap → VarId → List FieldId → Rhs → Result StoreMap Cause
assigned types s v [] x = made_of (λ got. set_var got.0 v got.1) (evaluated types s x)
assigned types s v (f ∷ fields) x =
    and_then (λ step. and_then (λ got. written got.0 step.0 step.1 got.1) (evaluated types s x)) (last_step s (variable s v) f fields)

-- the store where the cell that a value is has become dead
abbrev pub freed : StoreMap → Value → Result StoreMap Cause
freed s (value.Cell (Some c)) = if is_some (cell_of s c) then Ok (remove_cell s c) else Err cause.DoubleFree
freed s _ = Err cause.Null

-- ---- steps

-- an assertion that the store satisfies leaves it as it is, and another one is a cause
abbrev pub Asserted : List TypeEntry → StoreMap → Assertion → Result StoreMap Cause → Type 0
Asserted types s a (Ok next) = (next ≡ s) × SatAll types [] s outside a
Asserted types s a (Err why) = (why ≡ cause.Assert) × (SatAll types [] s outside a → ⊥)

-- what the act leads to: the next store, or the cause that stops it
abbrev pub Step : List TypeEntry → StoreMap → Act → Result StoreMap Cause → Type 0
Step types s (act.Assign p x) r = assigned types s p.var p.fields x ≡ r
Step types s (act.Free v) r = freed s (variable s v) ≡ r
Step types s (act.Assert a) r = Asserted types s a r
