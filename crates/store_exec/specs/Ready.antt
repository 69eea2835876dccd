-- When an act can be executed: what it names is known, what it writes is of the class of the place, and there is room for its
-- new cells.
use Rattle.std.specs.Prelude.{◌≡◌, ◌<◌, List, [], ◌∷◌, IfSome, IsSomeAnd, Result, Ok, Err}
use Rattle.store_core.specs.declared.ids.VarId.{VarId}
use Rattle.store_core.specs.declared.ids.FieldId.{FieldId}
use Rattle.store_core.specs.declared.value.Value.{Value}
use Rattle.store_core.specs.declared.value.Value.TheVariants as value
use Rattle.store_core.specs.Tables.{TypeEntry, KnowsVariant}
use Rattle.store_core.specs.Stores.{StoreMap, class_of, field_value, var_value}
use Rattle.store_logic.specs.declared.path.Path.{Path}
use Rattle.store_logic.specs.declared.act.Rhs.{Rhs}
use Rattle.store_logic.specs.declared.act.Rhs.TheVariants as rhs
use Rattle.store_logic.specs.declared.act.Act.{Act}
use Rattle.store_logic.specs.declared.act.Act.TheVariants as act
use Rattle.store_logic.specs.Terms.{cell_in}
use Rattle.store_logic.specs.declared.assertion.Assertion.{Assertion}
use Rattle.store_exec.specs.declared.cause.Cause.{Cause}
use Rattle.store_exec.specs.declared.halt.Halt.{Halt}
use Rattle.store_exec.specs.declared.halt.Halt.TheVariants as halt
use Rattle.store_exec.specs.Steps.{and_then, made_of, read_along, evaluated, variable, written, last_step, Asserted, Step}

-- a new cell is of a known variant, and its number is one that a u32 counts past
abbrev pub IsKnownRhs : List TypeEntry → StoreMap → Rhs → Type 0
IsKnownRhs types s (rhs.Cell p) = Unit {0}
IsKnownRhs types s (rhs.New v) = KnowsVariant types v × (s.next < 4294967295)
IsKnownRhs types s (rhs.Truth c) = Unit {0}

-- what is assigned is of the class of what stands at the place before
abbrev pub TakesClassAt : List TypeEntry → StoreMap → VarId → List FieldId → Rhs → Type 0
TakesClassAt types s v [] x =
    (t : StoreMap) (y : Value) → evaluated types s x ≡ Ok (t, y) → IsSomeAnd (var_value t v) (λ old. class_of y ≡ class_of old)
TakesClassAt types s v (f ∷ fields) x =
    (t : StoreMap) (y : Value) → evaluated types s x ≡ Ok (t, y) → (through : Value) (last : FieldId) →
    last_step s (variable s v) f fields ≡ Ok (through, last) →
    IfSome (cell_in through) (λ c. IfSome (field_value t c last) (λ old. class_of y ≡ class_of old))

abbrev pub TakesClass : List TypeEntry → StoreMap → Path → Rhs → Type 0
TakesClass types s p x = TakesClassAt types s p.var p.fields x

-- an act that can be executed
abbrev pub IsReady : List TypeEntry → StoreMap → Act → Type 0
IsReady types s (act.Assign p x) = IsKnownRhs types s x × TakesClass types s p x
IsReady types s (act.Free v) = Unit {0}
IsReady types s (act.Assert a) = Unit {0}

-- ---- what is done with an act

-- the act leads to the store, or is stopped by the cause, or want of memory stopped it
abbrev pub Steps : List TypeEntry → StoreMap → Act → StoreMap → Result (Unit {0}) Halt → Type 0
Steps types s a after (Ok done) = Step types s a (Ok after)
Steps types s a after (Err (halt.Fails why)) = Step types s a (Err why)
Steps types s a after (Err halt.NoMemory) = Unit {0}

-- the same of an assertion
abbrev pub Asserts : List TypeEntry → StoreMap → Assertion → Result (Unit {0}) Halt → Type 0
Asserts types s a (Ok done) = Asserted types s a (Ok s)
Asserts types s a (Err (halt.Fails why)) = Asserted types s a (Err why)
Asserts types s a (Err halt.NoMemory) = Unit {0}

-- ---- assignments to a field, by the fields before it and the last

-- the store after an assignment to the last field of what the fields before it lead to
abbrev pub field_assigned : List TypeEntry → StoreMap → VarId → List FieldId → FieldId → Rhs → Result StoreMap Cause
field_assigned types s v before last x = and_then (λ through. and_then (λ got. written got.0 through last got.1) (evaluated types s x))
    (made_of (λ y. value.Cell (cell_in y)) (read_along s (variable s v) before))

-- what is assigned is of the class of what stands in the field before
abbrev pub TakesFieldClass : List TypeEntry → StoreMap → VarId → List FieldId → FieldId → Rhs → Type 0
TakesFieldClass types s v before last x =
    (t : StoreMap) (y : Value) → evaluated types s x ≡ Ok (t, y) → (through : Value) → read_along s (variable s v) before ≡ Ok through →
    IfSome (cell_in through) (λ c. IfSome (field_value t c last) (λ old. class_of y ≡ class_of old))
