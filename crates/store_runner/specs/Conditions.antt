-- How the truth of a condition is found part by part.
use Rattle.std.specs.Prelude.{◌≡◌, ◌+◌, ◌<◌, ℕ, Bool, true, false, not, List, [], ◌∷◌, sum_by, Option, is_some, Result, Ok, Err, if◌then◌else◌}
use Rattle.store_core.specs.declared.ids.FieldId.{FieldId}
use Rattle.store_core.specs.declared.ids.CellId.{CellId}
use Rattle.store_core.specs.declared.value.Value.TheVariants as value
use Rattle.store_core.specs.Stores.{StoreMap, field_value}
use Rattle.store_logic.specs.PostfixConds.{form_count}
use Rattle.store_exec.specs.declared.cause.Cause.{Cause}
use Rattle.store_exec.specs.declared.cause.Cause.TheVariants as cause
use Rattle.store_exec.specs.declared.halt.Halt.{Halt}
use Rattle.store_exec.specs.declared.halt.Halt.TheVariants as halt
use Rattle.store_runner.specs.declared.truth.Waiting.{Waiting}
use Rattle.store_runner.specs.declared.truth.Waiting.TheVariants as waiting
use Rattle.store_runner.specs.declared.truth.Next.{Next}
use Rattle.store_runner.specs.declared.truth.Next.TheVariants as next
use Rattle.store_exec.specs.Steps.{and_then, made_of, cell_through, truth_of}

-- the answer is the one that is defined, by what is made of its value, or want of memory
abbrev pub IsToldBy : {X Y : Type 0} → (X → Y) → Result Y Cause → Result X Halt → Type 0
IsToldBy make defined (Ok x) = defined ≡ Ok (make x)
IsToldBy make defined (Err (halt.Fails why)) = defined ≡ Err why
IsToldBy make defined (Err halt.NoMemory) = Unit {0}

-- the store afterwards is the one that is defined, or want of memory stopped it
abbrev pub Leads : {X : Type 0} → StoreMap → Result StoreMap Cause → Result X Halt → Type 0
Leads after defined (Ok x) = defined ≡ Ok after
Leads after defined (Err (halt.Fails why)) = defined ≡ Err why
Leads after defined (Err halt.NoMemory) = Unit {0}

-- the answer is the one that is defined, or want of memory
abbrev pub IsTold : {X : Type 0} → Result X Cause → Result X Halt → Type 0
IsTold defined answer = IsToldBy (λ x. x) defined answer

-- what one thing that waits makes of the truth of the part before it
abbrev pub resumed_by : StoreMap → Waiting → Result Bool Cause → Result Bool Cause
resumed_by s waiting.Not part = made_of not part
resumed_by s (waiting.And right) part = and_then (λ truth. if truth then truth_of s right.now else Ok false) part
resumed_by s (waiting.Or right) part = and_then (λ truth. if truth then Ok true else truth_of s right.now) part

-- what all that waits makes of it, the first on top
abbrev pub resumed : StoreMap → List Waiting → Result Bool Cause → Result Bool Cause
resumed s [] part = part
resumed s (w ∷ ws) part = resumed s ws (resumed_by s w part)

-- how much is still to be read of what waits
abbrev pub weight : Waiting → ℕ
weight waiting.Not = 1
weight (waiting.And right) = form_count right.now + 1
weight (waiting.Or right) = form_count right.now + 1

abbrev pub weight_of : List Waiting → ℕ
weight_of = sum_by weight

-- the truth of the part is handed to what waits: the whole is told, or a condition is next, and less is left to be read
abbrev pub Resumes : StoreMap → List Waiting → Bool → List Waiting → Next → Type 0
Resumes s old part new (next.Told truth) = resumed s old (Ok part) ≡ Ok truth
Resumes s old part new (next.Read cond) =
    (resumed s old (Ok part) ≡ resumed s new (truth_of s cond.now)) × (form_count cond.now + weight_of new < weight_of old)

-- the live cell of which a field is written, which has it
abbrev pub cell_written : StoreMap → Option CellId → FieldId → Result CellId Cause
cell_written s through f = and_then (λ c. if is_some (field_value s c f) then Ok c else Err cause.Variant) (cell_through s (value.Cell through))
