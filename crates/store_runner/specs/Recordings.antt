-- What is recorded of what is done.
use Rattle.std.specs.Prelude.{◌≡◌, ◌+◌, ◌<◌, ℕ, Bool, List, [], ◌∷◌, ◌++◌, Option, Result, Ok, Err, if◌then◌else◌}
use Rattle.std.specs.Borrow.{Bor}
use Rattle.store_core.specs.declared.value.Value.{Value}
use Rattle.store_core.specs.Tables.{TypeEntry}
use Rattle.store_core.specs.Stores.{StoreMap}
use Rattle.store_logic.specs.declared.act.Rhs.{Rhs}
use Rattle.store_logic.specs.declared.act.Act.{Act}
use Rattle.store_logic.specs.declared.cond.Cond.{Cond}
use Rattle.store_exec.specs.declared.fault.Fault.{Fault}
use Rattle.store_exec.specs.declared.halt.Halt.{Halt}
use Rattle.store_exec.specs.declared.halt.Halt.TheVariants as halt
use Rattle.store_exec.specs.declared.code.Item.{Item}
use Rattle.store_exec.specs.Going.{CanRun, left_over, weight_left}
use Rattle.store_exec.specs.Steps.{made_of, truth_of, evaluated, Step}
use Rattle.store_trace.specs.declared.event.Event.{Event}
use Rattle.store_trace.specs.declared.event.Event.TheVariants as event
use Rattle.store_trace.specs.Recording.{recorded}
use Rattle.store_trace.specs.Tracing.{Tracing, TracesItems}
use Rattle.store_runner.specs.Conditions.{IsTold}

-- the value that is assigned is given, or the cause
abbrev pub IsGiven : List TypeEntry → StoreMap → Rhs → Result Value Halt → Type 0
IsGiven types s x answer = IsTold (made_of (λ got. got.1) (evaluated types s x)) answer

-- a cause leaves the store as it was
abbrev pub IsKept : {X : Type 0} → StoreMap → StoreMap → Result X Halt → Type 0
IsKept s t (Ok x) = Unit {0}
IsKept s t (Err (halt.Fails why)) = t ≡ s
IsKept s t (Err halt.NoMemory) = Unit {0}

-- the act led to the store, or a fault at its line stopped it and left the store as it was
abbrev pub DoesWell : {E : Type 0} → List TypeEntry → ℕ → Act → StoreMap → StoreMap → Result (Result (Unit {0}) Fault) E → Type 0
DoesWell types line a s t (Ok (Ok done)) = Step types s a (Ok t)
DoesWell types line a s t (Ok (Err fault)) = Step types s a (Err fault.cause) × (fault.line ≡ line) × (t ≡ s)
DoesWell types line a s t (Err e) = Unit {0}

-- it is traced so, and what it showed was recorded
abbrev pub Records : {X E : Type 0} → Tracing X → StoreMap → StoreMap → Option (List Event) → Option (List Event) → Result (Result X Fault) E → Type 0
Records traces s t before now (Ok end) = (shown : List Event) × traces s shown t end × (now ≡ recorded before shown)
Records traces s t before now (Err e) = Unit {0}

-- the condition has this truth, which was recorded, or a fault at its line
abbrev pub Tells : {E : Type 0} → StoreMap → ℕ → Cond → Option (List Event) → Option (List Event) → Result (Result Bool Fault) E → Type 0
Tells s line c before now (Ok (Ok truth)) = (truth_of s c ≡ Ok truth) × (now ≡ recorded before (event.Truth line truth ∷ []))
Tells s line c before now (Ok (Err fault)) = (truth_of s c ≡ Err fault.cause) × (fault.line ≡ line) × (now ≡ before)
Tells s line c before now (Err e) = Unit {0}

-- the one list where the condition is true, the other where it is false
abbrev pub Chooses : {E : Type 0} → StoreMap → ℕ → Cond → List Item → List Item → Option (List Event) → Option (List Event) →
    Result (Result (Bor (List Item)) Fault) E → Type 0
Chooses s line c taken other before now (Ok (Ok chosen)) = (truth : Bool) × (truth_of s c ≡ Ok truth)
    × (chosen.now ≡ (if truth then taken else other)) × (now ≡ recorded before (event.Truth line truth ∷ []))
Chooses s line c taken other before now (Ok (Err fault)) = (truth_of s c ≡ Err fault.cause) × (fault.line ≡ line) × (now ≡ before)
Chooses s line c taken other before now (Err e) = Unit {0}

-- something was recorded, and where the rest shows what it does, the whole shows that and this before it
pub record GoesOn (X : Type 0) (Whole Rest : Tracing X) (s : StoreMap) (before : Option (List Event)) (t : StoreMap) (now : Option (List Event)) :
    Type 0 where
  pub shown : List Event
  pub kept : now ≡ recorded before shown
  pub goes : (later : List Event) (u : StoreMap) (end : Result X Fault) → Rest t later u end → Whole s (shown ++ later) u end

-- the same of items
abbrev pub ItemsGoOn : List TypeEntry → List Item → StoreMap → Option (List Event) → List Item → StoreMap → Option (List Event) → Type 0
ItemsGoOn types items s before rest t now = GoesOn (Unit {0}) (TracesItems types items) (TracesItems types rest) s before t now

-- other items are left, which can be run, and less is to be done; or a fault stopped all
abbrev pub Enters : {E : Type 0} → List TypeEntry → List Item → StoreMap → Option (List Event) → ℕ → StoreMap → List (Bor (List Item)) →
    Option (List Event) → Result (Result (Bor (List Item)) Fault) E → Type 0
Enters types items s before weight t waiting now (Ok (Ok next)) =
    ItemsGoOn types items s before (left_over next.now waiting) t now × CanRun types t (left_over next.now waiting)
    × (weight_left next.now waiting < weight)
Enters types items s before weight t waiting now (Ok (Err fault)) =
    (shown : List Event) × TracesItems types items s shown t (Err fault) × (now ≡ recorded before shown)
Enters types items s before weight t waiting now (Err e) = Unit {0}
