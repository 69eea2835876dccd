-- Where a loop-free code leads from a store.
use Rattle.std.specs.Prelude.{◌≡◌, ◌⊎◌, ℕ, Bool, true, false, List, [], ◌∷◌, Result, Ok, Err}
use Rattle.store_core.specs.Tables.{TypeEntry}
use Rattle.store_core.specs.Stores.{StoreMap}
use Rattle.store_logic.specs.declared.act.Act.{Act}
use Rattle.store_exec.specs.declared.cause.Cause.{Cause}
use Rattle.store_exec.specs.declared.fault.Fault.{Fault}
use Rattle.store_exec.specs.declared.code.Item.{Item}
use Rattle.store_exec.specs.declared.code.Item.TheOpen.{Item-F}
use Rattle.store_exec.specs.declared.code.Item.TheFolds.{rec-Item}
use Rattle.store_exec.specs.declared.code.Tail.{Tail}
use Rattle.store_exec.specs.declared.code.Tail.TheOpen.{Tail-F, Code-F}
use Rattle.store_exec.specs.declared.code.Tail.TheFolds.{rec-Code}
use Rattle.store_exec.specs.declared.code.Code.{Code}
use Rattle.store_exec.specs.declared.outcome.Outcome.{Outcome}
use Rattle.store_exec.specs.declared.outcome.Outcome.TheVariants as outcome
use Rattle.store_exec.specs.Steps.{truth_of, Step}

-- the store where items end, or the fault that stops them
abbrev pub Ending : Type 0
Ending = Result StoreMap Fault

-- the items one after the other, each from the store where the one before it ended; a fault stops all
abbrev pub InOrder : {Part : Type 0} → (Part → StoreMap → Ending → Type 0) → List Part → StoreMap → Ending → Type 0
InOrder runs [] s end = end ≡ Ok s
InOrder runs (part ∷ parts) s end =
    ((t : StoreMap) × runs part s (Ok t) × InOrder runs parts t end)
    ⊎ ((fault : Fault) × runs part s (Err fault) × (end ≡ Err fault))

-- an act ends where it leads; its cause comes at its line
abbrev pub Does : List TypeEntry → ℕ → StoreMap → Act → Ending → Type 0
Does types line s a (Ok t) = Step types s a (Ok t)
Does types line s a (Err fault) = Step types s a (Err fault.cause) × (fault.line ≡ line)

-- the one where the condition is true, the other where it is false; a condition that can't be read stops at its line
abbrev pub ByTruth : ℕ → Result Bool Cause → (Ending → Type 0) → (Ending → Type 0) → Ending → Type 0
ByTruth line (Ok true) Taken Other end = Taken end
ByTruth line (Ok false) Taken Other end = Other end
ByTruth line (Err why) Taken Other end = end ≡ Err (record { cause = why; line = line })

-- where one item ends, by where its parts do
abbrev pub RunsNode : List TypeEntry → (Part : Type 0) → (Part → Item) → (Part → StoreMap → Ending → Type 0) →
    Item-F Part → StoreMap → Ending → Type 0
RunsNode types Part whole runs (Item-F.Do line a) s end = Does types line s a end
RunsNode types Part whole runs (Item-F.If line c taken other) s end =
    ByTruth line (truth_of s c) (InOrder runs taken s) (InOrder runs other s) end

-- where an item ends
abbrev pub RunsItem : List TypeEntry → Item → StoreMap → Ending → Type 0
RunsItem types = rec-Item (StoreMap → Ending → Type 0) (RunsNode types)

-- where items end, one after the other
abbrev pub RunsItems : List TypeEntry → List Item → StoreMap → Ending → Type 0
RunsItems types = InOrder (RunsItem types)

-- ---- code

-- what follows the items goes on where they end; a fault stops all
abbrev pub Follows : (Ending → Type 0) → (StoreMap → Outcome → Type 0) → Outcome → Type 0
Follows Items Next out =
    ((t : StoreMap) × Items (Ok t) × Next t out) ⊎ ((fault : Fault) × Items (Err fault) × (out ≡ outcome.Fail fault.cause fault.line))

-- the one code where the condition is true, the other where it is false; a condition that can't be read stops at its line
abbrev pub Branches : ℕ → Result Bool Cause → (Outcome → Type 0) → (Outcome → Type 0) → Outcome → Type 0
Branches line (Ok true) Taken Other out = Taken out
Branches line (Ok false) Taken Other out = Other out
Branches line (Err why) Taken Other out = out ≡ outcome.Fail why line

-- where a tail leads, by where its codes do
abbrev pub TailNode : List TypeEntry → (T C : Type 0) → (T → Tail) → (C → Code) → (T → StoreMap → Outcome → Type 0) →
    (C → StoreMap → Outcome → Type 0) → Tail-F T C → StoreMap → Outcome → Type 0
TailNode types T C tail code tails codes (Tail-F.Cut place) s out = out ≡ outcome.End place s
TailNode types T C tail code tails codes (Tail-F.Branch line c taken other) s out =
    Branches line (truth_of s c) (codes taken s) (codes other s) out

-- where a code leads, by where its tail does
abbrev pub CodeNode : List TypeEntry → (T C : Type 0) → (T → Tail) → (C → Code) → (T → StoreMap → Outcome → Type 0) →
    (C → StoreMap → Outcome → Type 0) → Code-F T C → StoreMap → Outcome → Type 0
CodeNode types T C tail code tails codes x s out = Follows (RunsItems types x.items s) (tails x.tail) out

-- where a code leads from a store: to a cut with a store, or to a cause at its line
abbrev pub RunsCode : List TypeEntry → Code → StoreMap → Outcome → Type 0
RunsCode types = rec-Code (StoreMap → Outcome → Type 0) (StoreMap → Outcome → Type 0) (TailNode types) (CodeNode types)
