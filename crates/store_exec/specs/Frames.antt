-- What the acts of a run write and free, and what the run leaves as it was.
use Rattle.std.specs.Prelude.{◌≡◌, ◌⊎◌, ◌<◌, ◌≤◌, Bool, true, false, List, [], ◌∷◌, Some, Result, Ok, Err}
use Rattle.store_core.specs.declared.ids.FieldId.{FieldId}
use Rattle.store_core.specs.declared.ids.VarId.{VarId}
use Rattle.store_core.specs.declared.ids.CellId.{CellId}
use Rattle.store_core.specs.declared.value.Value.TheVariants as value
use Rattle.store_core.specs.Tables.{TypeEntry}
use Rattle.store_core.specs.Stores.{StoreMap, IsLive, field_value, var_value}
use Rattle.store_laws.specs.Changed.{variant_of}
use Rattle.store_logic.specs.declared.act.Act.{Act}
use Rattle.store_logic.specs.declared.act.Act.TheVariants as act
use Rattle.store_exec.specs.declared.cause.Cause.{Cause}
use Rattle.store_exec.specs.declared.code.Item.{Item}
use Rattle.store_exec.specs.declared.code.Item.TheOpen.{Item-F}
use Rattle.store_exec.specs.declared.code.Item.TheFolds.{rec-Item}
use Rattle.store_exec.specs.declared.code.Tail.{Tail}
use Rattle.store_exec.specs.declared.code.Tail.TheOpen.{Tail-F, Code-F}
use Rattle.store_exec.specs.declared.code.Tail.TheFolds.{rec-Code}
use Rattle.store_exec.specs.declared.code.Code.{Code}
use Rattle.store_exec.specs.Steps.{variable, last_step, truth_of}
use Rattle.store_exec.specs.Runs.{Ending, RunsItem, RunsItems}

-- ---- what one act writes and frees

-- the last step of the place is this field, through this cell
abbrev pub WritesAt : StoreMap → VarId → List FieldId → CellId → FieldId → Type 0
WritesAt s v [] c f = ⊥
WritesAt s v (first ∷ fields) c f = last_step s (variable s v) first fields ≡ Ok (value.Cell (Some c), f)

-- the act, on the store, writes this field of this cell
abbrev pub Writes : StoreMap → Act → CellId → FieldId → Type 0
Writes s (act.Assign p x) c f = WritesAt s p.var p.fields c f
Writes s (act.Free v) c f = ⊥
Writes s (act.Assert a) c f = ⊥

-- the act writes this variable
abbrev pub WritesVar : Act → VarId → Type 0
WritesVar (act.Assign p x) v = (p.var ≡ v) × (p.fields ≡ [])
WritesVar (act.Free w) v = ⊥
WritesVar (act.Assert a) v = ⊥

-- the act, on the store, frees this cell
abbrev pub Frees : StoreMap → Act → CellId → Type 0
Frees s (act.Assign p x) c = ⊥
Frees s (act.Free v) c = variable s v ≡ value.Cell (Some c)
Frees s (act.Assert a) c = ⊥

-- ---- the acts of a run, each with the store that it finds

-- acts with the stores that they find
abbrev pub Acts : Type 1
Acts = StoreMap → Act → Type 0

-- the acts of the first item, and where it ends those of the rest
abbrev pub ActsInOrder : {Part : Type 0} → (Part → StoreMap → Ending → Type 0) → (Part → StoreMap → Acts) → List Part → StoreMap → Acts
ActsInOrder runs acts [] s u a = ⊥
ActsInOrder runs acts (part ∷ parts) s u a = acts part s u a ⊎ ((t : StoreMap) × runs part s (Ok t) × ActsInOrder runs acts parts t u a)

-- those of the one where the condition is true, and of the other where it is false
abbrev pub ActsByTruth : Result Bool Cause → Acts → Acts → Acts
ActsByTruth (Ok true) taken other u a = taken u a
ActsByTruth (Ok false) taken other u a = other u a
ActsByTruth (Err why) taken other u a = ⊥

-- the acts of one item, by those of its parts
abbrev pub ActsNode : List TypeEntry → (Part : Type 0) → (Part → Item) → (Part → StoreMap → Acts) → Item-F Part → StoreMap → Acts
ActsNode types Part whole acts (Item-F.Do line b) s u a = (u ≡ s) × (a ≡ b)
ActsNode types Part whole acts (Item-F.If line c taken other) s u a = ActsByTruth (truth_of s c)
    (ActsInOrder (λ part. RunsItem types (whole part)) acts taken s) (ActsInOrder (λ part. RunsItem types (whole part)) acts other s) u a

abbrev pub ActsOfItem : List TypeEntry → Item → StoreMap → Acts
ActsOfItem types = rec-Item (StoreMap → Acts) (ActsNode types)

-- the acts that items execute from the store
abbrev pub ActsOfItems : List TypeEntry → List Item → StoreMap → Acts
ActsOfItems types = ActsInOrder (RunsItem types) (ActsOfItem types)

abbrev pub ActsOfTail : List TypeEntry → (T C : Type 0) → (T → Tail) → (C → Code) → (T → StoreMap → Acts) → (C → StoreMap → Acts) →
    Tail-F T C → StoreMap → Acts
ActsOfTail types T C tail code tails codes (Tail-F.Cut place) s u a = ⊥
ActsOfTail types T C tail code tails codes (Tail-F.Branch line c taken other) s u a = ActsByTruth (truth_of s c) (codes taken s) (codes other s) u a

abbrev pub ActsOfCodeNode : List TypeEntry → (T C : Type 0) → (T → Tail) → (C → Code) → (T → StoreMap → Acts) → (C → StoreMap → Acts) →
    Code-F T C → StoreMap → Acts
ActsOfCodeNode types T C tail code tails codes x s u a =
    ActsOfItems types x.items s u a ⊎ ((t : StoreMap) × RunsItems types x.items s (Ok t) × tails x.tail t u a)

-- the acts that the code executes from the store: its items', and where these end those of what follows
abbrev pub ActsOfRun : List TypeEntry → Code → StoreMap → Acts
ActsOfRun types = rec-Code (StoreMap → Acts) (StoreMap → Acts) (ActsOfTail types) (ActsOfCodeNode types)

-- ---- what a run leaves as it was

-- none of the acts frees the cell, writes the field or writes the variable
abbrev pub NoneFrees : Acts → CellId → Type 0
NoneFrees acts c = (u : StoreMap) (a : Act) → acts u a → Frees u a c → ⊥

abbrev pub NoneWrites : Acts → CellId → FieldId → Type 0
NoneWrites acts c f = (u : StoreMap) (a : Act) → acts u a → Writes u a c f → ⊥

abbrev pub NoneWritesVar : Acts → VarId → Type 0
NoneWritesVar acts v = (u : StoreMap) (a : Act) → acts u a → WritesVar a v → ⊥

-- the acts lead from s to t: a cell that none of them frees stays live, and its fields that none writes stand as they were, as do
-- variables that none writes; a number that was used names no new cell, and no cell of another variant
pub record Leave (acts : Acts) (s t : StoreMap) : Type 0 where
  pub cells : (c : CellId) → IsLive s c → NoneFrees acts c → IsLive t c
  pub fields : (c : CellId) (f : FieldId) → IsLive s c → NoneFrees acts c → NoneWrites acts c f → field_value t c f ≡ field_value s c f
  pub vars : (v : VarId) → NoneWritesVar acts v → var_value t v ≡ var_value s v
  pub variants : (c : CellId) → IsLive s c → IsLive t c → variant_of t c ≡ variant_of s c
  pub used : (c : CellId) → c.0 < s.next → IsLive t c → IsLive s c
  pub next : s.next ≤ t.next
