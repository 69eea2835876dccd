-- What loop-free code shows, and where it stands. The outcome is that of `Runs`.
use Rattle.std.specs.Prelude.{◌≡◌, ◌⊎◌, ℕ, Bool, true, false, List, [], ◌∷◌, ◌++◌, Some, None, slice_get, Result, Ok, Err}
use Rattle.store_core.specs.Tables.{TypeEntry, VarEntry}
use Rattle.store_core.specs.Stores.{StoreMap}
use Rattle.store_logic.specs.declared.act.Act.{Act}
use Rattle.store_exec.specs.declared.cause.Cause.{Cause}
use Rattle.store_exec.specs.declared.fault.Fault.{Fault}
use Rattle.store_exec.specs.declared.code.Item.{Item}
use Rattle.store_exec.specs.declared.code.Item.TheOpen.{Item-F}
use Rattle.store_exec.specs.declared.code.Item.TheFolds.{rec-Item}
use Rattle.store_exec.specs.declared.code.Tail.{Tail}
use Rattle.store_exec.specs.declared.code.Tail.TheOpen.{Tail-F, Code-F}
use Rattle.store_exec.specs.declared.code.Tail.TheFolds.{rec-Code}
use Rattle.store_exec.specs.declared.code.Code.{Code}
use Rattle.store_exec.specs.declared.outcome.Outcome.{Outcome}
use Rattle.store_exec.specs.declared.outcome.Outcome.TheVariants as outcome
use Rattle.store_exec.specs.declared.triple.Cut.{Cut}
use Rattle.store_exec.specs.declared.triple.Triple.{Triple}
use Rattle.store_exec.specs.Steps.{truth_of, Step}
use Rattle.store_exec.specs.Cuts.{AtCut}
use Rattle.store_trace.specs.declared.event.Event.{Event}
use Rattle.store_trace.specs.declared.event.Event.TheVariants as event
use Rattle.store_trace.specs.Showing.{events_of}

-- ---- parts of code

-- from a store: what is shown, the store where it stands then, and how it ended there, or the fault that stopped it there
abbrev pub Tracing : Type 0 → Type 1
Tracing X = StoreMap → List Event → StoreMap → Result X Fault → Type 0

-- what comes next goes on where the first ended; a fault stops all
abbrev pub Then : {X : Type 0} → Tracing (Unit {0}) → Tracing X → Tracing X
Then First Next s shown t end =
    ((u : StoreMap) × (before : List Event) × (after : List Event) × First s before u (Ok tt) × Next u after t end × (shown ≡ before ++ after))
    ⊎ ((fault : Fault) × First s shown t (Err fault) × (end ≡ Err fault))

-- one after the other; nothing is shown of none
abbrev pub InOrder : {Part : Type 0} → (Part → Tracing (Unit {0})) → List Part → Tracing (Unit {0})
InOrder traces [] s shown t end = (shown ≡ []) × (t ≡ s) × (end ≡ Ok tt)
InOrder traces (part ∷ parts) s shown t end = Then (traces part) (InOrder traces parts) s shown t end

-- an act shows its events; one that fails shows nothing, at its line, and stands at the store before it
abbrev pub Does : List TypeEntry → ℕ → Act → Tracing (Unit {0})
Does types line a s shown t (Ok done) = Step types s a (Ok t) × (shown ≡ events_of types line s a)
Does types line a s shown t (Err fault) = Step types s a (Err fault.cause) × (fault.line ≡ line) × (t ≡ s) × (shown ≡ [])

-- the truth of the condition, and then the one where it is true, the other where it is false; one that can't be read fails so too
abbrev pub ByTruth : {X : Type 0} → ℕ → Result Bool Cause → Tracing X → Tracing X → Tracing X
ByTruth line (Ok true) Taken Other s shown t end = (after : List Event) × Taken s after t end × (shown ≡ event.Truth line true ∷ after)
ByTruth line (Ok false) Taken Other s shown t end = (after : List Event) × Other s after t end × (shown ≡ event.Truth line false ∷ after)
ByTruth line (Err why) Taken Other s shown t end = (shown ≡ []) × (t ≡ s) × (end ≡ Err (record { cause = why; line = line }))

-- one item, by its parts
abbrev pub TracesNode : List TypeEntry → (Part : Type 0) → (Part → Item) → (Part → Tracing (Unit {0})) → Item-F Part → Tracing (Unit {0})
TracesNode types Part whole traces (Item-F.Do line a) s = Does types line a s
TracesNode types Part whole traces (Item-F.If line c taken other) s =
    ByTruth line (truth_of s c) (InOrder traces taken) (InOrder traces other) s

abbrev pub TracesItem : List TypeEntry → Item → Tracing (Unit {0})
TracesItem types = rec-Item (Tracing (Unit {0})) (TracesNode types)

abbrev pub TracesItems : List TypeEntry → List Item → Tracing (Unit {0})
TracesItems types = InOrder (TracesItem types)

-- ---- code

-- a tail, by its codes: it ends at a cut's place, which shows nothing yet, since something may be wrong there
abbrev pub TailNode : List TypeEntry → (T C : Type 0) → (T → Tail) → (C → Code) → (T → Tracing ℕ) → (C → Tracing ℕ) → Tail-F T C → Tracing ℕ
TailNode types T C tail code tails codes (Tail-F.Cut place) s shown t end = (shown ≡ []) × (t ≡ s) × (end ≡ Ok place)
TailNode types T C tail code tails codes (Tail-F.Branch line c taken other) s shown t end =
    ByTruth line (truth_of s c) (codes taken) (codes other) s shown t end

abbrev pub CodeNode : List TypeEntry → (T C : Type 0) → (T → Tail) → (C → Code) → (T → Tracing ℕ) → (C → Tracing ℕ) → Code-F T C → Tracing ℕ
CodeNode types T C tail code tails codes x = Then (TracesItems types x.items) (tails x.tail)

-- what a code shows from a store, and where it stands: at the place of a cut, or stopped by a fault
abbrev pub TracesCode : List TypeEntry → Code → Tracing ℕ
TracesCode types = rec-Code (Tracing ℕ) (Tracing ℕ) (TailNode types) (CodeNode types)

-- the outcome of a code that stands so
abbrev pub outcome_of : StoreMap → Result ℕ Fault → Outcome
outcome_of t (Ok place) = outcome.End place t
outcome_of t (Err fault) = outcome.Fail fault.cause fault.line

-- ---- triples

-- what a triple shows from a store: its code stops; or it ends at a cut with a cause, which shows nothing and stands there; or at a cut
-- without one, of any kind, which is shown, and the end is its line
pub data TracesTriple (types : List TypeEntry) (vars : List VarEntry) (t : Triple) (s : StoreMap) : List Event → StoreMap → Result ℕ Fault → Type 0 where
  stops : (shown : List Event) (at : StoreMap) (fault : Fault) → TracesCode types t.code s shown at (Err fault)
      → TracesTriple types vars t s shown at (Err fault)
  fails : (shown : List Event) (at : StoreMap) (place : ℕ) (cut : Cut) (why : Cause) → TracesCode types t.code s shown at (Ok place)
      → slice_get t.cuts place ≡ Some cut → AtCut types vars cut at (Some why)
      → TracesTriple types vars t s shown at (Err (record { cause = why; line = cut.line }))
  ends : (shown : List Event) (at : StoreMap) (place : ℕ) (cut : Cut) → TracesCode types t.code s shown at (Ok place)
      → slice_get t.cuts place ≡ Some cut → AtCut types vars cut at None
      → TracesTriple types vars t s (shown ++ event.Cut cut.line ∷ []) at (Ok cut.line)
