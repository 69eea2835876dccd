-- Calls and returns, as the code makes them.
use Rattle.std.proofs.Common.{◌≡◌, ℕ, List, ◌∷◌, Some, Bor, slice_get, ap, ap₂, ◌∙◌}
use Rattle.std.specs.Prelude.{option_map}
use Rattle.store_core.specs.declared.ids.VarId.{VarId}
use Rattle.store_core.specs.declared.ids.CellId.{CellId}
use Rattle.store_core.specs.Stores.{StoreMap}
use Rattle.routing_walks.specs.Regions.{IsPart}
use Rattle.pale_typed.specs.declared.typed.CallParts.{CallParts}
use Rattle.pale_typed.specs.declared.typed.ProcEntry.{ProcEntry}
use Rattle.pale_typed.specs.declared.typed.Stmt.{Stmt}
use Rattle.pale_typed.specs.declared.typed.TypedProc.{TypedProc}
use Rattle.pale_typed.specs.TypedPrograms.{TypedProgram}
use Rattle.hoare_split.specs.Calls.{handed_by}
use Rattle.whole_run.specs.States.{Waiting, runs, goes}
use Rattle.whole_run.specs.Handing.{handed_store, rest_store, returned_store}
use Rattle.whole_run.specs.Turns.{Begins, Returns}
use Rattle.whole_turns.specs.declared.activation.Activation.{Activation}
use Rattle.whole_turns.specs.declared.activation.Suspended.{Suspended}
use Rattle.whole_turns.specs.Standings.{left_of, entry_of, frame_of, waiting_of, all_waiting}
use Rattle.whole_turns.specs.Turning.{IsEntered}

-- ---- a call begins

-- a call that waits with the rest
abbrev pub waits : CallParts → Activation → StoreMap → List CellId → Waiting
waits call a s cells = record { call = call; caller = record { entry = entry_of a; store = rest_store s cells; left = left_of a.left } }

pub waits_is : (lent : Bor CallParts) (a : Activation) (s : StoreMap) (cells : List CellId) (rest : StoreMap) → rest ≡ rest_store s cells →
    waiting_of (record { call = lent; caller = a; rest = rest }) ≡ waits lent.now a s cells
waits_is lent a s cells rest is = λ i. record { call = lent.now; caller = record { entry = entry_of a; store = is i; left = left_of a.left } }

-- the callee runs on the handed part, and the call waits with the rest
pub begun : (program : TypedProgram) (call : CallParts) (a : Activation) (s : StoreMap) (cells : List CellId) (old new : List Suspended) (callee : Activation)
    (handed : StoreMap) (w : Suspended) → IsEntered program call.callee callee →
    IsPart program.types (entry_of a).vars s (handed_by (entry_of a).vars call.args) cells → handed ≡ handed_store (entry_of callee) call s cells →
    new ≡ w ∷ old → waiting_of w ≡ waits call a s cells →
    Begins program call (frame_of a s) (all_waiting old) (goes (runs (frame_of callee handed) (all_waiting new)))
begun program call a s cells old new callee handed w entered part is_handed put is_waiting = (
  entry_of callee,
  cells,
  entered.there,
  part,
  ap (λ (ws : List Suspended). goes (runs (frame_of callee handed) (all_waiting ws))) put
      ∙ ap (λ (x : Waiting). goes (runs (frame_of callee handed) (x ∷ all_waiting old))) is_waiting
      ∙ ap₂ (λ (h : StoreMap) (left : List Stmt).
      goes (runs (record { entry = entry_of callee; store = h; left = left }) (waits call a s cells ∷ all_waiting old))) is_handed entered.body,
)

-- ---- a return

some_same : {X : Type 0} (x y : X) → Some x ≡ Some y → x ≡ y
some_same x y e = cc

-- the callee's procedure is that of its entry
pub callee_is : (procs : List ProcEntry) (n : ℕ) (callee : ProcEntry) (proc : TypedProc) → slice_get procs n ≡ Some callee →
    Some proc ≡ option_map (λ (e : ProcEntry). e.proc) (slice_get procs n) → proc ≡ callee.proc
callee_is procs n callee proc there is = some_same proc callee.proc (is ∙ ap (option_map (λ (e : ProcEntry). e.proc)) there)

-- the caller goes on with the store after the return
pub back : (program : TypedProgram) (t : StoreMap) (w : Suspended) (callee : ProcEntry) (results : List VarId) (after : StoreMap) (waiting : List Waiting) →
    slice_get program.procs w.call.now.callee ≡ Some callee → results ≡ callee.proc.results →
    after ≡ returned_store w.caller.vars.now w.call.now results w.rest t →
    Returns program t (waiting_of w) waiting (goes (runs (frame_of w.caller after) waiting))
back program t w callee results after waiting there same is = (
  callee,
  there,
  ap (λ (s : StoreMap). goes (runs (frame_of w.caller s) waiting)) is
      ∙ ap (λ (vs : List VarId). goes (runs (frame_of w.caller (returned_store w.caller.vars.now w.call.now vs w.rest t)) waiting)) same,
)
