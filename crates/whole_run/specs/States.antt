-- Where a whole run of a program stands: procedures run their statements with loops and calls.
use Rattle.std.specs.Prelude.{ℕ, List}
use Rattle.store_core.specs.Stores.{StoreMap}
use Rattle.store_exec.specs.declared.cause.Cause.{Cause}
use Rattle.pale_typed.specs.declared.typed.CallParts.{CallParts}
use Rattle.pale_typed.specs.declared.typed.ProcEntry.{ProcEntry}
use Rattle.pale_typed.specs.declared.typed.Stmt.{Stmt}

-- a procedure in the middle of its run: its store, and the statements that are left, the next one first
pub record Frame : Type 0 where
  pub entry : ProcEntry
  pub store : StoreMap
  pub left : List Stmt

-- a call that waits for its callee, and its caller: the store is without the handed part, and left is what follows the call
pub record Waiting : Type 0 where
  pub call : CallParts
  pub caller : Frame

-- a procedure runs, or it has exited with this store; and the calls that wait, the last one first
pub data State : Type 0 where
  runs : Frame → List Waiting → State
  exited : StoreMap → List Waiting → State

-- what one step of a run leads to: the next state, or a cause at its line
pub data Turn : Type 0 where
  goes : State → Turn
  fails : Cause → ℕ → Turn

-- the answer of a run after so many steps
pub data Answer : Type 0 where
  Running : Answer
  Fail : Cause → ℕ → Answer
  Exit : StoreMap → Answer
