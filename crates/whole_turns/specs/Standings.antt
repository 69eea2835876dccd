-- Where a run stands, as the code keeps it.
use Rattle.std.specs.Prelude.{List, [], ◌∷◌, ◌++◌, map, flat_map, Option, Some, None}
use Rattle.store_core.specs.Stores.{StoreMap}
use Rattle.pale_typed.specs.declared.typed.ProcEntry.{ProcEntry}
use Rattle.pale_typed.specs.declared.typed.Stmt.{Stmt, roll-Stmt}
use Rattle.pale_typed.specs.declared.typed.Stmt.TheVariants as stmt
use Rattle.pale_typed.specs.declared.typed.Stmt.TheOpen.{Stmt-F}
use Rattle.whole_run.specs.States.{Frame, Waiting, State, runs, exited}
use Rattle.whole_run.specs.Turns.{behind_cut}
use Rattle.whole_turns.specs.declared.pieces.Loop.{Loop}
use Rattle.whole_turns.specs.declared.pieces.Piece.{Piece}
use Rattle.whole_turns.specs.declared.pieces.Piece.TheVariants as piece
use Rattle.whole_turns.specs.declared.pieces.Next.{Next}
use Rattle.whole_turns.specs.declared.pieces.Next.TheVariants as next
use Rattle.whole_turns.specs.declared.activation.Activation.{Activation}
use Rattle.whole_turns.specs.declared.activation.Suspended.{Suspended}
use Rattle.whole_turns.specs.declared.activation.At.{At}
use Rattle.whole_turns.specs.declared.activation.At.TheVariants as at

-- ---- the statements that are left

abbrev pub loop_of : Loop → Stmt
loop_of l = stmt.While l.place l.test.now l.invariant.now l.body.now

abbrev pub stmts_of : Piece → List Stmt
stmts_of (piece.Block stmts) = stmts.now
stmts_of (piece.Again l) = loop_of l ∷ []
stmts_of (piece.Behind l) = behind_cut l.place l.test.now l.invariant.now l.body.now ∷ []

-- of all pieces, the first one on top
abbrev pub left_of : List Piece → List Stmt
left_of pieces = flat_map stmts_of pieces

-- the form of the statement that comes next
abbrev pub form_of : Next → Stmt-F Stmt
form_of (next.Do line a) = Stmt-F.Do line a.now
form_of (next.If line c first other) = Stmt-F.If line c.now first.now other.now
form_of (next.While l) = Stmt-F.While l.place l.test.now l.invariant.now l.body.now
form_of (next.Behind l) = Stmt-F.If l.place.line l.test.now (l.body.now ++ loop_of l ∷ []) []
form_of (next.Split place a) = Stmt-F.Split place a.now
form_of (next.Call place call) = Stmt-F.Call place call.now

-- the statement that was found before those that are left
abbrev pub front : Option Next → List Stmt → List Stmt
front None left = left
front (Some found) left = roll-Stmt (form_of found) ∷ left

-- ---- procedures, calls and states

abbrev pub entry_of : Activation → ProcEntry
entry_of a = record { vars = a.vars.now; proc = a.proc.now }

abbrev pub frame_of : Activation → StoreMap → Frame
frame_of a s = record { entry = entry_of a; store = s; left = left_of a.left }

abbrev pub waiting_of : Suspended → Waiting
waiting_of w = record { call = w.call.now; caller = frame_of w.caller w.rest }

abbrev pub all_waiting : List Suspended → List Waiting
all_waiting waiting = map waiting_of waiting

abbrev pub state_of : At → List Waiting → State
state_of (at.Running a s) waiting = runs (frame_of a s) waiting
state_of (at.Exited t) waiting = exited t waiting
