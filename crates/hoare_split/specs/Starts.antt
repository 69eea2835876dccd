-- What holds where each kind of triple starts.
use Rattle.std.specs.Prelude.{List, [], Some, None}
use Rattle.store_core.specs.Tables.{VarEntry}
use Rattle.store_logic.specs.declared.assertion.Assertion.{Assertion}
use Rattle.store_exec.specs.declared.triple.Start.{Start}
use Rattle.pale_typed.specs.declared.typed.CallParts.{CallParts}
use Rattle.pale_typed.specs.declared.typed.ProcEntry.{ProcEntry}
use Rattle.pale_typed.specs.declared.typed.TypedProc.{TypedProc}
use Rattle.hoare_split.specs.Picking.{those, is_fresh, is_spent, is_gained}
use Rattle.hoare_split.specs.Calls.{returned_by, post_of, on_all, on_part_and_rest}

-- at a `while` the invariant holds, and at a `split` its assertion
abbrev pub plain_start : Assertion → Start
plain_start a = record { nulls = []; returned = None; inside = []; asserts = on_all a }

-- at the entry results and locals are null or false, and `pre` holds
abbrev pub entry_start : List VarEntry → TypedProc → Start
entry_start vars p = record { nulls = those (is_fresh p) vars; returned = None; inside = []; asserts = on_all p.pre }

-- after a call its data and pointer arguments that are no results are null, the callee's `post` holds on what is returned, and
-- `keep` on the rest
abbrev pub call_start : List ProcEntry → List VarEntry → CallParts → Start
call_start procs vars call = record {
  nulls = those (is_spent call) vars;
  returned = Some (returned_by vars call.results);
  inside = those (is_gained call) vars;
  asserts = on_part_and_rest (returned_by vars call.results) (post_of procs call) call.keep;
}
