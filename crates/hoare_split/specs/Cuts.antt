-- What is checked on arriving at each kind of cut.
use Rattle.std.specs.Prelude.{ℕ, List, [], Some, None}
use Rattle.store_core.specs.Tables.{VarEntry}
use Rattle.store_logic.specs.declared.assertion.Assertion.{Assertion}
use Rattle.store_exec.specs.declared.triple.Cut.{Cut}
use Rattle.pale_text.specs.declared.place.Pos.{Pos}
use Rattle.pale_typed.specs.declared.typed.CallParts.{CallParts}
use Rattle.pale_typed.specs.declared.typed.ProcEntry.{ProcEntry}
use Rattle.hoare_split.specs.declared.point.Point.TheVariants as point
use Rattle.hoare_split.specs.Picking.{those, is_lent}
use Rattle.hoare_split.specs.Calls.{handed_by, pre_of, on_all, on_part_and_rest}
use Rattle.hoare_split.specs.Flows.{Arrival}

-- the assertion on all cells
abbrev pub plain_cut : ℕ → Assertion → Cut
plain_cut line a = record { line = line; handed = None; inside = []; asserts = on_all a }

-- the callee's `pre` on what is handed over, and `keep` on the rest
abbrev pub call_cut : List ProcEntry → List VarEntry → ℕ → CallParts → Cut
call_cut procs vars line call = record {
  line = line;
  handed = Some (handed_by vars call.args);
  inside = those (is_lent call) vars;
  asserts = on_part_and_rest (handed_by vars call.args) (pre_of procs call) call.keep;
}

-- at a `while` its invariant, and at a `split` its assertion
abbrev pub at_assertion : Pos → Assertion → Arrival
at_assertion place a = record { point = point.At place; cut = plain_cut place.line a }

abbrev pub at_call : List ProcEntry → List VarEntry → Pos → CallParts → Arrival
at_call procs vars place call = record { point = point.At place; cut = call_cut procs vars place.line call }

-- at the exit `post`
abbrev pub at_exit : ℕ → Assertion → Arrival
at_exit line post = record { point = point.Exit; cut = plain_cut line post }
