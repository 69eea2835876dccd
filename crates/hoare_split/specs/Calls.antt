-- What a call hands over and gets back. (Møller and Schwartzbach, PLDI 2001: procedure calls.)
use Rattle.std.specs.Prelude.{List, [], ◌∷◌, ◌++◌, map, filter, flat_map, slice_get}
use Rattle.std.specs.Option.{option_map_or}
use Rattle.store_core.specs.declared.ids.VarId.{VarId}
use Rattle.store_core.specs.Tables.{VarEntry}
use Rattle.store_logic.specs.declared.assertion.Assertion.{Assertion}
use Rattle.store_logic.specs.declared.assertion.Assertion.TheVariants as assertion
use Rattle.store_logic.specs.declared.region.Region.TheVariants as region
use Rattle.store_exec.specs.declared.triple.Claim.{Claim}
use Rattle.pale_calls.specs.declared.actual.Actual.{Actual}
use Rattle.pale_calls.specs.declared.actual.Actual.TheVariants as actual
use Rattle.pale_typed.specs.declared.typed.CallParts.{CallParts}
use Rattle.pale_typed.specs.declared.typed.ProcEntry.{ProcEntry}
use Rattle.pale_typed.specs.declared.typed.TypedProc.{TypedProc}
use Rattle.hoare_split.specs.Picking.{class_at, is_data}
use Rattle.hoare_fill.specs.Putting.{beside, with_puts}

-- ---- the parts

-- the data variables among these, in their order
abbrev pub returned_by : List VarEntry → List VarId → List VarId
returned_by vars results = filter (λ v. is_data (class_at vars v)) results

abbrev pub variable_in : Actual → List VarId
variable_in (actual.Var v) = v ∷ []
variable_in actual.Null = []
variable_in (actual.Truth truth) = []

-- the data variables among the arguments, in their order
abbrev pub handed_by : List VarEntry → List Actual → List VarId
handed_by vars args = returned_by vars (flat_map variable_in args)

-- ---- the claims

-- one assertion on all cells
abbrev pub on_all : Assertion → List Claim
on_all a = record { region = region.All; assertion = a } ∷ []

-- one on the part that these variables reach, and then another on the rest
abbrev pub on_part_and_rest : List VarId → Assertion → Assertion → List Claim
on_part_and_rest part inside outside =
    record { region = region.Part part; assertion = inside } ∷ record { region = region.Rest part; assertion = outside } ∷ []

-- `pre` with the arguments put in
abbrev pub pre_for : CallParts → TypedProc → Assertion
pre_for call callee = with_puts (beside callee.params call.args ++ beside callee.logics call.logics) callee.pre

-- `post` with the results and the logic arguments put in
abbrev pub post_for : CallParts → TypedProc → Assertion
post_for call callee = with_puts (beside callee.results (map (λ v. actual.Var v) call.results) ++ beside callee.logics call.logics) callee.post

-- the same of the procedure that is called; true where there is none of its number
abbrev pub pre_of : List ProcEntry → CallParts → Assertion
pre_of procs call = option_map_or (λ e. pre_for call e.proc) (slice_get procs call.callee) assertion.True

abbrev pub post_of : List ProcEntry → CallParts → Assertion
post_of procs call = option_map_or (λ e. post_for call e.proc) (slice_get procs call.callee) assertion.True
