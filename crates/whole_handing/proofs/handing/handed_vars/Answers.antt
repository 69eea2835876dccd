use Rattle.std.proofs.Common.{◌∙◌, ◌++◌, List, map, ap₂}
use Rattle.store_core.specs.declared.ids.VarId.{VarId}
use Rattle.store_core.specs.declared.value.Value.{Value}
use Rattle.pale_calls.specs.declared.actual.Actual.{Actual}
use Rattle.whole_run.specs.Handing.{handed_value, blank_at}
use Rattle.whole_handing.proofs.handing.handed_vars.Goals as goal

-- the four parts, one behind the other. The names of the equations of the slices are those of calls in order of the text
pub returns : goal.returns
returns c =
    let handed = handed_value c.args.store.now c.args.cells.now in
    let blank = blank_at c.args.vars.now in
    c.in_ok-push_handed-2.ensures
    ∙ ap₂ (λ (before : List Value) (actuals : List Actual). before ++ map handed actuals)
    (c.in_ok-push_blank-2.ensures
    ∙ ap₂ (λ (before : List Value) (listed : List VarId). before ++ map blank listed)
    (c.in_ok-push_blank.ensures
    ∙ ap₂ (λ (before : List Value) (listed : List VarId). before ++ map blank listed)
    (c.in_ok-push_handed.ensures ∙ ap₂ (λ (before : List Value) (actuals : List Actual). before ++ map handed actuals) c.new-values.ensures c.as_slice.ensures)
    c.as_slice-2.ensures)
    c.as_slice-3.ensures)
    c.as_slice-4.ensures
